use Rattle.hall_rooms.proofs.Erased.{erased_or}
use Rattle.hall_rooms.proofs.settling.erase_unheld.Goals as goal

pub returns : goal.returns
returns g c = erased_or c.args.room.now c.erase_all.new.self c.counts-whole.ensures.whole c.erase_all.ensures.beside c.erase_all.ensures.keeps c.erase_all.ensures.job c.erase_all.result c.erase_all.ensures.room c.erase_all.ensures.left
