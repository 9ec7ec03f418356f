use Rattle.std.proofs.Common.{◌∙◌}
use Rattle.hall_accounts.proofs.Gone.{goes}
use Rattle.hall_accounts.proofs.steps.show_now.Goals as goal

pub returns : goal.returns
returns g c = let e = c.show.ensures in record { going = (goes c.args.hall.now c.take_back.new.seat.txn c.show.new.pass e.idle.0 c.take_back.ensures.free, e.idle.1 ∙ c.take_back.ensures.idle.1) }
