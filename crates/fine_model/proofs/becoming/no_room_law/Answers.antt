use Rattle.fine_model.proofs.Histories.Goings.{stuck_full}
use Rattle.fine_model.proofs.becoming.no_room_law.Goals as goal

pub returns : goal.returns
returns c = stuck_full
