use Rattle.hall_rooms.proofs.Filled.{stuck_then}
use Rattle.hall_rooms.proofs.laws.space_law.Goals as goal

pub returns : goal.returns
returns c = stuck_then
