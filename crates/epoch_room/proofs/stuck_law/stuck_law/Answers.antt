use Rattle.epoch_room.proofs.Stuck.{stuck_law}
use Rattle.epoch_room.proofs.stuck_law.stuck_law.Goals as goal

pub returns : goal.returns
returns c = stuck_law
