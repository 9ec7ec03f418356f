use Rattle.partition_index.proofs.Placed.{placed, front_stays}
use Rattle.partition_index.proofs.places.placed_law.Goals as goal

pub returns-clause-placed : goal.returns-clause-placed
returns-clause-placed c = placed

pub returns-clause-front : goal.returns-clause-front
returns-clause-front c = front_stays
