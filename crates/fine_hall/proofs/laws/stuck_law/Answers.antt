use Rattle.fine_hall.proofs.laws.stuck_law.Goals as goal
use Rattle.fine_hall.proofs.Since.{stuck_law, stuck_within}

pub returns : goal.returns
returns c = record { turn = stuck_law; within = stuck_within }
