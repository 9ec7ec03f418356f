use Rattle.fine_hall.proofs.laws.since_law.Goals as goal
use Rattle.fine_hall.proofs.Since.{since_law, since_turn}

pub returns : goal.returns
returns c = record { after = since_law; turn = since_turn }
