use Rattle.fine_model.proofs.Trees.NodeLaws.{replay-append, content-append}
use Rattle.fine_model.proofs.laws.replay_law.Goals as goal

pub returns : goal.returns
returns c = record { replay = replay-append; content = content-append }
