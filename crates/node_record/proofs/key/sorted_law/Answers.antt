use Rattle.node_record.proofs.Fronts.{sorted_law}
use Rattle.node_record.proofs.key.sorted_law.Goals as goal

pub returns : goal.returns
returns c = sorted_law
