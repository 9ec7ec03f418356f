use Rattle.partition_merge.proofs.JoinedFinds.{measured_law}
use Rattle.partition_merge.proofs.ToldJoins.{once_law}
use Rattle.partition_merge.proofs.laws.joins_law.Goals as goal

pub returns : goal.returns
returns c = record { once = once_law; measured = measured_law }
