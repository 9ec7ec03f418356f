use Rattle.log_partition.proofs.Sealed.{sealed_again}
use Rattle.log_partition.proofs.encoding.encode_law.Goals as goal

pub returns : goal.returns
returns c = sealed_again
