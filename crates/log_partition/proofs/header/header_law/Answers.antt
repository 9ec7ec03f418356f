use Rattle.log_partition.proofs.Heads.{header_same}
use Rattle.log_partition.proofs.header.header_law.Goals as goal

pub returns : goal.returns
returns c = header_same
