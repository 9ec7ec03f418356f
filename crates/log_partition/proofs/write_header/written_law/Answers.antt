use Rattle.log_partition.proofs.GoodHeaders.{written_header, written_partition}
use Rattle.log_partition.proofs.write_header.written_law.Goals as goal

pub returns-clause-header : goal.returns-clause-header
returns-clause-header c = written_header

pub returns-clause-partition : goal.returns-clause-partition
returns-clause-partition c = written_partition
