use Rattle.log_partition.proofs.RowsRead.{rises}
use Rattle.log_partition.proofs.body.decode_body.Goals as goal

pub build-requires-clause-order : goal.build-requires-clause-order
build-requires-clause-order c = rises c.in_ok-rows.rows c.in_ok-rows.ensures.ok.good.ordered
