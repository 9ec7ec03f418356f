use Rattle.std.proofs.Common.{◌≡◌, drop}
use Rattle.log_partition.specs.Encoding.{names}
use Rattle.log_partition.proofs.encoding.is_named.Given as goal

-- what the rows name, those that are left name
abbrev pub invariant-loop-row : goal.invariant-loop-row
invariant-loop-row l = names l.node l.rows ≡ names l.node (drop l.row-index l.rows)
