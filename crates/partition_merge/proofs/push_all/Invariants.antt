use Rattle.std.proofs.Common.{◌≡◌, ◌++◌, take}
use Rattle.partition_merge.proofs.push_all.Given as goal

abbrev pub invariant-loop-row : goal.invariant-loop-row
invariant-loop-row l = l.merged ≡ l.fn.merged ++ take l.row-index l.rows
