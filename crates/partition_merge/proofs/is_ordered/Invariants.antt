use Rattle.std.proofs.Common.{◌≡◌, length}
use Rattle.fine_model.specs.Merge.{is_ordered}
use Rattle.partition_merge.proofs.is_ordered.Given as goal

-- the rows that are left are in order where all are
abbrev pub invariant-loop-row : goal.invariant-loop-row
invariant-loop-row l = is_ordered l.rows ≡ is_ordered l.left

abbrev pub decreases-loop-row : goal.decreases-loop-row
decreases-loop-row l = length l.left
