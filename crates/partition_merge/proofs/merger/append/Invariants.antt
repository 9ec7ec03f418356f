use Rattle.std.proofs.Common.{◌≡◌, ◌++◌}
use Rattle.partition_merge.proofs.merger.append.Given as goal

-- all rows are those that were moved so far and those that are left
abbrev pub invariant-loop-row : goal.invariant-loop-row
invariant-loop-row l = l.rows ++ l.row-iterator.rest.items ≡ l.initial.rows ++ l.initial.row-iterator.rest.items
