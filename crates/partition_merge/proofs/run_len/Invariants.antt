use Rattle.std.proofs.Common.{◌≡◌, ◌+◌, drop}
use Rattle.partition_merge.specs.Merging.{run_len}
use Rattle.partition_merge.proofs.run_len.Given as goal

abbrev pub invariant-loop-i : goal.invariant-loop-i
invariant-loop-i l = run_len l.node l.rows ≡ l.i + run_len l.node (drop l.i l.rows)
