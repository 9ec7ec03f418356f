use Rattle.std.proofs.Common.{◌≡◌, ◌-◌, drop}
use Rattle.fine_model.specs.RowBytes.{rows_len}
use Rattle.partition_merge.specs.Merging.{FitRows}
use Rattle.partition_merge.proofs.fold.excess.Given as goal

abbrev pub invariant-loop-row : goal.invariant-loop-row
invariant-loop-row l = record {
  rows : FitRows (drop l.row-index l.rows);
  left : l.len - rows_len l.rows ≡ l.left - rows_len (drop l.row-index l.rows);
}
