use Rattle.std.proofs.Common.{◌≡◌, ℕ, List, take}
use Rattle.fine_model.specs.declared.Row.{Row}
use Rattle.fine_model.specs.RowBytes.{rows_len}
use Rattle.log_partition.specs.Encoding.{AreRowsAt}
use Rattle.log_partition.proofs.Keyed.{Counted}
use Rattle.log_partition.proofs.encoding.header_for.Given as goal

abbrev pub invariant-loop-key : goal.invariant-loop-key
invariant-loop-key l = record {
  nodes : (bytes : List ℕ) (rows : List Row) → AreRowsAt 67108864 bytes l.keys rows → Counted (take l.key-index rows) l.nodes l.last;
  area : (bytes : List ℕ) (rows : List Row) → AreRowsAt 67108864 bytes l.keys rows → l.area ≡ rows_len (take l.key-index rows);
}
