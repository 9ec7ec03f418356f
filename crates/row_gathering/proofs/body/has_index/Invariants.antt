-- The entries so far are those of the rows so far, which have these keys.
use Rattle.std.proofs.Common.{◌≡◌, ℕ, List}
use Rattle.fine_model.specs.declared.Row.{Row}
use Rattle.log_partition.specs.Bodies.{AreTheRows}
use Rattle.row_gathering.specs.Steps.{IndexedSoFar, keys_from}
use Rattle.row_gathering.proofs.body.has_index.Given as goal

abbrev pub invariant-loop-key : goal.invariant-loop-key
invariant-loop-key l = (start : ℕ) (rows : List Row) → AreTheRows l.header l.body rows → l.keys ≡ keys_from start rows → IndexedSoFar l.header l.body rows l.key-index l.count l.last l.offset
