use Rattle.std.proofs.Common.{◌≤◌, ℕ, List, take}
use Rattle.std.specs.Prelude.{vec_capacity}
use Rattle.fine_model.specs.declared.Row.{Row}
use Rattle.partition_index.specs.Indexer.{Indexes}
use Rattle.log_partition.specs.Encoding.{AreRowsAt}
use Rattle.log_partition.proofs.encoding.put_index.Given as goal

abbrev pub invariant-loop-key : goal.invariant-loop-key
invariant-loop-key l = record {
  fed : (bytes : List ℕ) (rows : List Row) → AreRowsAt 67108864 bytes l.keys rows → Indexes l.fn.out.items (take l.key-index rows) l.indexer;
  capacity : vec_capacity l.fn.out ≤ l.indexer.capacity;
}
