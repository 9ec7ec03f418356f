use Rattle.std.proofs.Common.{◌≡◌, ◌≤◌, ◌++◌, List, take}
use Rattle.std.specs.Prelude.{vec_capacity}
use Rattle.fine_model.specs.declared.Row.{Row}
use Rattle.fine_model.specs.RowBytes.{rows_bytes}
use Rattle.node_record.specs.Keys.{AreKeysOf}
use Rattle.log_partition.proofs.encoding.put_rows.Given as goal

abbrev pub invariant-loop-key : goal.invariant-loop-key
invariant-loop-key l = record {
  items : (rows : List Row) → AreKeysOf l.bytes rows l.keys → l.out.items ≡ l.fn.out.items ++ rows_bytes (take l.key-index rows);
  capacity : vec_capacity l.fn.out ≤ vec_capacity l.out;
}
