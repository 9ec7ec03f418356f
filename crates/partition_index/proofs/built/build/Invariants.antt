use Rattle.std.proofs.Common.{◌≡◌, take}
use Rattle.fine_model.specs.RowBytes.{rows_len}
use Rattle.partition_index.specs.Indexer.{IsBuilt}
use Rattle.partition_index.proofs.built.build.Given as goal

abbrev pub invariant-loop-i : goal.invariant-loop-i
invariant-loop-i l = record {
  offset : l.offset ≡ rows_len (take l.i l.rows);
  built : IsBuilt (take l.i l.rows) l.whole.items l.last;
}
