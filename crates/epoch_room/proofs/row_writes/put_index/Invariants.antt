use Rattle.std.proofs.Common.{◌≡◌, ◌++◌, take}
use Rattle.std.specs.Prelude.{flat_map}
use Rattle.partition_index.specs.Entries.{bytes_of}
use Rattle.epoch_room.proofs.row_writes.put_index.Given as goal

abbrev pub invariant-loop-entry : goal.invariant-loop-entry
invariant-loop-entry l = l.out.items ≡ l.fn.out.items ++ flat_map bytes_of (take l.entry-index l.entry-items)
