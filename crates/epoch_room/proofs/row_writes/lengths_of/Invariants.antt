use Rattle.std.proofs.Common.{◌≡◌, map, take}
use Rattle.fine_model.specs.RowBytes.{row_len}
use Rattle.epoch_room.proofs.row_writes.lengths_of.Given as goal

abbrev pub invariant-loop-row : goal.invariant-loop-row
invariant-loop-row l = l.lens.items ≡ map row_len (take l.row-index l.rows)
