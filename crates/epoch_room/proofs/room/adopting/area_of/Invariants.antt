use Rattle.std.proofs.Common.{◌≡◌, take}
use Rattle.fine_model.specs.RowBytes.{rows_len}
use Rattle.epoch_room.proofs.room.adopting.area_of.Given as goal

abbrev pub invariant-loop-row : goal.invariant-loop-row
invariant-loop-row l = l.area ≡ rows_len (take l.row-index l.rows)
