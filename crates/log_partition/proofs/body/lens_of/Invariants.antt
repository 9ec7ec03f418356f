use Rattle.std.proofs.Common.{◌≡◌, map, take}
use Rattle.fine_model.specs.RowBytes.{row_len}
use Rattle.log_partition.proofs.body.lens_of.Given as goal

abbrev pub invariant-loop-row : goal.invariant-loop-row
invariant-loop-row l = l.lens.items ≡ map row_len (take l.row-index l.rows)
