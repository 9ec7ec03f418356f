use Rattle.std.proofs.Common.{◌++◌, drop}
use Rattle.fine_model.specs.Regions.{body_bytes, index_bytes}
use Rattle.fine_model.specs.RowBytes.{rows_bytes}
use Rattle.epoch_room.proofs.Merges.LongBodies.{WrittenTo}
use Rattle.epoch_room.proofs.row_writes.write_rows.Given as goal

-- what was written so far, and behind it the block, the rows that are left, and the index
abbrev pub invariant-loop-row : goal.invariant-loop-row
invariant-loop-row g l = WrittenTo l.part 0 (body_bytes l.rows) (g.D.LogDisk.state l.fn.disk) (g.D.LogDisk.state l.disk) l.at (l.block.items ++ (rows_bytes (drop l.row-index l.rows) ++ index_bytes l.rows))
