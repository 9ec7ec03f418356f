use Rattle.std.proofs.Common.{length}
use Rattle.epoch_room.proofs.Merges.LongBodies.{WrittenTo}
use Rattle.epoch_room.proofs.row_writes.write_long.Given as goal

-- what was written so far, and what is left
abbrev pub invariant-loop-left : goal.invariant-loop-left
invariant-loop-left g l = WrittenTo l.part l.at l.bytes (g.D.LogDisk.state l.fn.disk) (g.D.LogDisk.state l.disk) l.next l.left

abbrev pub decreases-loop-left : goal.decreases-loop-left
decreases-loop-left g l = length l.left
