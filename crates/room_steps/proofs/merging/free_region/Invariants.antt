use Rattle.std.proofs.Common.{length}
use Rattle.room_shelf.specs.Shelves.{shelf}
use Rattle.room_steps.specs.Merging.{IsMerging}
use Rattle.room_steps.proofs.merging.free_region.Given as goal

-- so far neighbours were merged, and no call failed
abbrev pub invariant-loop-alloc : goal.invariant-loop-alloc
invariant-loop-alloc g l = IsMerging (shelf l.fn.room l.fn.out) (shelf l.room l.out)

abbrev pub decreases-loop-alloc : goal.decreases-loop-alloc
decreases-loop-alloc g l = length l.room.room.parts
