use Rattle.std.proofs.Common.{length}
use Rattle.room_shelf.specs.Shelves.{shelf}
use Rattle.room_steps.specs.Merging.{IsTidying}
use Rattle.room_steps.proofs.merging.merge_named.Given as goal

-- so far neighbours were merged that the policy named, and no call failed
abbrev pub invariant-loop-from : goal.invariant-loop-from
invariant-loop-from g l = IsTidying (shelf l.fn.room l.fn.out) (shelf l.room l.out)

abbrev pub decreases-loop-from : goal.decreases-loop-from
decreases-loop-from g l = length l.room.room.parts
