use Rattle.std.proofs.Common.{length}
use Rattle.log_commands.specs.Merged.{IsMerging}
use Rattle.log_commands.proofs.merged.merge_all.Given as goal

-- so far neighbours were merged, and no call failed
abbrev pub invariant-loop-merged : goal.invariant-loop-merged
invariant-loop-merged g l = IsMerging l.fn.room l.room

abbrev pub decreases-loop-merged : goal.decreases-loop-merged
decreases-loop-merged g l = length l.room.room.parts
