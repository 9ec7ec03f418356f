use Rattle.std.proofs.Common.{◌≡◌, length}
use Rattle.epoch_room.specs.MergeSteps.{neighbours_from}
use Rattle.epoch_room.proofs.room.merging.first_neighbours.Given as goal

-- the first neighbours of those that are left are the first of all
abbrev pub invariant-loop-older : goal.invariant-loop-older
invariant-loop-older l = neighbours_from l.from l.parts ≡ neighbours_from l.from l.left

abbrev pub decreases-loop-older : goal.decreases-loop-older
decreases-loop-older l = length l.left
