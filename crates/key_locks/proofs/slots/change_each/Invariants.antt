use Rattle.std.proofs.Common.{◌≡◌, length}
use Rattle.std.specs.Prelude.{vec_capacity}
use Rattle.key_locks.specs.Slots.{LeavesAt}
use Rattle.key_locks.proofs.Numbered.{SoFar}
use Rattle.key_locks.proofs.slots.change_each.Given as goal

abbrev pub invariant-loop-number : goal.invariant-loop-number
invariant-loop-number g l = record {
  so_far : SoFar (LeavesAt g.F.Fn l.change) l.left l.initial.places.items l.places.items;
  capacity : vec_capacity l.places ≡ vec_capacity l.initial.places;
}

abbrev pub decreases-loop-number : goal.decreases-loop-number
decreases-loop-number g l = length l.left
