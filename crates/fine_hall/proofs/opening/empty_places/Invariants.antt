use Rattle.std.proofs.Common.{◌≡◌, ◌+◌, ◌≤◌, ◌++◌, List, map, reverse, length}
use Rattle.std.specs.Prelude.{vec_len, vec_capacity}
use Rattle.fine_hall.specs.Opening.{bucket_slot, laid_places}
use Rattle.fine_hall.proofs.opening.empty_places.Given as goal

abbrev pub invariant-loop-bucket : goal.invariant-loop-bucket
invariant-loop-bucket g l = record {
  left : (left : List g.row.B.Denot) × (l.slots.items ≡ map bucket_slot left) × (l.fn.slots.items ≡ laid_places l.room (left ++ reverse l.buckets.items)) × (length left + vec_len l.buckets ≤ vec_capacity l.buckets);
}

abbrev pub decreases-loop-bucket : goal.decreases-loop-bucket
decreases-loop-bucket g l = length l.slots.items
