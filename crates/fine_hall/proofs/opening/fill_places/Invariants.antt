use Rattle.std.proofs.Common.{◌≡◌, ◌+◌, ◌≤◌, ◌++◌, map, reverse}
use Rattle.std.specs.Prelude.{vec_len, vec_capacity}
use Rattle.fine_hall.specs.Opening.{bucket_slot, laid_places}
use Rattle.fine_hall.proofs.opening.fill_places.Given as goal

abbrev pub invariant-loop-bucket : goal.invariant-loop-bucket
invariant-loop-bucket g l = record {
  filled : map bucket_slot l.buckets.items ++ reverse l.slots.items ≡ laid_places l.fn.room l.fn.buckets.items ++ reverse l.fn.slots.items;
  room : vec_len l.buckets + vec_len l.slots ≤ vec_capacity l.slots;
  same : vec_capacity l.buckets ≡ vec_capacity l.fn.buckets;
}

abbrev pub decreases-loop-bucket : goal.decreases-loop-bucket
decreases-loop-bucket g l = vec_len l.buckets
