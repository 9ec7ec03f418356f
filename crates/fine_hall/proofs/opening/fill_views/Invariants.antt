use Rattle.std.proofs.Common.{◌≡◌, ◌+◌, ◌*◌, ◌++◌, reverse}
use Rattle.std.specs.Prelude.{vec_len, vec_capacity}
use Rattle.fine_hall.specs.Opening.{laid_views}
use Rattle.fine_hall.proofs.opening.fill_views.Given as goal

abbrev pub invariant-loop-view : goal.invariant-loop-view
invariant-loop-view g l = record {
  filled : laid_views l.middles.items ++ reverse l.slots.items ≡ laid_views l.fn.middles.items;
  room : 3 * vec_len l.middles + vec_len l.slots ≡ 3 * vec_len l.fn.middles;
  same : (vec_capacity l.middles ≡ vec_capacity l.fn.middles) × (vec_capacity l.slots ≡ vec_capacity l.fn.slots);
}

abbrev pub decreases-loop-view : goal.decreases-loop-view
decreases-loop-view g l = vec_len l.middles
