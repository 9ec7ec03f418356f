use Rattle.std.proofs.Common.{◌≡◌, ◌+◌, ◌≤◌, ◌++◌, List, Option, reverse, length}
use Rattle.std.specs.Prelude.{vec_len, vec_capacity}
use Rattle.fine_hall.specs.declared.law.Load.{Load}
use Rattle.fine_hall.specs.Opening.{laid_views}
use Rattle.fine_hall.proofs.opening.empty_views.Given as goal

abbrev pub invariant-loop : goal.invariant-loop
invariant-loop g l = record {
  left : (front : List (Option (Load g.row.R.Denot g.row.B.Denot g.row.V.Denot))) × (left : List g.row.V.Denot) × (l.slots.items ≡ front ++ laid_views left) × (l.fn.slots.items ≡ front ++ laid_views (left ++ reverse l.middles.items)) × (length left + l.counter ≡ l.fn.count);
  counted : vec_len l.middles ≡ l.counter;
  long : length l.middles.items ≡ l.counter;
  room : (l.fn.count ≤ vec_capacity l.middles) × (l.count ≡ l.fn.count);
}
