use Rattle.std.proofs.Common.{ℕ, List, ◌≤◌, ◌-◌, length, take}
use Rattle.fine_model.specs.Map.{Pair}
use Rattle.fine_model.proofs.Ordered.Order.{AllBelow}
use Rattle.plain_model.proofs.store.place_of.Given as goal

pub record Passed (i : ℕ) (key : List ℕ) (pairs : List Pair) : Type 0 where
  pub within : i ≤ length pairs
  pub below : AllBelow key (take i pairs)

abbrev pub invariant-loop-i : goal.invariant-loop-i
invariant-loop-i l = Passed l.i l.key l.pairs

abbrev pub decreases-loop-i : goal.decreases-loop-i
decreases-loop-i l = length l.pairs - l.i
