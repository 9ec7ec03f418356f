-- A vector that was lent as a slice.
use Rattle.std.proofs.Common.{◌≡◌, ℕ, ◌==◌, true, List, ◌++◌, length, sym, ap, ◌∙◌, arith}
use Rattle.std.specs.Prelude.{drop, take}
use Rattle.lane_runs.proofs.Lists.{take_front}

-- it has the items of the slice, which has as many as it had
pub given_back : {A : Type 0} (n : ℕ) (new old : List A) → length new ≡ n → take n (new ++ drop (length new) old) ≡ new
given_back n new old long = ap (λ k. take k (new ++ drop (length new) old)) (sym long) ∙ take_front new (drop (length new) old)

-- a vector that is found empty has no item
pub empty_is : (n : ℕ) → (n == 0) ≡ true → n ≡ 0
empty_is n h = grind (arith, h)
