-- The fault that is told is the soonest of those that there are.
use Rattle.std.proofs.Common.{◌≡◌, ◌⊎◌, inl, inr, ⊎_elim, ℕ, suc, ◌≤◌, nat_lt, Bool, true, false, List, [], ◌∷◌, ◌++◌, Option, None, refl, sym, ◌∙◌, arith}
use Rattle.std.specs.Prelude.{fold, if◌then◌else◌, Contains}
use Rattle.std.specs.List.{AllByRecursion}
use Rattle.std.proofs.lemmas.List.Sums.{fold-append}
use Rattle.fine_model.specs.declared.RunFault.{RunFault}
use Rattle.run_laws.specs.Lanes.{IsSoonest, first_fault, rank, sooner}

abbrev told : Option RunFault → List (Option RunFault) → Option RunFault
told a faults = fold sooner a faults

not_below : (m n : ℕ) → nat_lt m n ≡ false → n ≤ m
not_below m n h = grind (arith, h)

below : (m n : ℕ) → nat_lt m n ≡ true → m ≤ n
below m n h = grind (arith, h)

-- the sooner of two is one of them, and neither would be told before it
by_test : (a b : Option RunFault) (t : Bool) → nat_lt (rank b) (rank a) ≡ t → (rank (if t then b else a) ≤ rank a) × (rank (if t then b else a) ≤ rank b) × (((if t then b else a) ≡ a) ⊎ ((if t then b else a) ≡ b))
by_test a b true is = (below (rank b) (rank a) is, omega arith, inr refl)
by_test a b false is = (omega arith, not_below (rank b) (rank a) is, inl refl)

of_two : (a b : Option RunFault) → (rank (sooner a b) ≤ rank a) × (rank (sooner a b) ≤ rank b) × ((sooner a b ≡ a) ⊎ (sooner a b ≡ b))
of_two a b = by_test a b (nat_lt (rank b) (rank a)) refl

at_most : (faults : List (Option RunFault)) (a : Option RunFault) → (rank (told a faults) ≤ rank a) × AllByRecursion (λ fault. rank (told a faults) ≤ rank fault) faults
at_most [] a = (omega arith, tt)
at_most (b ∷ faults) a =
    let two = of_two a b in let left = at_most faults (sooner a b) in
    let below = left.0 in let first = two.0 in let second = two.1 in
    (omega (arith, below, first), (omega (arith, below, second), left.1))

later : (b f : Option RunFault) (faults : List (Option RunFault)) → Contains faults f → Contains (b ∷ faults) f
later b f faults (k, within, is) = let w = within in (suc k, omega (arith, w), is)

among : (faults : List (Option RunFault)) (a : Option RunFault) → (told a faults ≡ a) ⊎ Contains faults (told a faults)
among [] a = inl refl
among (b ∷ faults) a = ⊎_elim (λ is. first is (of_two a b).2) (λ there. inr (later b (told (sooner a b) faults) faults there)) (among faults (sooner a b))
  where
    first : told (sooner a b) faults ≡ sooner a b → (sooner a b ≡ a) ⊎ (sooner a b ≡ b) → (told a (b ∷ faults) ≡ a) ⊎ Contains (b ∷ faults) (told a (b ∷ faults))
    first is (inl old) = inl (is ∙ old)
    first is (inr new) = inr (0, omega arith, sym (is ∙ new))

-- with one after them, it is the sooner of this and the soonest of them
pub soonest_with : (faults : List (Option RunFault)) (last : Option RunFault) → first_fault (faults ++ last ∷ []) ≡ sooner (first_fault faults) last
unfolding first_fault
soonest_with faults last = fold-append sooner None faults (last ∷ [])

pub is_soonest : (faults : List (Option RunFault)) → IsSoonest faults (first_fault faults)
unfolding first_fault
is_soonest faults = record { among = among faults None; soonest = (at_most faults None).1 }
