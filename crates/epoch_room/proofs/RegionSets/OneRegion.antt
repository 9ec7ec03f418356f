-- A set of one region.
use Rattle.std.proofs.Common.{◌≡◌, ℕ, zero, suc, ◌+◌, ◌<◌, ◌≤◌, nat_eq, true, false, cond, ◌||◌, [], ◌∷◌, refl, ap, ◌∙◌, arith, inl, inr}
use Rattle.std.specs.Prelude.{filter}
use Rattle.std.specs.List.{range_with_len}
use Rattle.std.proofs.lemmas.Bool.{cases_lt}
use Rattle.fine_model.specs.Boards.{regions_by, set_of}

above : (r a n : ℕ) → r < a → filter (λ x. nat_eq x r || false) (range_with_len a n) ≡ []
above r a zero low = refl
above r a (suc n) low = ap (λ b. cond b (a ∷ filter (λ x. nat_eq x r || false) (range_with_len (a + 1) n)) (filter (λ x. nat_eq x r || false) (range_with_len (a + 1) n))) (other a r low) ∙ above r (a + 1) n (omega (arith, low))
  where
    other : (m n : ℕ) → n < m → (nat_eq m n || false) ≡ false
    other m n h = grind (arith, h)

one_in : (r a n : ℕ) → a ≤ r → r < a + n → filter (λ x. nat_eq x r || false) (range_with_len a n) ≡ r ∷ []
one_in r a zero low high = absurd (omega (arith, low, high))
one_in r a (suc n) low high = elim (cases_lt a r) as (λ _. filter (λ x. nat_eq x r || false) (range_with_len a (suc n)) ≡ r ∷ []) [
  | inl below ↦
      ap (λ b. cond b (a ∷ filter (λ x. nat_eq x r || false) (range_with_len (a + 1) n)) (filter (λ x. nat_eq x r || false) (range_with_len (a + 1) n))) (other a r below)
      ∙ one_in r (a + 1) n (omega (arith, below)) (omega (arith, high))
  | inr past ↦
      let is : a ≡ r = omega (arith, low, past) in
      ap (λ b. cond b (a ∷ filter (λ x. nat_eq x r || false) (range_with_len (a + 1) n)) (filter (λ x. nat_eq x r || false) (range_with_len (a + 1) n))) (same a r is)
      ∙ ap (λ xs. a ∷ xs) (above r (a + 1) n (omega (arith, is))) ∙ ap (λ b. b ∷ []) is
]
  where
    other : (m n : ℕ) → m < n → (nat_eq m n || false) ≡ false
    other m n h = grind (arith, h)

    same : (m n : ℕ) → m ≡ n → (nat_eq m n || false) ≡ true
    same m n h = grind (arith, h)

pub set_one : (r : ℕ) → r < 64 → set_of (r ∷ []) ≡ r ∷ []
unfolding regions_by
set_one r low = one_in r 0 64 (omega arith) (omega (arith, low))
