-- The free regions as a set.
use Rattle.std.proofs.Common.{◌≡◌, ℕ, zero, suc, ◌+◌, ◌<◌, ◌≤◌, Bool, true, false, cond, ◌&&◌, [], ◌∷◌, refl, sym, ap, ◌∙◌, arith}
use Rattle.std.specs.Prelude.{filter, nat_lt}
use Rattle.std.specs.List.{range_with_len}
use Rattle.fine_model.specs.Boards.{regions_by, set_of}
use Rattle.partition_hold.proofs.Sets.{same_set}

none_from : (q : ℕ → Bool) (a n : ℕ) → ((i : ℕ) → a ≤ i → q i ≡ false) → filter q (range_with_len a n) ≡ []
none_from q a zero fails = refl
none_from q a (suc n) fails = ap (λ b. cond b (a ∷ filter q (range_with_len (a + 1) n)) (filter q (range_with_len (a + 1) n))) (fails a (omega arith)) ∙ none_from q (a + 1) n (λ i low. fails i (omega (arith, low)))

-- a test that passes nothing from a place on, and before it what another one passes
pub alike_from : (q p : ℕ → Bool) (a k n : ℕ) → k ≤ n → ((i : ℕ) → a ≤ i → i < a + k → q i ≡ p i) → ((i : ℕ) → a + k ≤ i → q i ≡ false) → filter q (range_with_len a n) ≡ filter p (range_with_len a k)
alike_from q p a zero n few same fails = none_from q a n (λ i low. fails i (omega (arith, low)))
alike_from q p a (suc k) zero few same fails = absurd (omega (arith, few))
alike_from q p a (suc k) (suc n) few same fails =
    ap (λ b. cond b (a ∷ filter q (range_with_len (a + 1) n)) (filter q (range_with_len (a + 1) n))) (same a (omega arith) (omega arith))
    ∙ ap (λ xs. cond (p a) (a ∷ xs) xs) (alike_from q p (a + 1) k n (omega (arith, few)) (λ i low high. same i (omega (arith, low)) (omega (arith, high))) (λ i low. fails i (omega (arith, low))))

-- regions of a disk that pass a test are a set
pub set_below : (p : ℕ → Bool) (k : ℕ) → k ≤ 64 → set_of (filter p (range_with_len 0 k)) ≡ filter p (range_with_len 0 k)
unfolding regions_by
set_below p k few =
    let q : ℕ → Bool = λ i. nat_lt i k && p i in
    let is : regions_by q ≡ filter p (range_with_len 0 k) = alike_from q p 0 k 64 few (λ i low high. same i high) (λ i low. fails i low) in
    ap set_of (sym is) ∙ same_set q ∙ is
  where
    below : (i : ℕ) → i < 0 + k → nat_lt i k ≡ true
    below i h = grind (arith, h)

    past : (i : ℕ) → 0 + k ≤ i → nat_lt i k ≡ false
    past i h = grind (arith, h)

    same : (i : ℕ) → i < 0 + k → (nat_lt i k && p i) ≡ p i
    same i h = ap (λ b. b && p i) (below i h)

    fails : (i : ℕ) → 0 + k ≤ i → (nat_lt i k && p i) ≡ false
    fails i h = ap (λ b. b && p i) (past i h)
