-- Whether merged rows fit so many free regions, by one test of so many.
use Rattle.std.proofs.Common.{◌≡◌, ℕ, zero, suc, ◌+◌, ◌-◌, ◌*◌, ◌<◌, ◌≤◌, ◌==◌, nat_le, Bool, true, false, true≢false, cond, Some, refl, sym, ap, ◌∙◌, subst, arith, le_refl, leb-true, le-leb, eqb-true}
use Rattle.std.specs.Prelude.{Option, find, min}
use Rattle.std.specs.List.{range_with_len}
use Rattle.std.proofs.lemmas.Nat.{mul-le}
use Rattle.std.proofs.Math.Nat.{min-le_left, min-le_right, le-min}
use Rattle.fine_model.specs.RowBytes.{most_regions}
use Rattle.fine_model.specs.Merge.{cost, fits_in, merged, regions_for}
use Rattle.fine_model.specs.MergeSteps.{FreeFits, FitsOfTest}

-- what is found among numbers from one on passes, and it is the least that does
found_in : (p : ℕ → Bool) (a n k : ℕ) → find p (range_with_len a n) ≡ Some k → (a ≤ k) × (k < a + n) × (p k ≡ true)
found_in p a zero k is = absurd (cc)
found_in p a (suc n) k is = by (p a) refl is (found_in p (a + 1) n k)
  where
    by : (b : Bool) → p a ≡ b → cond b (Some a) (find p (range_with_len (a + 1) n)) ≡ Some k
        → (find p (range_with_len (a + 1) n) ≡ Some k → (a + 1 ≤ k) × (k < a + 1 + n) × (p k ≡ true)) → (a ≤ k) × (k < a + suc n) × (p k ≡ true)
    by true here is rest = let e : a ≡ k = cc in (omega (arith, e), omega (arith, e), subst (λ m. p m ≡ true) e here)
    by false here is rest = let r = rest is in let low = r.0 in let high = r.1 in (omega (arith, low), omega (arith, high), r.2)

finds_least : (p : ℕ → Bool) (a n m : ℕ) → a ≤ m → m < a + n → p m ≡ true → (k : ℕ) × (find p (range_with_len a n) ≡ Some k) × (k ≤ m)
finds_least p a zero m low high passes = absurd (omega (arith, low, high))
finds_least p a (suc n) m low high passes = by (p a) refl (λ above. finds_least p (a + 1) n m above (omega (arith, high)) passes)
  where
    by : (b : Bool) → p a ≡ b → (a + 1 ≤ m → (k : ℕ) × (find p (range_with_len (a + 1) n) ≡ Some k) × (k ≤ m)) → (k : ℕ) × (find p (range_with_len a (suc n)) ≡ Some k) × (k ≤ m)
    by true here rest = (a, ap {B = Option ℕ} (λ b. cond b (Some a) (find p (range_with_len (a + 1) n))) here, low)
    by false here rest =
        let other : a ≡ m → ⊥ = λ e. true≢false (sym passes ∙ ap p (sym e) ∙ here) in
        let r = rest (omega (arith, low, other)) in
        (r.0, ap {B = Option ℕ} (λ b. cond b (Some a) (find p (range_with_len (a + 1) n))) here ∙ r.1, r.2)

-- more regions hold as much, and so many hold less
more_regions : (region_len k m len : ℕ) → 1 ≤ k → k ≤ m → fits_in region_len k len ≡ true → fits_in region_len m len ≡ true
more_regions region_len k m len some le fits = by (k == 1) (m == 1) refl refl fits
  where
    by : (b c : Bool) → (k == 1) ≡ b → (m == 1) ≡ c → cond b (nat_le (41 + len) region_len) (nat_le (70 + len) (region_len + (k - 1) * (region_len - 1))) ≡ true
        → cond c (nat_le (41 + len) region_len) (nat_le (70 + len) (region_len + (m - 1) * (region_len - 1))) ≡ true
    by true true e f is = is
    by false true e f is = let g = eqb-true m 1 f in absurd (true≢false (sym (grind (arith, g, some, le)) ∙ e))
    by true false e f is =
        let g = eqb-true k 1 e in let h = leb-true (41 + len) region_len is in
        let n : m ≡ 1 → ⊥ = λ i. grind (arith, i, f) in
        let w = mul-le 1 (region_len - 1) (m - 1) (region_len - 1) (omega (arith, g, le, n)) (le_refl (region_len - 1)) in le-leb (70 + len) (region_len + (m - 1) * (region_len - 1)) (omega (arith, h, w))
    by false false e f is =
        let h = leb-true (70 + len) (region_len + (k - 1) * (region_len - 1)) is in
        let w = mul-le (k - 1) (region_len - 1) (m - 1) (region_len - 1) (omega (arith, le)) (le_refl (region_len - 1)) in le-leb (70 + len) (region_len + (m - 1) * (region_len - 1)) (omega (arith, h, w))

less_len : (region_len k len len' : ℕ) → len ≤ len' → fits_in region_len k len' ≡ true → fits_in region_len k len ≡ true
less_len region_len k len len' le fits = by (k == 1) fits
  where
    by : (b : Bool) → cond b (nat_le (41 + len') region_len) (nat_le (70 + len') (region_len + (k - 1) * (region_len - 1))) ≡ true
        → cond b (nat_le (41 + len) region_len) (nat_le (70 + len) (region_len + (k - 1) * (region_len - 1))) ≡ true
    by true is = let h = leb-true (41 + len') region_len is in le-leb (41 + len) region_len (omega (arith, h, le))
    by false is =
        let h = leb-true (70 + len') (region_len + (k - 1) * (region_len - 1)) is in
        le-leb (70 + len) (region_len + (k - 1) * (region_len - 1)) (omega (arith, h, le))

pub free_fits : FreeFits
unfolding regions_for
free_fits region_len free len older newer fits short =
    let r = found_in (λ k. fits_in region_len k (cost (merged older newer))) 1 8 fits.regions fits.needed in
    let enough = fits.enough in let low = r.0 in let high = r.1 in (
      omega (arith, low, enough),
      less_len region_len (min free most_regions) len (cost (merged older newer)) short
          (more_regions region_len fits.regions (min free most_regions) (cost (merged older newer)) low (le-min enough (omega (arith, high))) r.2),
    )

pub fits_of_test : FitsOfTest
unfolding regions_for
fits_of_test region_len free older newer ordered some test =
    let r = finds_least (λ k. fits_in region_len k (cost (merged older newer))) 1 8 (min free most_regions)
    (le-min some (omega arith)) (let h = min-le_right free most_regions in omega (arith, h)) test in
    let small = r.2 in let few = min-le_left free most_regions in
    record { ordered = ordered; regions = r.0; needed = r.1; enough = omega (arith, small, few) }
