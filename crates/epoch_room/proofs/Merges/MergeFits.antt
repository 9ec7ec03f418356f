-- Two parts whose merge has taken its regions fit the free ones.
use Rattle.std.proofs.Common.{◌≡◌, ◌≢◌, ℕ, zero, suc, ◌+◌, ◌-◌, ◌*◌, ◌<◌, ◌≤◌, ◌==◌, nat_le, Bool, true, false, cond, List, [], ◌∷◌, ◌++◌, length, Some, refl, sym, ap, ◌∙◌, inl, inr, arith, append_assoc, eqb-true, eq-eqb, length-append, get_or, true≢false}
use Rattle.std.specs.Prelude.{find, if◌then◌else◌, slice_get}
use Rattle.std.specs.List.{range_with_len}
use Rattle.std.proofs.lemmas.Bool.{cases_lt}
use Rattle.std.proofs.lemmas.List.{get_or_at}
use Rattle.std.proofs.lemmas.Nat.{mul-le}
use Rattle.std.proofs.lemmas.Option.{slice_get-get_or}
use Rattle.fine_model.specs.declared.Header.{Header}
use Rattle.fine_model.specs.declared.Job.{Job}
use Rattle.fine_model.specs.declared.Part.{Part}
use Rattle.fine_model.specs.declared.Row.{Row}
use Rattle.fine_model.specs.Merge.{cost, fits_in, merged, regions_for, FitsFree}
use Rattle.fine_model.specs.Regions.{Image, body_len}
use Rattle.epoch_room.specs.MergeSealing.{WritesMerged}
use Rattle.epoch_room.specs.Whole.{HasRegions, IsTaken}

-- ---- the least number of regions

pub find_least : (p : ℕ → Bool) (a n k : ℕ) → a ≤ k → k < a + n → p k ≡ true → ((i : ℕ) → a ≤ i → i < k → p i ≡ false) → find p (range_with_len a n) ≡ Some k
find_least p a zero k low high passes others = absurd (omega (arith, low, high))
find_least p a (suc n) k low high passes others = elim (cases_lt a k) as (λ _. cond (p a) (Some a) (find p (range_with_len (a + 1) n)) ≡ Some k) [
  | inl below ↦
      ap (λ b. cond b (Some a) (find p (range_with_len (a + 1) n))) (others a (omega arith) below)
      ∙ find_least p (a + 1) n k (omega (arith, below)) (omega (arith, high)) passes (λ i from to. others i (omega (arith, from)) to)
  | inr not_below ↦
      let same : a ≡ k = omega (arith, low, not_below) in
      ap (λ b. cond b (Some a) (find p (range_with_len (a + 1) n))) (ap p same ∙ passes) ∙ ap (λ (m : ℕ). Some m) same
]

is_one : (n : ℕ) → (n == 1) ≡ false → n ≢ 1
is_one n e is = true≢false (sym (eq-eqb n 1 is) ∙ e)

pub not_fit : (a b : ℕ) → b < a → nat_le a b ≡ false
not_fit a b h = grind (arith, h)

too_long : (a b : ℕ) → nat_le a b ≡ false → b < a
too_long a b e = grind (arith, e)

-- what does not fit a number of regions does not fit fewer
fewer_not : (region_len i m len : ℕ) → 70 < region_len → 1 ≤ i → i ≤ m → fits_in region_len m len ≡ false → fits_in region_len i len ≡ false
fewer_not region_len i m len large low most not = by (m == 1) refl (i == 1) refl not
  where
    more : (j : ℕ) → j ≤ m - 1 → j * (region_len - 1) ≤ (m - 1) * (region_len - 1)
    more j h = mul-le j (region_len - 1) (m - 1) (region_len - 1) h (omega arith)

    by : (s : Bool) → (m == 1) ≡ s → (t : Bool) → (i == 1) ≡ t
        → (if s then nat_le (41 + len) region_len else nat_le (70 + len) (region_len + (m - 1) * (region_len - 1))) ≡ false
        → (if t then nat_le (41 + len) region_len else nat_le (70 + len) (region_len + (i - 1) * (region_len - 1))) ≡ false
    by true e true f h = h
    by true e false f h = absurd (let is : m ≡ 1 = eqb-true m 1 e in is_one i f (omega (arith, is, low, most)))
    by false e true f h =
        let one : i ≡ 1 = eqb-true i 1 f in
        let ne = is_one m e in
        let two : 2 ≤ m = above m (omega (arith, low, most)) ne in
        let k = more 1 (omega (arith, two)) in
        let l = too_long (70 + len) (region_len + (m - 1) * (region_len - 1)) h in
        not_fit (41 + len) region_len (wide ((m - 1) * (region_len - 1)) (omega (arith, k)) l)
      where
        above : (n : ℕ) → 1 ≤ n → n ≢ 1 → 2 ≤ n
        above n h ne = grind (arith, h, ne)

        wide : (x : ℕ) → region_len - 1 ≤ x → region_len + x < 70 + len → region_len < 41 + len
        wide x h l = omega (arith, h, l, large)
    by false e false f h =
        let k = more (i - 1) (omega (arith, most)) in
        let l = too_long (70 + len) (region_len + (m - 1) * (region_len - 1)) h in
        not_fit (70 + len) (region_len + (i - 1) * (region_len - 1)) (narrow ((i - 1) * (region_len - 1)) ((m - 1) * (region_len - 1)) k l)
      where
        narrow : (x y : ℕ) → x ≤ y → region_len + y < 70 + len → region_len + x < 70 + len
        narrow x y h l = omega (arith, h, l)

module _ (region_len : ℕ) (image : Image) (job : Job) (header : Header) (taken : IsTaken region_len job header) (has : HasRegions (record { region = job.target; header = header })) (older newer : List Row) (written : WritesMerged image job header older newer) where
  cost_is : cost (merged older newer) ≡ body_len header
  cost_is = let a = written.area in let n = written.nodes in omega (arith, a, n)

  pub needed : regions_for region_len (merged older newer) ≡ Some header.regions
  unfolding regions_for
  needed = find_least (λ k. fits_in region_len k (cost (merged older newer))) 1 8 header.regions has.low (let h = has.high in omega (arith, h)) (ap (fits_in region_len header.regions) cost_is ∙ taken.lies.lies) (λ i low high. ap (fits_in region_len i) cost_is ∙ fewer i low high)
    where
      fewer : (i : ℕ) → 1 ≤ i → i < header.regions → fits_in region_len i (body_len header) ≡ false
      fewer i low high = fewer_not region_len i (header.regions - 1) (body_len header) taken.lies.large low (omega (arith, high)) (taken.least (omega (arith, low, high)))

  pub fits_free : (free : ℕ) → header.regions ≤ free → FitsFree region_len free older newer
  fits_free free enough = record { ordered = written.ordered; regions = header.regions; needed = needed; enough = enough }

-- ---- places of neighbours

pub first_at : (before : List Part) (older newer : Part) (after : List Part) → slice_get (before ++ older ∷ newer ∷ after) (length before) ≡ Some older
first_at before older newer after =
    slice_get-get_or (before ++ older ∷ newer ∷ after) (length before) older (let l = length-append before (older ∷ newer ∷ after) in omega (arith, l))
    ∙ ap (λ (p : Part). Some p) (get_or_at before older (newer ∷ after) older (length before) refl)

pub second_at : (before : List Part) (older newer : Part) (after : List Part) → slice_get (before ++ older ∷ newer ∷ after) (length before + 1) ≡ Some newer
second_at before older newer after =
    slice_get-get_or (before ++ older ∷ newer ∷ after) (length before + 1) older (let l = length-append before (older ∷ newer ∷ after) in omega (arith, l))
    ∙ ap (λ (p : Part). Some p)
    (ap (λ ps. get_or ps (length before + 1) older) (sym (append_assoc before (older ∷ []) (newer ∷ after)))
    ∙ get_or_at (before ++ older ∷ []) newer after older (length before + 1) (let l = length-append before (older ∷ []) in omega (arith, l)))
