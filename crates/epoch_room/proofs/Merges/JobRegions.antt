-- Regions that a merge takes from the free ones, and gives back.
use Rattle.std.proofs.Common.{◌≡◌, ◌⊎◌, ℕ, zero, suc, ◌+◌, ◌<◌, ◌≤◌, Bool, true, false, cond, not, ◌&&◌, ◌||◌, List, [], ◌∷◌, ◌++◌, length, take, drop, Some, None, refl, sym, ap, ◌∙◌, inl, inr, arith, eq-eqb, append_assoc, zero-add, true≢false}
use Rattle.std.specs.Prelude.{Option, filter, find, nat_eq, nat_lt}
use Rattle.std.specs.List.{AllByRecursion, list_any, range_with_len}
use Rattle.std.proofs.lemmas.Bool.{eqb-true, cases_lt, not-true}
use Rattle.std.proofs.lemmas.Map.Views.{any-filter_same}
use Rattle.std.proofs.lemmas.List.Folds.{list_any-append}
use Rattle.fine_model.specs.Boards.{set_of}
use Rattle.fine_model.proofs.Ordered.Nothing.{all_at}
use Rattle.fine_model.proofs.Ordered.Order.{all_map}
use Rattle.fine_model.proofs.Ordered.Sets.{all_pass}
use Rattle.fine_model.proofs.Ordered.Times.{times-append}
use Rattle.partition_hold.proofs.Bits.{among, same_regions}
use Rattle.epoch_room.specs.Value.{regions_outside}
use Rattle.epoch_room.specs.Whole.{AreApart}
use Rattle.epoch_room.proofs.RegionSets.Beside.{filter_end}
use Rattle.epoch_room.proofs.RegionSets.FreeSets.{set_below}
use Rattle.epoch_room.proofs.RegionSets.Taken.{SameTimes, any_times, apart_back, apart_more, first_free, left_free, other_list, same_apart, same_outside}

-- ---- the lowest free ones

pub lowest_taken : (regions k : ℕ) (free some : List ℕ) → k ≤ length free → AreApart regions some → free ≡ regions_outside regions some
    → AreApart regions (take k free ++ some) × (drop k free ≡ regions_outside regions (take k free ++ some))
lowest_taken regions zero free some enough apart is = (apart, is)
lowest_taken regions (suc k) [] some enough apart is = absurd (omega (arith, enough))
lowest_taken regions (suc k) (x ∷ xs) some enough apart is =
    let first = first_free regions x xs some is in
    let more = lowest_taken regions k xs (x ∷ some) (omega (arith, enough)) (apart_more regions x some apart first.there first.in_none) (left_free regions x xs some is) in
    (same_apart regions (take k xs ++ x ∷ some) (x ∷ (take k xs ++ some)) moved more.0, more.1 ∙ same_outside regions (take k xs ++ x ∷ some) (x ∷ (take k xs ++ some)) moved)
  where
    moved : SameTimes (take k xs ++ x ∷ some) (x ∷ (take k xs ++ some))
    moved n =
        let a = times-append n (take k xs) (x ∷ some) in
        let b = times-append n (x ∷ []) some in
        let c = times-append n (x ∷ []) (take k xs ++ some) in
        let d = times-append n (take k xs) some in
        omega (arith, a, b, c, d)

-- a free region is not among those that are taken
pub outside_all : (regions : ℕ) (some : List ℕ) → AllByRecursion (λ r. list_any (nat_eq r) some ≡ false) (regions_outside regions some)
unfolding regions_outside
outside_all regions some =
    all_map (λ r. not (list_any (nat_eq r) some) ≡ true) (λ r. list_any (nat_eq r) some ≡ false) (λ r h. not-true (list_any (nat_eq r) some) h) (regions_outside regions some) (all_pass (λ r. not (list_any (nat_eq r) some)) (range_with_len 0 regions))

-- ---- regions that are free again

pub set_more : (a b : List ℕ) → set_of (set_of a ++ b) ≡ set_of (a ++ b)
set_more a b = same_regions (λ r. list_any (nat_eq r) (set_of a ++ b)) (λ r. list_any (nat_eq r) (a ++ b)) (λ r small.
    list_any-append (nat_eq r) (set_of a) b ∙ ap (λ t. t || list_any (nat_eq r) b) (among (λ n. list_any (nat_eq n) a) r small) ∙ sym (list_any-append (nat_eq r) a b))

-- the next one of those that are given back
pub given_more : (p : ℕ → Bool) (free before : List ℕ) (r : ℕ) → set_of (set_of (free ++ filter p before) ++ cond (p r) (r ∷ []) []) ≡ set_of (free ++ filter p (before ++ r ∷ []))
given_more p free before r =
    set_more (free ++ filter p before) (cond (p r) (r ∷ []) []) ∙ ap set_of (append_assoc free (filter p before) (cond (p r) (r ∷ []) []) ∙ ap (λ xs. free ++ xs) (sym (filter_end p before r)))

any_range : (r a n : ℕ) → a ≤ r → list_any (nat_eq r) (range_with_len a n) ≡ nat_lt r (a + n)
any_range r a zero low = sym (past r a low)
  where
    past : (r a : ℕ) → a ≤ r → nat_lt r (a + 0) ≡ false
    past r a low = grind (arith, low)
any_range r a (suc n) low = by (nat_eq r a) refl (λ h. any_range r (a + 1) n h)
  where
    here : r ≡ a → nat_lt r (a + suc n) ≡ true
    here e = grind (arith, e)

    moved : a + 1 + n ≡ a + suc n
    moved = omega arith

    after : nat_eq r a ≡ false → a + 1 ≤ r
    after e = elim (cases r a low) [ inl same ↦ absurd (true≢false (sym (eq-eqb r a same) ∙ e)) | inr above ↦ above ]
      where
        cases : (r a : ℕ) → a ≤ r → (r ≡ a) ⊎ (a + 1 ≤ r)
        cases r a low = elim (cases_lt a r) [ inl h ↦ inr (omega (arith, h)) | inr h ↦ inl (omega (arith, h, low)) ]

    by : (b : Bool) → nat_eq r a ≡ b → (a + 1 ≤ r → list_any (nat_eq r) (range_with_len (a + 1) n) ≡ nat_lt r (a + 1 + n)) → (nat_eq r a || list_any (nat_eq r) (range_with_len (a + 1) n)) ≡ nat_lt r (a + suc n)
    by true e rest = ap (λ b. b || list_any (nat_eq r) (range_with_len (a + 1) n)) e ∙ sym (here (eqb-true r a e))
    by false e rest = ap (λ b. b || list_any (nat_eq r) (range_with_len (a + 1) n)) e ∙ rest (after e) ∙ ap (nat_lt r) moved

pub outside_any : (regions : ℕ) (some : List ℕ) (r : ℕ) → list_any (nat_eq r) (regions_outside regions some) ≡ (not (list_any (nat_eq r) some) && nat_lt r regions)
unfolding regions_outside
outside_any regions some r =
    any-filter_same (nat_eq r) (λ q. not (list_any (nat_eq q) some)) (not (list_any (nat_eq r) some)) (λ k e. ap (λ q. not (list_any (nat_eq q) some)) (sym (eqb-true r k e))) (range_with_len 0 regions)
    ∙ ap (λ b. not (list_any (nat_eq r) some) && b) (any_range r 0 regions (omega arith) ∙ ap (nat_lt r) (zero-add regions))

-- the lead is given back, and those behind it
pub given_behind : (p : ℕ → Bool) (free : List ℕ) (r : ℕ) (behind : List ℕ) → set_of (set_of (free ++ filter p (r ∷ [])) ++ filter p behind) ≡ set_of (free ++ filter p (r ∷ behind))
given_behind p free r behind =
    set_more (free ++ filter p (r ∷ [])) (filter p behind) ∙ ap set_of (append_assoc free (filter p (r ∷ [])) (filter p behind) ∙ ap (λ xs. free ++ xs) (by (p r)))
  where
    by : (b : Bool) → cond b (r ∷ []) [] ++ filter p behind ≡ cond b (r ∷ filter p behind) (filter p behind)
    by true = refl
    by false = refl

pub outside_set : (regions : ℕ) (some : List ℕ) → regions ≤ 64 → set_of (regions_outside regions some) ≡ regions_outside regions some
unfolding regions_outside
outside_set regions some few = set_below (λ r. not (list_any (nat_eq r) some)) regions few

-- what is below a bound but for some that are below it too
pub below_both : (most : ℕ) (lost xs : List ℕ) → AllByRecursion (λ r. r < most) lost → AllByRecursion (λ r. r < most) (filter (λ r. not (list_any (nat_eq r) lost)) xs) → AllByRecursion (λ r. r < most) xs
below_both most lost [] low all = tt
below_both most lost (x ∷ xs) low all = by (list_any (nat_eq x) lost) refl all (below_both most lost xs low)
  where
    by : (b : Bool) → list_any (nat_eq x) lost ≡ b → AllByRecursion (λ r. r < most) (cond (not b) (x ∷ filter (λ r. not (list_any (nat_eq r) lost)) xs) (filter (λ r. not (list_any (nat_eq r) lost)) xs))
        → (AllByRecursion (λ r. r < most) (filter (λ r. not (list_any (nat_eq r) lost)) xs) → AllByRecursion (λ r. r < most) xs) → AllByRecursion (λ r. r < most) (x ∷ xs)
    by true e all rest = (all_at (λ r. r < most) x lost low e, rest all)
    by false e all rest = (all.0, rest all.1)

module _ (regions : ℕ) (few : regions ≤ 64) (all gone rest : List ℕ) (same : SameTimes all (gone ++ rest)) (apart : AreApart regions all) where
  apart_both : AreApart regions (gone ++ rest)
  apart_both = same_apart regions all (gone ++ rest) same apart

  pub rest_apart : AreApart regions rest
  rest_apart = apart_back regions gone rest apart_both

  pub freed_outside : (free : List ℕ) → free ≡ regions_outside regions all → set_of (free ++ gone) ≡ regions_outside regions rest
  freed_outside free is =
      same_regions (λ r. list_any (nat_eq r) (free ++ gone)) (λ r. list_any (nat_eq r) (regions_outside regions rest)) (λ r small. one r)
      ∙ outside_set regions rest few
    where
      below : (r : ℕ) → r < regions → nat_lt r regions ≡ true
      below r h = grind (arith, h)

      one : (r : ℕ) → list_any (nat_eq r) (free ++ gone) ≡ list_any (nat_eq r) (regions_outside regions rest)
      one r =
          list_any-append (nat_eq r) free gone ∙ ap (λ xs. list_any (nat_eq r) xs || list_any (nat_eq r) gone) is
          ∙ ap (λ b. b || list_any (nat_eq r) gone) (outside_any regions all r ∙ ap (λ b. not b && nat_lt r regions) (any_times r all (gone ++ rest) (same r) ∙ list_any-append (nat_eq r) gone rest))
          ∙ by (list_any (nat_eq r) gone) refl ∙ sym (outside_any regions rest r)
        where
          plain : (s t : Bool) → ((not (false || s) && t) || false) ≡ (not s && t)
          plain true true = refl
          plain true false = refl
          plain false true = refl
          plain false false = refl

          at : list_any (nat_eq r) gone ≡ true → (list_any (nat_eq r) rest ≡ false) × (r < regions)
          at there = (
            other_list regions gone rest r apart_both there,
            all_at (λ q. q < regions) r (gone ++ rest) apart_both.below (list_any-append (nat_eq r) gone rest ∙ ap (λ b. b || list_any (nat_eq r) rest) there),
          )

          by : (b : Bool) → list_any (nat_eq r) gone ≡ b → ((not (list_any (nat_eq r) gone || list_any (nat_eq r) rest) && nat_lt r regions) || list_any (nat_eq r) gone) ≡ (not (list_any (nat_eq r) rest) && nat_lt r regions)
          by false e = ap (λ b. (not (b || list_any (nat_eq r) rest) && nat_lt r regions) || b) e ∙ plain (list_any (nat_eq r) rest) (nat_lt r regions)
          by true e =
              let h = at e in
              ap (λ b. (not (b || list_any (nat_eq r) rest) && nat_lt r regions) || b) e
              ∙ sym (ap (λ b. not b && nat_lt r regions) h.0 ∙ below r h.1)

-- ---- the least number that passes a test

pub found_least : (p : ℕ → Bool) (a n k : ℕ) → find p (range_with_len a n) ≡ Some k → (a ≤ k) × (k < a + n) × (p k ≡ true) × ((i : ℕ) → a ≤ i → i < k → p i ≡ false)
found_least p a zero k is = absurd (let e : ◌≡◌ {A = Option ℕ} None (Some k) = is in cc)
found_least p a (suc n) k is = by (p a) refl is (λ h. found_least p (a + 1) n k h)
  where
    by : (b : Bool) → p a ≡ b → cond b (Some a) (find p (range_with_len (a + 1) n)) ≡ Some k
        → (find p (range_with_len (a + 1) n) ≡ Some k → (a + 1 ≤ k) × (k < a + 1 + n) × (p k ≡ true) × ((i : ℕ) → a + 1 ≤ i → i < k → p i ≡ false))
        → (a ≤ k) × (k < a + suc n) × (p k ≡ true) × ((i : ℕ) → a ≤ i → i < k → p i ≡ false)
    by true e is rest =
        let same : a ≡ k = cc in
        (omega (arith, same), omega (arith, same), ap p (sym same) ∙ e, λ i low high. absurd (omega (arith, same, low, high)))
    by false e is rest =
        let more = rest is in (
          omega (arith, more.0),
          omega (arith, more.1),
          more.2,
          λ i low high. elim (cases_lt a i) [
            | inl above ↦ more.3 i (omega (arith, above)) high
            | inr not_above ↦ (let same : i ≡ a = omega (arith, low, not_above) in ap p same ∙ e)
          ],
        )
