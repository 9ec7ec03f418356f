-- Which regions are taken and which are left depends on how often each stands in a list alone.
use Rattle.std.proofs.Common.{◌≡◌, ℕ, zero, suc, ◌+◌, ◌<◌, ◌≤◌, Bool, true, false, cond, not, ◌&&◌, ◌||◌, List, [], ◌∷◌, ◌++◌, refl, sym, ap, subst, ◌∙◌, inl, inr, arith, eq-eqb, true≢false}
use Rattle.std.specs.Prelude.{filter, nat_eq}
use Rattle.std.specs.List.{AllByRecursion, list_any, range_with_len}
use Rattle.std.proofs.lemmas.Bool.{not-true}
use Rattle.std.proofs.lemmas.Bool.Decides.{leb_tells}
use Rattle.fine_model.specs.Trees.{is_distinct}
use Rattle.fine_model.proofs.Ordered.Nothing.{all_at}
use Rattle.fine_model.proofs.Ordered.Order.{all_map, filter_all}
use Rattle.fine_model.proofs.Ordered.Sets.{all_filter, all_pass}
use Rattle.fine_model.proofs.Ordered.Times.{times, times-append, absent_times, times_absent, distinct_times, times_distinct, below_times, times_below}
use Rattle.epoch_room.specs.Value.{regions_outside}
use Rattle.epoch_room.specs.Whole.{AreApart, AreRising}

-- each number stands in both lists as often
abbrev pub SameTimes : List ℕ → List ℕ → Type 0
SameTimes a b = (n : ℕ) → times n a ≡ times n b

pub any_times : (n : ℕ) (a b : List ℕ) → times n a ≡ times n b → list_any (nat_eq n) a ≡ list_any (nat_eq n) b
any_times n a b same = by (list_any (nat_eq n) a) (list_any (nat_eq n) b) refl refl
  where
    by : (s t : Bool) → list_any (nat_eq n) a ≡ s → list_any (nat_eq n) b ≡ t → list_any (nat_eq n) a ≡ list_any (nat_eq n) b
    by true true e f = e ∙ sym f
    by false false e f = e ∙ sym f
    by true false e f = times_absent n a (same ∙ absent_times n b f) ∙ sym f
    by false true e f = e ∙ sym (times_absent n b (sym same ∙ absent_times n a e))

pub same_apart : (regions : ℕ) (a b : List ℕ) → SameTimes a b → AreApart regions a → AreApart regions b
same_apart regions a b same apart = record {
  distinct = times_distinct b (λ n. let s = same n in let d = distinct_times a apart.distinct n in omega (arith, s, d));
  below = times_below regions b (λ n h. let s = same n in let d = below_times regions a apart.below n h in omega (arith, s, d));
}

pub same_outside : (regions : ℕ) (a b : List ℕ) → SameTimes a b → regions_outside regions a ≡ regions_outside regions b
unfolding regions_outside
same_outside regions a b same = λ i. filter (λ r. not (any_times r a b (same r) i)) (range_with_len 0 regions)

-- ---- the lowest region that is not taken

pub rising_range : (a n : ℕ) → AllByRecursion (λ r. a ≤ r) (range_with_len a n) × AreRising (range_with_len a n)
rising_range a zero = (tt, tt)
rising_range a (suc n) =
    let rest = rising_range (a + 1) n in
    ((omega arith, all_map (λ r. a + 1 ≤ r) (λ r. a ≤ r) (λ r h. omega (arith, h)) (range_with_len (a + 1) n) rest.0), (all_map (λ r. a + 1 ≤ r) (λ r. a < r) (λ r h. omega (arith, h)) (range_with_len (a + 1) n) rest.0, rest.1))

pub rising_filter : (p : ℕ → Bool) (xs : List ℕ) → AreRising xs → AreRising (filter p xs)
rising_filter p [] up = tt
rising_filter p (x ∷ xs) up = by (p x) (rising_filter p xs up.1)
  where
    by : (b : Bool) → AreRising (filter p xs) → AreRising (cond b (x ∷ filter p xs) (filter p xs))
    by true rest = (all_filter (λ y. x < y) p xs up.0, rest)
    by false rest = rest

pub below_range : (a n : ℕ) → AllByRecursion (λ r. r < a + n) (range_with_len a n)
below_range a zero = tt
below_range a (suc n) = (omega arith, all_map (λ r. r < a + 1 + n) (λ r. r < a + suc n) (λ r h. omega (arith, h)) (range_with_len (a + 1) n) (below_range (a + 1) n))

-- the first region that is not taken
pub record IsFirstFree (regions region : ℕ) (free some : List ℕ) : Type 0 where
  pub there : region < regions
  pub in_none : list_any (nat_eq region) some ≡ false
  pub above : AllByRecursion (λ r. region < r) free

pub first_free : (regions region : ℕ) (free some : List ℕ) → region ∷ free ≡ regions_outside regions some → IsFirstFree regions region free some
unfolding regions_outside
first_free regions region free some is =
    let p : ℕ → Bool = λ r. not (list_any (nat_eq r) some) in
    let low : AllByRecursion (λ r. r < 0 + regions) (region ∷ free) = subst (AllByRecursion (λ r. r < 0 + regions)) (sym is) (all_filter (λ r. r < 0 + regions) p (range_with_len 0 regions) (below_range 0 regions)) in
    let pass : AllByRecursion (λ r. p r ≡ true) (region ∷ free) = subst (AllByRecursion (λ r. p r ≡ true)) (sym is) (all_pass p (range_with_len 0 regions)) in
    let up : AreRising (region ∷ free) = subst AreRising (sym is) (rising_filter p (range_with_len 0 regions) (rising_range 0 regions).1) in
    record { there = omega (arith, low.0); in_none = not-true (list_any (nat_eq region) some) pass.0; above = up.0 }

filter_twice : {A : Type 0} (p q r : A → Bool) → ((x : A) → r x ≡ (p x && q x)) → (xs : List A) → filter r xs ≡ filter q (filter p xs)
filter_twice p q r both [] = refl
filter_twice p q r both (x ∷ xs) = ap (λ b. cond b (x ∷ filter r xs) (filter r xs)) (both x) ∙ by (p x) (filter_twice p q r both xs)
  where
    by : (b : Bool) → filter r xs ≡ filter q (filter p xs) → cond (b && q x) (x ∷ filter r xs) (filter r xs) ≡ filter q (cond b (x ∷ filter p xs) (filter p xs))
    by true rest = ap (λ ys. cond (q x) (x ∷ ys) ys) rest
    by false rest = rest

-- once it is taken too, the others are left
pub left_free : (regions region : ℕ) (free some : List ℕ) → region ∷ free ≡ regions_outside regions some → free ≡ regions_outside regions (region ∷ some)
unfolding regions_outside
left_free regions region free some is =
    let p : ℕ → Bool = λ r. not (list_any (nat_eq r) some) in
    let q : ℕ → Bool = λ r. not (nat_eq r region) in
    let r : ℕ → Bool = λ r. not (list_any (nat_eq r) (region ∷ some)) in
    let first = first_free regions region free some is in
    let gone : filter q (region ∷ free) ≡ free =
    ap (λ b. cond (not b) (region ∷ filter q free) (filter q free)) (eq-eqb region region refl)
    ∙ filter_all q free (all_map (λ s. region < s) (λ s. q s ≡ true) (λ s h. other region s h) free first.above) in
    sym (filter_twice p q r (λ s. two (nat_eq s region) (list_any (nat_eq s) some)) (range_with_len 0 regions) ∙ ap (filter q) (sym is) ∙ gone)
  where
    other : (m n : ℕ) → m < n → not (nat_eq n m) ≡ true
    other m n h = grind (arith, h)

    two : (a b : Bool) → not (a || b) ≡ (not b && not a)
    two true true = refl
    two true false = refl
    two false true = refl
    two false false = refl

pub apart_more : (regions region : ℕ) (some : List ℕ) → AreApart regions some → region < regions → list_any (nat_eq region) some ≡ false → AreApart regions (region ∷ some)
unfolding is_distinct
apart_more regions region some apart there none = record { distinct = ap (λ b. not b && is_distinct some) none ∙ apart.distinct; below = (there, apart.below) }

pub apart_front : (regions : ℕ) (a b : List ℕ) → AreApart regions (a ++ b) → (n : ℕ) → times n a + times n b ≤ 1
apart_front regions a b apart n = let d = distinct_times (a ++ b) apart.distinct n in let e = times-append n a b in omega (arith, d, e)

-- what stands in one of two lists that are apart does not stand in the other
pub other_list : (regions : ℕ) (a b : List ℕ) (n : ℕ) → AreApart regions (a ++ b) → list_any (nat_eq n) a ≡ true → list_any (nat_eq n) b ≡ false
other_list regions a b n apart there = by (list_any (nat_eq n) b) refl
  where
    by : (t : Bool) → list_any (nat_eq n) b ≡ t → list_any (nat_eq n) b ≡ false
    by false e = e
    by true e = elim (leb_tells (times n b) 0) [
      | inl h ↦ times_absent n b (let z = h.1 in omega (arith, z))
      | inr h ↦
          let f = apart_front regions a b apart n in
          let some = h.1 in
          absurd (true≢false (sym there ∙ times_absent n a (omega (arith, f, some))))
    ]

-- ---- regions that are not taken

pub rising_outside : (regions : ℕ) (some : List ℕ) → AreRising (regions_outside regions some)
unfolding regions_outside
rising_outside regions some = rising_filter (λ r. not (list_any (nat_eq r) some)) (range_with_len 0 regions) (rising_range 0 regions).1

pub outside_not : (regions : ℕ) (some : List ℕ) (n : ℕ) → list_any (nat_eq n) (regions_outside regions some) ≡ true → list_any (nat_eq n) some ≡ false
unfolding regions_outside
outside_not regions some n there = not-true (list_any (nat_eq n) some) (all_at (λ r. not (list_any (nat_eq r) some) ≡ true) n _ (all_pass (λ r. not (list_any (nat_eq r) some)) (range_with_len 0 regions)) there)

pub outside_there : (regions : ℕ) (some : List ℕ) (n : ℕ) → list_any (nat_eq n) (regions_outside regions some) ≡ true → n < regions
unfolding regions_outside
outside_there regions some n there = let h = all_at (λ r. r < 0 + regions) n _ (all_filter (λ r. r < 0 + regions) (λ r. not (list_any (nat_eq r) some)) (range_with_len 0 regions) (below_range 0 regions)) there in omega (arith, h)

-- ---- the back of a list

pub apart_back : (regions : ℕ) (a b : List ℕ) → AreApart regions (a ++ b) → AreApart regions b
apart_back regions a b apart = record {
  distinct = times_distinct b (λ n. let f = apart_front regions a b apart n in omega (arith, f));
  below = back (λ r. r < regions) a b apart.below;
}
  where
    back : {A : Type 0} (P : A → Type 0) (xs ys : List A) → AllByRecursion P (xs ++ ys) → AllByRecursion P ys
    back P [] ys all = all
    back P (x ∷ xs) ys all = back P xs ys all.1
