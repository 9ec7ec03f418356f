-- Sets of regions as the bits of a word.
use Rattle.std.proofs.Common.{◌≡◌, ◌≢◌, ℕ, zero, suc, ◌+◌, ◌-◌, ◌*◌, ◌/◌, ◌%◌, ◌^◌, ◌<◌, ◌≤◌, ◌==◌, Bool, true, false, ◌&&◌, ◌||◌, cond, List, [], ◌∷◌, ◌++◌, length, drop, true≢false, Some, refl, sym, ap, ◌∙◌, arith, rules, eqb-true, eq-eqb}
use Rattle.std.specs.Prelude.{nat_eq, nat_lt, not, filter, bit_and, bit_or, max, slice_get, count_ones}
use Rattle.std.specs.Int.{bit_at, bit_not, trailing_zeros, w64}
use Rattle.std.specs.List.{list_any, range_with_len}
use Rattle.std.proofs.lemmas.List.Folds.{list_any-append}
use lib.Count.{ones}
use Rattle.std.proofs.lemmas.Nat.{ones_cat, div-add-mod'}
use Rattle.std.proofs.lemmas.Nat.Bits.{bit_at_lowest, bit_at-suc, bit_at-lt, bit_at_clear_same, bit_at_clear_other, bit_at-zero, bit_at_ones, bit_at_ones_above, bit_at_or, bit_at-trailing_zeros}
use Rattle.fine_model.specs.Boards.{regions_by, set_of}
use Rattle.fine_model.proofs.Ordered.Pairs.{filter_twice}
use Rattle.partition_hold.proofs.Bits.{among, same_regions, bit_more}

-- ---- what passes a test

none_from : (p : ℕ → Bool) (a n : ℕ) → ((i : ℕ) → a ≤ i → i < a + n → p i ≡ false) → filter p (range_with_len a n) ≡ []
none_from p a zero fails = refl
none_from p a (suc n) fails =
    ap (λ b. cond b (a ∷ filter p (range_with_len (a + 1) n)) (filter p (range_with_len (a + 1) n))) (fails a (omega arith) (omega arith))
    ∙ none_from p (a + 1) n (λ i low high. fails i (omega (arith, low)) (omega (arith, high)))

-- those below a number
below_from : (p : ℕ → Bool) (a k n : ℕ) → k ≤ n → ((i : ℕ) → a ≤ i → i < a + n → p i ≡ nat_lt i (a + k)) → filter p (range_with_len a n) ≡ range_with_len a k
below_from p a zero n few is = none_from p a n (λ i low high. is i low high ∙ not_below i low)
  where
    not_below : (i : ℕ) → a ≤ i → nat_lt i (a + 0) ≡ false
    not_below i low = grind (arith, low)
below_from p a (suc k) zero few is = absurd (omega (arith, few))
below_from p a (suc k) (suc n) few is =
    let e : a + (suc k) ≡ (a + 1) + k = omega arith in
    ap (λ b. cond b (a ∷ filter p (range_with_len (a + 1) n)) (filter p (range_with_len (a + 1) n))) (is a (omega arith) (omega arith) ∙ below)
    ∙ ap (λ xs. a ∷ xs) (below_from p (a + 1) k n (omega (arith, few)) (λ i low high. is i (omega (arith, low)) (omega (arith, high)) ∙ ap (nat_lt i) e))
  where
    below : nat_lt a (a + suc k) ≡ true
    below = grind arith

pub below_passes : (p : ℕ → Bool) (k : ℕ) → k ≤ 64 → ((i : ℕ) → i < 64 → p i ≡ nat_lt i k) → regions_by p ≡ range_with_len 0 k
unfolding regions_by
below_passes p k few is = below_from p 0 k 64 few (λ i low high. is i (omega (arith, high)) ∙ ap (nat_lt i) (let q : k ≡ 0 + k = omega arith in q))

-- the first that passes, and those behind it
first_from : (p : ℕ → Bool) (t a n : ℕ) → a ≤ t → t < a + n → p t ≡ true → ((i : ℕ) → i < t → p i ≡ false)
    → filter p (range_with_len a n) ≡ t ∷ filter p (range_with_len (t + 1) (a + n - (t + 1)))
first_from p t a zero low high here before = absurd (omega (arith, low, high))
first_from p t a (suc n) low high here before = by (t == a) refl (λ other. first_from p t (a + 1) n (omega (arith, low, other)) (omega (arith, high)) here before)
  where
    by : (b : Bool) → (t == a) ≡ b → (t ≢ a → filter p (range_with_len (a + 1) n) ≡ t ∷ filter p (range_with_len (t + 1) (a + 1 + n - (t + 1))))
        → cond (p a) (a ∷ filter p (range_with_len (a + 1) n)) (filter p (range_with_len (a + 1) n)) ≡ t ∷ filter p (range_with_len (t + 1) (a + suc n - (t + 1)))
    by true e later =
        let same : t ≡ a = eqb-true t a e in
        let q : n ≡ a + suc n - (t + 1) = omega (arith, same) in
        ap (λ b. cond b (a ∷ filter p (range_with_len (a + 1) n)) (filter p (range_with_len (a + 1) n))) (ap p (sym same) ∙ here)
        ∙ ap (λ k. k ∷ filter p (range_with_len (k + 1) n)) (sym same) ∙ ap (λ m. t ∷ filter p (range_with_len (t + 1) m)) q
    by false e later =
        let other : t ≢ a = λ same. true≢false (sym (eq-eqb t a same) ∙ e) in
        let q : a + 1 + n - (t + 1) ≡ a + suc n - (t + 1) = omega arith in
        ap (λ b. cond b (a ∷ filter p (range_with_len (a + 1) n)) (filter p (range_with_len (a + 1) n))) (before a (omega (arith, low, other)))
        ∙ later other ∙ ap (λ m. t ∷ filter p (range_with_len (t + 1) m)) q

pub first_passes : (p : ℕ → Bool) (t : ℕ) → t < 64 → p t ≡ true → ((i : ℕ) → i < t → p i ≡ false) → regions_by p ≡ t ∷ filter p (range_with_len (t + 1) (64 - (t + 1)))
unfolding regions_by
first_passes p t small here before = first_from p t 0 64 (omega arith) (omega (arith, small)) here before

pub none_passes : (p : ℕ → Bool) → ((i : ℕ) → i < 64 → p i ≡ false) → regions_by p ≡ []
unfolding regions_by
none_passes p fails = none_from p 0 64 (λ i low high. fails i (omega (arith, high)))

-- ---- sets

-- a set is that of its own regions
pub same_set : (p : ℕ → Bool) → set_of (regions_by p) ≡ regions_by p
same_set p = same_regions (λ r. list_any (nat_eq r) (regions_by p)) p (λ r small. among p r small)

-- ---- the bits

pub inserted : (word region : ℕ) → region < 64
    → regions_by (λ r. bit_at (bit_or word (1 * 2 ^ region % 2 ^ 64)) r == 1) ≡ set_of (regions_by (λ r. bit_at word r == 1) ++ region ∷ [])
inserted word region small =
    same_regions _ _ (λ r below. bit_more word region r (regions_by (λ r. bit_at word r == 1)) small (sym (among (λ r. bit_at word r == 1) r below)))

pub inserted_all : (word more : ℕ) (regions : List ℕ) → ((r : ℕ) → r < 64 → (bit_at more r == 1) ≡ list_any (nat_eq r) regions)
    → regions_by (λ r. bit_at (bit_or word more) r == 1) ≡ set_of (regions_by (λ r. bit_at word r == 1) ++ regions)
inserted_all word more regions is =
    same_regions _ _
    (λ r small.
    ap (λ n. n == 1) (bit_at_or word more r) ∙ either (bit_at word r) (bit_at more r) (bit_at-lt word r) (bit_at-lt more r)
    ∙ ap (λ b. b || (bit_at more r == 1)) (sym (among (λ r. bit_at word r == 1) r small)) ∙ ap (λ b. list_any (nat_eq r) (regions_by (λ r. bit_at word r == 1)) || b) (is r small)
    ∙ sym (list_any-append (nat_eq r) (regions_by (λ r. bit_at word r == 1)) regions))
  where
    either : (x y : ℕ) → x < 2 → y < 2 → (max x y == 1) ≡ ((x == 1) || (y == 1))
    either zero zero p q = refl
    either zero (suc zero) p q = refl
    either (suc zero) zero p q = refl
    either (suc zero) (suc zero) p q = refl
    either (suc (suc x)) y p q = absurd (omega (arith, p))
    either x (suc (suc y)) p q = absurd (omega (arith, q))

cleared : (word region r : ℕ) → region < 64 → r < 64 → (bit_at (bit_and word (bit_not w64 (1 * 2 ^ region % 2 ^ 64))) r == 1) ≡ ((bit_at word r == 1) && not (nat_eq r region))
cleared word region r small below = by (r == region) refl
  where
    other : (b : Bool) → (b && true) ≡ b
    other true = refl
    other false = refl

    none : (b : Bool) → (b && false) ≡ false
    none true = refl
    none false = refl

    by : (t : Bool) → (r == region) ≡ t → (bit_at (bit_and word (bit_not w64 (1 * 2 ^ region % 2 ^ 64))) r == 1) ≡ ((bit_at word r == 1) && not (nat_eq r region))
    by true e =
        let gone : bit_at (bit_and word (bit_not w64 (1 * 2 ^ region % 2 ^ 64))) r ≡ 0 = ap (bit_at (bit_and word (bit_not w64 (1 * 2 ^ region % 2 ^ 64)))) (eqb-true r region e) ∙ bit_at_clear_same w64 word region small in
        ap (λ n. n == 1) gone ∙ sym (ap (λ b. (bit_at word r == 1) && not b) e ∙ none (bit_at word r == 1))
    by false e =
        let kept = bit_at_clear_other w64 word region small r below (λ same. true≢false (sym (eq-eqb r region same) ∙ e)) in
        ap (λ n. n == 1) kept ∙ sym (ap (λ b. (bit_at word r == 1) && not b) e ∙ other (bit_at word r == 1))

pub removed : (word region : ℕ) → region < 64
    → regions_by (λ r. bit_at (bit_and word (bit_not w64 (1 * 2 ^ region % 2 ^ 64))) r == 1) ≡ filter (λ r. not (nat_eq r region)) (regions_by (λ r. bit_at word r == 1))
unfolding regions_by
removed word region small =
    same_regions _ (λ r. (bit_at word r == 1) && not (nat_eq r region)) (λ r below. cleared word region r small below)
    ∙ sym (filter_twice (λ r. not (nat_eq r region)) (λ r. bit_at word r == 1) (range_with_len 0 64))

-- the others of a list that begins with a region and goes on above it
above_kept : (p : ℕ → Bool) (t a n : ℕ) → t < a → filter (λ r. not (nat_eq r t)) (filter p (range_with_len a n)) ≡ filter p (range_with_len a n)
above_kept p t a zero above = refl
above_kept p t a (suc n) above = by (p a) (above_kept p t (a + 1) n (omega (arith, above)))
  where
    differs : (b : Bool) → (a == t) ≡ b → (a == t) ≡ false
    differs true e = absurd (omega (arith, above, eqb-true a t e))
    differs false e = e

    by : (b : Bool) → filter (λ r. not (nat_eq r t)) (filter p (range_with_len (a + 1) n)) ≡ filter p (range_with_len (a + 1) n)
        → filter (λ r. not (nat_eq r t)) (cond b (a ∷ filter p (range_with_len (a + 1) n)) (filter p (range_with_len (a + 1) n))) ≡ cond b (a ∷ filter p (range_with_len (a + 1) n)) (filter p (range_with_len (a + 1) n))
    by true e = ap (λ b. cond (not b) (a ∷ filter (λ r. not (nat_eq r t)) (filter p (range_with_len (a + 1) n))) (filter (λ r. not (nat_eq r t)) (filter p (range_with_len (a + 1) n)))) (differs (a == t) refl) ∙ ap (λ xs. a ∷ xs) e
    by false e = e

-- without its first one a set is what stands behind it
without_from : (p : ℕ → Bool) (t a n : ℕ) → slice_get (filter p (range_with_len a n)) 0 ≡ Some t → filter (λ r. not (nat_eq r t)) (filter p (range_with_len a n)) ≡ drop 1 (filter p (range_with_len a n))
without_from p t a zero first = refl
without_from p t a (suc n) first = by (p a) first (without_from p t (a + 1) n)
  where
    by : (b : Bool) → slice_get (cond b (a ∷ filter p (range_with_len (a + 1) n)) (filter p (range_with_len (a + 1) n))) 0 ≡ Some t
        → (slice_get (filter p (range_with_len (a + 1) n)) 0 ≡ Some t → filter (λ r. not (nat_eq r t)) (filter p (range_with_len (a + 1) n)) ≡ drop 1 (filter p (range_with_len (a + 1) n)))
        → filter (λ r. not (nat_eq r t)) (cond b (a ∷ filter p (range_with_len (a + 1) n)) (filter p (range_with_len (a + 1) n))) ≡ drop 1 (cond b (a ∷ filter p (range_with_len (a + 1) n)) (filter p (range_with_len (a + 1) n)))
    by true first later =
        let same : a ≡ t = search (rules, first) in
        ap (λ b. cond (not b) (a ∷ filter (λ r. not (nat_eq r t)) (filter p (range_with_len (a + 1) n))) (filter (λ r. not (nat_eq r t)) (filter p (range_with_len (a + 1) n)))) (eq-eqb a t same)
        ∙ above_kept p t (a + 1) n (omega (arith, same))
    by false first later = later first

pub without_first : (p : ℕ → Bool) (t : ℕ) → slice_get (regions_by p) 0 ≡ Some t → filter (λ r. not (nat_eq r t)) (regions_by p) ≡ drop 1 (regions_by p)
unfolding regions_by
without_first p t first = without_from p t 0 64 first

-- ---- the lowest bit

pub lowest_none : (word : ℕ) → word ≡ 0 → regions_by (λ r. bit_at word r == 1) ≡ []
lowest_none word none = ap (λ w. regions_by (λ r. bit_at w r == 1)) none ∙ none_passes (λ r. bit_at 0 r == 1) (λ i small. ap (λ n. n == 1) (bit_at-zero i))

pub lowest_some : (word : ℕ) → word ≢ 0 → word < 2 ^ 64 → slice_get (regions_by (λ r. bit_at word r == 1)) 0 ≡ Some (trailing_zeros w64 word)
lowest_some word some small =
    let is = bit_at-trailing_zeros w64 word (omega (arith, some)) small in
    ap (λ xs. slice_get xs 0) (first_passes (λ r. bit_at word r == 1) (trailing_zeros w64 word) is.0 (ap (λ n. n == 1) is.1) (λ i below. ap (λ n. n == 1) (is.2 i below)))

-- ---- all below a number

pub all_below : (word k : ℕ) → k ≤ 64 → word ≡ 2 ^ k - 1 → regions_by (λ r. bit_at word r == 1) ≡ range_with_len 0 k
all_below word k few is = ap (λ w. regions_by (λ r. bit_at w r == 1)) is ∙ below_passes (λ r. bit_at (2 ^ k - 1) r == 1) k few (λ i small. by i (nat_lt i k) refl)
  where
    by : (i : ℕ) (b : Bool) → nat_lt i k ≡ b → (bit_at (2 ^ k - 1) i == 1) ≡ nat_lt i k
    by i true e = ap (λ n. n == 1) (bit_at_ones k i (grind (arith, e))) ∙ sym e
    by i false e = ap (λ n. n == 1) (bit_at_ones_above k i (grind (arith, e))) ∙ sym e

-- ---- how many

one_bit : (n : ℕ) → n < 2 → count_ones n ≡ cond (n == 1) 1 0
unfolding ones
one_bit zero small = refl
one_bit (suc zero) small = refl
one_bit (suc (suc n)) small = absurd (omega (arith, small))

ones_from : (p : ℕ → Bool) (m a n : ℕ) → m < 2 ^ n → ((i : ℕ) → i < n → p (a + i) ≡ (bit_at m i == 1)) → length (filter p (range_with_len a n)) ≡ count_ones m
ones_from p m a zero small is = let none : m ≡ 0 = omega (arith, small) in sym (ap count_ones none ∙ one_bit 0 (omega arith))
ones_from p m a (suc n) small is =
    let halves : count_ones m ≡ count_ones (m / 2) + count_ones (m % 2) = ap count_ones (sym (div-add-mod' m 2)) ∙ ones_cat 1 (m / 2) (m % 2) (omega arith) in
    let later : length (filter p (range_with_len (a + 1) n)) ≡ count_ones (m / 2) = ones_from p (m / 2) (a + 1) n (omega (arith, small)) (λ i low. let q : a + 1 + i ≡ a + suc i = omega arith in ap p q ∙ is (suc i) (omega (arith, low)) ∙ ap (λ k. k == 1) (bit_at-suc m i)) in
    let here : p a ≡ (m % 2 == 1) = let q : a ≡ a + 0 = omega arith in ap p q ∙ is 0 (omega arith) ∙ ap (λ k. k == 1) (bit_at_lowest m) in
    by (p a) (m % 2 == 1) here later ∙ ap (λ k. k + count_ones (m / 2)) (sym (one_bit (m % 2) (omega arith))) ∙ swap (count_ones (m % 2)) (count_ones (m / 2)) ∙ sym halves
  where
    swap : (x y : ℕ) → x + y ≡ y + x
    swap x y = omega arith

    by : (b c : Bool) → b ≡ c → length (filter p (range_with_len (a + 1) n)) ≡ count_ones (m / 2) → length (cond b (a ∷ filter p (range_with_len (a + 1) n)) (filter p (range_with_len (a + 1) n))) ≡ cond c 1 0 + count_ones (m / 2)
    by true true e later = let q : suc (length (filter p (range_with_len (a + 1) n))) ≡ 1 + count_ones (m / 2) = omega (arith, later) in q
    by false false e later = let q : length (filter p (range_with_len (a + 1) n)) ≡ 0 + count_ones (m / 2) = omega (arith, later) in q
    by true false e later = absurd (true≢false e)
    by false true e later = absurd (true≢false (sym e))

pub counted : (word : ℕ) → word < 2 ^ 64 → length (regions_by (λ r. bit_at word r == 1)) ≡ count_ones word
unfolding regions_by
counted word small = ones_from (λ r. bit_at word r == 1) word 0 64 small (λ i low. let q : 0 + i ≡ i = omega arith in ap (λ r. bit_at word r == 1) q)
