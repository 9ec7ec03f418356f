-- Regions as the bits of a word.
use Rattle.std.proofs.Common.{◌≡◌, ◌≢◌, ℕ, zero, suc, ◌+◌, ◌*◌, ◌%◌, ◌^◌, ◌<◌, ◌≤◌, ◌==◌, Bool, true, false, ◌&&◌, ◌||◌, cond, List, [], ◌∷◌, ◌++◌, length, take, drop, ◌-◌, true≢false, None, refl, sym, ap, ◌∙◌, subst, arith, eqb-true, eq-eqb}
use Rattle.std.specs.Prelude.{nat_eq, filter, map, Option, option_map, bit_or, slice_index_or, slice_range, replicate}
use Rattle.std.specs.Int.{bit_at, w64}
use Rattle.std.specs.List.{AllByRecursion, list_any, range_with_len}
use Rattle.std.proofs.lemmas.List.{map-append}
use Rattle.std.proofs.lemmas.List.Folds.{list_any-append}
use Rattle.std.proofs.lemmas.Map.Views.{any-filter_same}
use Rattle.std.proofs.lemmas.Nat.Bits.{bit_at_set_same, bit_at_set_other}
use Rattle.fine_model.specs.declared.law.OpenedEye.{OpenedEye}
use Rattle.fine_model.specs.Boards.{Buffer, regions_by, empty_of, first_from, is_empty}

in_range : (r a n : ℕ) → a ≤ r → r < a + n → list_any (nat_eq r) (range_with_len a n) ≡ true
in_range r a zero low high = absurd (omega (arith, low, high))
in_range r a (suc n) low high = by (r == a) refl (λ other. in_range r (a + 1) n (omega (arith, low, other)) (omega (arith, high)))
  where
    by : (t : Bool) → (r == a) ≡ t → (r ≢ a → list_any (nat_eq r) (range_with_len (a + 1) n) ≡ true) → ((r == a) || list_any (nat_eq r) (range_with_len (a + 1) n)) ≡ true
    by true e rest = ap (λ b. b || list_any (nat_eq r) (range_with_len (a + 1) n)) e
    by false e rest = ap (λ b. b || list_any (nat_eq r) (range_with_len (a + 1) n)) e ∙ rest (λ same. true≢false (sym (eq-eqb r a same) ∙ e))

-- a region is among those that pass a test where it passes it
pub among : (test : ℕ → Bool) (r : ℕ) → r < 64 → list_any (nat_eq r) (regions_by test) ≡ test r
unfolding regions_by
among test r small =
    any-filter_same (nat_eq r) test (test r) (λ k e. sym (ap test (eqb-true r k e))) (range_with_len 0 64)
    ∙ ap (λ b. test r && b) (in_range r 0 64 (omega arith) (omega (arith, small))) ∙ both (test r)
  where
    both : (b : Bool) → (b && true) ≡ b
    both true = refl
    both false = refl

-- tests that agree below 64 pass the same regions
same_from : (p q : ℕ → Bool) (a n : ℕ) → ((r : ℕ) → r < a + n → p r ≡ q r) → filter p (range_with_len a n) ≡ filter q (range_with_len a n)
same_from p q a zero agree = refl
same_from p q a (suc n) agree =
    ap (λ b. cond b (a ∷ filter p (range_with_len (a + 1) n)) (filter p (range_with_len (a + 1) n))) (agree a (omega arith))
    ∙ ap (λ xs. cond (q a) (a ∷ xs) xs) (same_from p q (a + 1) n (λ r h. agree r (omega (arith, h))))

pub same_regions : (p q : ℕ → Bool) → ((r : ℕ) → r < 64 → p r ≡ q r) → regions_by p ≡ regions_by q
unfolding regions_by
same_regions p q agree = same_from p q 0 64 (λ r h. agree r (omega (arith, h)))

-- a bit more is a region more
pub bit_more : (word region r : ℕ) (front : List ℕ) → region < 64 → (bit_at word r == 1) ≡ list_any (nat_eq r) front → (bit_at (bit_or word (1 * 2 ^ region % 2 ^ 64)) r == 1) ≡ list_any (nat_eq r) (front ++ region ∷ [])
bit_more word region r front small so_far = by (r == region) refl
  where
    more : list_any (nat_eq r) (front ++ region ∷ []) ≡ (list_any (nat_eq r) front || ((r == region) || false))
    more = list_any-append (nat_eq r) front (region ∷ [])

    last : (b : Bool) → (b || (true || false)) ≡ true
    last true = refl
    last false = refl

    none : (b : Bool) → (b || (false || false)) ≡ b
    none true = refl
    none false = refl

    by : (t : Bool) → (r == region) ≡ t → (bit_at (bit_or word (1 * 2 ^ region % 2 ^ 64)) r == 1) ≡ list_any (nat_eq r) (front ++ region ∷ [])
    by true e =
        let set : bit_at (bit_or word (1 * 2 ^ region % 2 ^ 64)) r ≡ 1 = ap (bit_at (bit_or word (1 * 2 ^ region % 2 ^ 64))) (eqb-true r region e) ∙ bit_at_set_same w64 word region small in
        ap (λ n. n == 1) set ∙ sym (more ∙ ap (λ b. list_any (nat_eq r) front || (b || false)) e ∙ last (list_any (nat_eq r) front))
    by false e =
        let kept : bit_at (bit_or word (1 * 2 ^ region % 2 ^ 64)) r ≡ bit_at word r = bit_at_set_other w64 word region small r (λ same. true≢false (sym (eq-eqb r region same) ∙ e)) in
        ap (λ n. n == 1) kept ∙ so_far ∙ sym (more ∙ ap (λ b. list_any (nat_eq r) front || (b || false)) e ∙ none (list_any (nat_eq r) front))

-- the next one of what is left
pub all_next : (P : ℕ → Type 0) (xs : List ℕ) (i : ℕ) → i < length xs → AllByRecursion P (drop i xs) → P (slice_index_or xs i 0) × AllByRecursion P (drop (i + 1) xs)
all_next P [] i here all = absurd (omega (arith, here))
all_next P (x ∷ xs) zero here all = (all.0, all.1)
all_next P (x ∷ xs) (suc i) here all =
    let e : suc (i + 1) ≡ suc i + 1 = omega arith in
    let next = all_next P xs i (omega (arith, here)) all in (next.0, subst (λ k. AllByRecursion P (drop k (x ∷ xs))) e next.1)

-- ---- buffers

take_map : {A B : Type 0} (f : A → B) (n : ℕ) (xs : List A) → take n (map f xs) ≡ map f (take n xs)
take_map f zero xs = refl
take_map f (suc n) [] = refl
take_map f (suc n) (x ∷ xs) = ap (λ ys. f x ∷ ys) (take_map f n xs)

drop_map : {A B : Type 0} (f : A → B) (n : ℕ) (xs : List A) → drop n (map f xs) ≡ map f (drop n xs)
drop_map f zero xs = refl
drop_map f (suc n) [] = refl
drop_map f (suc n) (x ∷ xs) = drop_map f n xs

own_buffers : {A B : Type 0} (f : A → B) (xs : List A) (seat : ℕ) → 1 ≤ seat → slice_range (map f xs) (3 * (seat - 1)) (3 * seat) ≡ map f (slice_range xs (3 * (seat - 1)) (3 * (seat - 1) + 3))
own_buffers f xs seat some =
    let e : 3 * seat ≡ 3 * (seat - 1) + 3 = omega arith in
    ap (λ b. take (b - 3 * (seat - 1)) (drop (3 * (seat - 1)) (map f xs))) e
    ∙ ap (take (3 * (seat - 1) + 3 - 3 * (seat - 1))) (drop_map f (3 * (seat - 1)) xs) ∙ take_map f (3 * (seat - 1) + 3 - 3 * (seat - 1)) (drop (3 * (seat - 1)) xs)

-- the lowest empty buffer of a seat, found among the seat's own
pub lowest : {H : Type 0} (f : H → OpenedEye) (items : List (Option H)) (board : List Buffer) (shown : List (Option H)) (seat : ℕ) (found : Option ℕ) → 1 ≤ seat → map (option_map f) items ≡ board → shown ≡ items
    → found ≡ first_from is_empty 0 (map (option_map f) (slice_range shown (3 * (seat - 1)) (3 * (seat - 1) + 3))) → empty_of board seat ≡ found
lowest f items board shown seat found some view is first =
    sym (ap (λ bs. empty_of bs seat) view) ∙ ap (first_from is_empty 0) (own_buffers (option_map f) items seat some)
    ∙ ap (λ xs. first_from is_empty 0 (map (option_map f) (slice_range xs (3 * (seat - 1)) (3 * (seat - 1) + 3)))) (sym is) ∙ sym first

one_more : {A : Type 0} (n : ℕ) (x : A) → replicate n x ++ x ∷ [] ≡ replicate (n + 1) x
one_more zero x = refl
one_more (suc n) x = let e : suc (n + 1) ≡ suc n + 1 = omega arith in ap (λ xs. x ∷ xs) (one_more n x) ∙ ap (λ k. replicate k x) e

pub none_more : {A B : Type 0} (f : A → B) (xs : List (Option A)) (n : ℕ) → map (option_map f) xs ≡ replicate n None → map (option_map f) (xs ++ None ∷ []) ≡ replicate (n + 1) None
none_more f xs n so_far = map-append (option_map f) xs (None ∷ []) ∙ ap (λ ys. ys ++ None ∷ []) so_far ∙ one_more n None
