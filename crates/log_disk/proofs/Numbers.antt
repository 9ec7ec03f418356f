-- The open eyes of a disk, and their numbers.
use Rattle.std.proofs.Common.{◌≡◌, ℕ, ◌+◌, ◌<◌, ◌≤◌, zero, suc, Bool, true, false, cond, List, [], ◌∷◌, ◌++◌, length, get_or, map, refl, sym, ap, subst, ◌∙◌, arith}
use Rattle.std.specs.Prelude.{Any, Contains, filter, not, ◌==◌, nat_eq}
use Rattle.std.specs.List.{range_with_len, AllByRecursion, IsDistinct}
use Rattle.std.proofs.lemmas.List.FromFn.{map-range_with_len_more, length-range_with_len, get_or-range_with_len}
use Rattle.std.proofs.lemmas.List.{map-id, map_push}
use Rattle.std.proofs.lemmas.List.Sums.{length-filter, count_by-le-length}
use Rattle.std.proofs.lemmas.Bool.{eq-eqb, ne_eqb}
use Rattle.std.proofs.lemmas.Map.Keys.{IsDistinct-cons, IsDistinct-head, IsDistinct-tail}
use Rattle.log_disk.specs.Disk.{OpenEye, AreNumbered}
use Rattle.log_disk.proofs.Lists.{contains_left, contains_last, all_push, all_weaker, all_filter}
use Rattle.log_disk.specs.Eyes.{open_of, numbers_to}
use Rattle.log_disk.specs.declared.eyes.OpenEye.{OpenEye as Opened}

-- the open eyes but those of one number
pub open-filter : (number : ℕ) (eyes : List Opened) → map open_of (filter (λ e. not (e.number == number)) eyes) ≡ filter (λ e. not (e.number == number)) (map open_of eyes)
open-filter number [] = refl
open-filter number (e ∷ eyes) = split (not (e.number == number)) _ _ (open-filter number eyes)
  where
    split : (b : Bool) (xs : List Opened) (ys : List OpenEye) → map open_of xs ≡ ys → map open_of (cond b (e ∷ xs) xs) ≡ cond b (open_of e ∷ ys) ys
    split true xs ys same = ap (λ es. open_of e ∷ es) same
    split false xs ys same = same

-- the next number is put behind the others
pub numbers_more : (given : ℕ) → numbers_to (given + 1) ≡ numbers_to given ++ (given + 1) ∷ []
numbers_more given =
    sym (map-id (range_with_len 1 (given + 1))) ∙ map-range_with_len_more (λ n. n) 1 given (given + 1) (omega arith)
    ∙ ap (λ xs. xs ++ (given + 1) ∷ []) (map-id (range_with_len 1 given))

-- and it is none of them
pub number_is_new : (given : ℕ) → Contains (numbers_to given) (given + 1) → ⊥
number_is_new given there =
    let below : there.0 < given = omega (arith, there.1, length-range_with_len 1 given) in
    omega (arith, below, get_or-range_with_len 1 given there.0 (given + 1) below ∙ refl, there.2)

-- one more eye is listed
pub listed_more : (eyes before after : List Opened) (e : Opened) (number : ℕ) (regions : List ℕ) → after ≡ before ++ e ∷ [] → before ≡ eyes → e.number ≡ number → e.regions.value.items ≡ regions
    → map open_of after ≡ map open_of eyes ++ record { number = number; regions = regions } ∷ []
listed_more eyes before after e number regions more same n r =
    ap (map open_of) more ∙ map_push open_of before e ∙ ap (λ xs. map open_of xs ++ open_of e ∷ []) same
    ∙ ap (λ m. map open_of eyes ++ record { number = m; regions = e.regions.value.items } ∷ []) n
    ∙ ap (λ rs. map open_of eyes ++ record { number = number; regions = rs } ∷ []) r

-- numbers that differ from one that comes before them
abbrev AreApartFrom : ℕ → List OpenEye → Type 0
AreApartFrom number eyes = AllByRecursion (λ n. nat_eq number n ≡ false) (map (λ (eye : OpenEye). eye.number) eyes)

-- eyes stay apart with one more that differs from each, and with some of them gone
distinct_push : (eyes : List OpenEye) (eye : OpenEye) → IsDistinct nat_eq (map (λ (e : OpenEye). e.number) eyes)
    → AllByRecursion (λ e. nat_eq e.number eye.number ≡ false) eyes → IsDistinct nat_eq (map (λ (e : OpenEye). e.number) (eyes ++ eye ∷ []))
distinct_push [] eye apart new = IsDistinct-cons nat_eq eye.number [] tt apart
distinct_push (e ∷ eyes) eye apart new =
    IsDistinct-cons nat_eq e.number _ (front eyes (IsDistinct-head nat_eq e.number _ apart)) (distinct_push eyes eye (IsDistinct-tail nat_eq e.number _ apart) new.1)
  where
    front : (es : List OpenEye) → AreApartFrom e.number es → AreApartFrom e.number (es ++ eye ∷ [])
    front [] h = (new.0, tt)
    front (x ∷ es) h = (h.0, front es h.1)

apart_filter : (number : ℕ) (p : OpenEye → Bool) (eyes : List OpenEye) → AreApartFrom number eyes → AreApartFrom number (filter p eyes)
apart_filter number p [] h = tt
apart_filter number p (e ∷ eyes) h = by (p e) (filter p eyes) (apart_filter number p eyes h.1)
  where
    by : (b : Bool) (es : List OpenEye) → AreApartFrom number es → AreApartFrom number (cond b (e ∷ es) es)
    by true es rest = (h.0, rest)
    by false es rest = rest

distinct_filter : (p : OpenEye → Bool) (eyes : List OpenEye) → IsDistinct nat_eq (map (λ (e : OpenEye). e.number) eyes) → IsDistinct nat_eq (map (λ (e : OpenEye). e.number) (filter p eyes))
distinct_filter p [] apart = apart
distinct_filter p (e ∷ eyes) apart =
    by (p e) (filter p eyes) (apart_filter e.number p eyes (IsDistinct-head nat_eq e.number _ apart)) (distinct_filter p eyes (IsDistinct-tail nat_eq e.number _ apart))
  where
    by : (b : Bool) (es : List OpenEye) → AreApartFrom e.number es → IsDistinct nat_eq (map (λ (e : OpenEye). e.number) es) → IsDistinct nat_eq (map (λ (e : OpenEye). e.number) (cond b (e ∷ es) es))
    by true es front rest = IsDistinct-cons nat_eq e.number _ front rest
    by false es front rest = rest

-- no eye is open, and an eye is opened or closed
pub numbered_none : (given : List ℕ) → AreNumbered [] given
unfolding IsDistinct
numbered_none given = record { apart = tt; given = tt }

pub numbered_opens : (eyes : List OpenEye) (given : List ℕ) (eye : OpenEye) → (Contains given eye.number → ⊥) → AreNumbered eyes given → AreNumbered (eyes ++ eye ∷ []) (given ++ eye.number ∷ [])
numbered_opens eyes given eye new are = record {
  apart =
      distinct_push eyes eye are.apart
      (all_weaker (λ (e : OpenEye). Contains given e.number) _ (λ e in'. ne_eqb e.number eye.number (λ same. new (subst (Contains given) same in'))) eyes are.given);
  given =
      all_push (λ (e : OpenEye). Contains (given ++ eye.number ∷ []) e.number) eyes eye
      (all_weaker (λ (e : OpenEye). Contains given e.number) _ (λ e in'. contains_left given (eye.number ∷ []) e.number in') eyes are.given) (contains_last given eye.number);
}

pub numbered_closes : (eyes : List OpenEye) (given : List ℕ) (p : OpenEye → Bool) → AreNumbered eyes given → AreNumbered (filter p eyes) given
numbered_closes eyes given p are = record { apart = distinct_filter p eyes are.apart; given = all_filter (λ (e : OpenEye). Contains given e.number) p eyes are.given }

-- one eye fewer is open, at least, once that of a number is closed
pub fewer_open : (number : ℕ) (eyes : List OpenEye) → Any (λ e. e.number ≡ number) eyes → length (filter (λ e. not (e.number == number)) eyes) < length eyes
fewer_open number eyes there = at eyes there.0 there.1 there.2 (ap (λ (e : OpenEye). e.number) there.3 ∙ there.4)
  where
    kept : List OpenEye → List OpenEye
    kept es = filter (λ e. not (e.number == number)) es

    no_more : (es : List OpenEye) → length (kept es) ≤ length es
    no_more es = omega (arith, length-filter (λ (e : OpenEye). not (e.number == number)) es, count_by-le-length (λ (e : OpenEye). not (e.number == number)) es)

    either : (b : Bool) (e : OpenEye) (es : List OpenEye) (len : ℕ) → length es < len → length (cond b (e ∷ es) es) < len + 1
    either true e es len less = omega (arith, less)
    either false e es len less = omega (arith, less)

    at : (es : List OpenEye) (k : ℕ) (d : OpenEye) → k < length es → (get_or es k d).number ≡ number → length (kept es) < length es
    at [] k d lt same = absurd (omega (arith, lt))
    at (e ∷ es) zero d lt same = rw (ap (λ b. not b) (eq-eqb e.number number same)) (omega (arith, no_more es))
    at (e ∷ es) (suc k) d lt same = omega (arith, either (not (e.number == number)) e (kept es) (length es) (at es k d (omega (arith, lt)) same))
