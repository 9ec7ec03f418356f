-- What works did is one history.
use Rattle.std.proofs.Common.{◌≡◌, ◌⊎◌, ℕ, zero, suc, ◌+◌, ◌<◌, ◌≤◌, ◌==◌, cond, List, [], ◌∷◌, length, Option, Some, None, refl, sym, ap, subst, ◌∙◌, ⊎_elim, arith}
use Rattle.std.specs.Prelude.{Contains, slice_get, sum_by}
use Rattle.std.specs.List.{AllZip, cons_option}
use Rattle.std.proofs.lemmas.List.Sums.{sum_by-cons}
use Rattle.std.proofs.lemmas.Option.{none-some, same_Some, slice_get_cases, slice_get_within}
use Rattle.fine_model.specs.declared.Entry.{Entry}
use Rattle.fine_model.specs.declared.Outcome.{Outcome}
use Rattle.fine_model.specs.declared.Outcome.TheVariants as outcome
use Rattle.fine_model.specs.declared.ScriptTxn.{ScriptTxn}
use Rattle.fine_model.specs.History.{Commit}
use Rattle.fine_model.specs.Outcomes.{IsCommittedAt, IsHistoryOf, IsOutcomeOf}
use Rattle.lane_laws.specs.Works.{ArePlaced, FewLaw, Gathers, HasDone, Work, WorksLaw, placed_in, placed_of}
use Rattle.lane_laws.proofs.Placing.{first_or}

-- ---- lists, item by item

pub zip_left : {A B : Type 0} (R : A → B → Type 0) (xs : List A) (ys : List B) → AllZip R xs ys → (k : ℕ) (x : A) → slice_get xs k ≡ Some x → (y : B) × (slice_get ys k ≡ Some y) × R x y
zip_left R [] [] all k x is = absurd (none-some x is)
zip_left R [] (y ∷ ys) all k x is = absurd all
zip_left R (z ∷ xs) [] all k x is = absurd all
zip_left {A} {B} R (z ∷ xs) (y ∷ ys) all zero x is = (y, refl, subst (λ a. R a y) (same_Some z x is) all.0)
zip_left R (z ∷ xs) (y ∷ ys) all (suc k) x is = zip_left R xs ys all.1 k x is

pub zip_right : {A B : Type 0} (R : A → B → Type 0) (xs : List A) (ys : List B) → AllZip R xs ys → (k : ℕ) (y : B) → slice_get ys k ≡ Some y → (x : A) × (slice_get xs k ≡ Some x) × R x y
zip_right R [] [] all k y is = absurd (none-some y is)
zip_right R [] (z ∷ ys) all k y is = absurd all
zip_right R (x ∷ xs) [] all k y is = absurd all
zip_right {A} {B} R (x ∷ xs) (z ∷ ys) all zero y is = (x, refl, subst (λ b. R x b) (same_Some z y is) all.0)
zip_right R (x ∷ xs) (z ∷ ys) all (suc k) y is = zip_right R xs ys all.1 k y is

pub zip_from : {A B : Type 0} (R : A → B → Type 0) (xs : List A) (ys : List B) → length xs ≡ length ys → ((k : ℕ) (x : A) (y : B) → slice_get xs k ≡ Some x → slice_get ys k ≡ Some y → R x y) → AllZip R xs ys
zip_from R [] [] long each = tt
zip_from R [] (y ∷ ys) long each = absurd (omega (arith, long))
zip_from R (x ∷ xs) [] long each = absurd (omega (arith, long))
zip_from R (x ∷ xs) (y ∷ ys) long each = (each 0 x y refl refl, zip_from R xs ys (omega (arith, long)) (λ k. each (suc k)))

-- ---- commits of outcomes

later_in : {A : Type 0} (m : Option A) (xs : List A) (x : A) → Contains xs x → Contains (cons_option m xs) x
later_in None xs x at = at
later_in (Some y) xs x at = (suc at.0, (let lt = at.1 in omega (arith, lt)), at.2)

pub in_placed : (outcomes : List Outcome) (j place : ℕ) (c : Commit) → IsCommittedAt outcomes j place c → Contains (placed_of outcomes) (place, c)
in_placed [] j place c is = absurd (none-some (outcome.Committed place c.epoch c.entry) is)
in_placed (o ∷ outcomes) zero place c is =
    subst (λ (p : Outcome). Contains (cons_option (placed_in p) (placed_of outcomes)) (place, c)) (sym (same_Some o (outcome.Committed place c.epoch c.entry) is)) (0, omega arith, refl)
in_placed (o ∷ outcomes) (suc j) place c is = later_in {A = ℕ × Commit} (placed_in o) (placed_of outcomes) (place, c) (in_placed outcomes j place c is)

pub from_placed : (outcomes : List Outcome) (place : ℕ) (c : Commit) → Contains (placed_of outcomes) (place, c) → (j : ℕ) × IsCommittedAt outcomes j place c
from_placed [] place c at = let lt = at.1 in absurd (omega (arith, lt))
from_placed (outcome.Committed p epoch entry ∷ outcomes) place c at = ⊎_elim
    (λ same. (0, ap (λ (q : ℕ × Commit). Some (outcome.Committed q.0 q.1.epoch q.1.entry)) same))
    (λ more. let f = from_placed outcomes place c more in (suc f.0, f.1))
    (first_or {A = ℕ × Commit} (p, record { entry = entry; epoch = epoch }) (place, c) (placed_of outcomes) at)
from_placed (outcome.Aborted ∷ outcomes) place c at = let f = from_placed outcomes place c at in (suc f.0, f.1)
from_placed (outcome.Refused why ∷ outcomes) place c at = let f = from_placed outcomes place c at in (suc f.0, f.1)
from_placed (outcome.NotRun ∷ outcomes) place c at = let f = from_placed outcomes place c at in (suc f.0, f.1)

-- ---- the outcomes of works

module _ (script : List ScriptTxn) (history : List Commit) (placed : List (List (ℕ × Commit))) (works : List Work) (outcomes : List Outcome) (all : AllZip (HasDone script) placed works) (are : ArePlaced history placed)
    (gathers : Gathers script works outcomes) where
  is_of : (i : ℕ) (txn : ScriptTxn) (o : Outcome) → slice_get script i ≡ Some txn → slice_get outcomes i ≡ Some o → IsOutcomeOf txn o
  is_of i txn o is at = ⊎_elim
      (λ none. subst (IsOutcomeOf txn) (sym none) tt)
      (λ d. let z = zip_right (HasDone script) placed works all d.work d.is d.there in (z.2.each d.place i txn o d.at is d.done).0)
      (gathers.only i o at)

  -- what is committed is at its place, as its work tells
  record Kept (i place : ℕ) (c : Commit) : Type 0 where
    before : ℕ
    place_is : place ≡ before + 1
    there : slice_get history before ≡ Some c
    turn_is : c.entry.turn ≡ i + 1

  kept : (i place : ℕ) (c : Commit) → IsCommittedAt outcomes i place c → Kept i place c
  kept i place c is = ⊎_elim
      (λ none. absurd (let e : outcome.Committed place c.epoch c.entry ≡ outcome.NotRun = none in cc))
      (λ d.
      let z = zip_right (HasDone script) placed works all d.work d.is d.there in
      let t = are.there d.work place c z.0 z.1 (subst (λ (l : List (ℕ × Commit)). Contains l (place, c)) (sym z.2.places) (in_placed d.is.done d.place place c d.done)) in
      record { before = t.0; place_is = t.1; there = t.2; turn_is = z.2.numbered d.place i place c d.at d.done })
      (gathers.only i (outcome.Committed place c.epoch c.entry) is)

  found : (place : ℕ) (c : Commit) → slice_get history place ≡ Some c → (i : ℕ) × IsCommittedAt outcomes i (place + 1) c
  found place c is =
      let (k, own, at, within) = are.all place c is in
      let z = zip_left (HasDone script) placed works all k own at in
      let f = from_placed z.0.done (place + 1) c (subst (λ (l : List (ℕ × Commit)). Contains l (place + 1, c)) z.2.places within) in
      let short = slice_get_within z.0.done f.0 (outcome.Committed (place + 1) c.epoch c.entry) f.1 in
      let few = z.2.count in
      ⊎_elim
      (λ i. (i.0, gathers.done i.0 (outcome.Committed (place + 1) c.epoch c.entry) (record { work = k; place = f.0; is = z.0; there = z.1; at = i.2; done = f.1 })))
      (λ past. let no = past.0 in absurd (omega (arith, short, few, no)))
      (slice_get_cases z.0.at f.0).1

pub works_law : WorksLaw
works_law script history placed works outcomes all are gathers = (
  zip_from IsOutcomeOf script outcomes (sym gathers.count) (λ i txn o. is_of script history placed works outcomes all are gathers i txn o),
  record {
    each = λ i place c is.
        let k = kept script history placed works outcomes all are gathers i (place + 1) c is in
        let p = k.place_is in let same : k.before ≡ place = omega (arith, p) in
        (subst (λ n. slice_get history n ≡ Some c) same k.there, k.turn_is);
    no_place_zero = λ i c is. let k = kept script history placed works outcomes all are gathers i 0 c is in let p = k.place_is in omega (arith, p);
    only = λ place c is. found script history placed works outcomes all are gathers place c is;
  },
)

-- ---- no more commits than outcomes

abbrev at_place : ℕ → Outcome → ℕ
at_place n (outcome.Committed place epoch entry) = cond (place == n) 1 0
at_place n _ = 0

-- one of the first places
abbrev so_far : ℕ → Outcome → ℕ
so_far zero o = 0
so_far (suc n) o = so_far n o + at_place (suc n) o

same_one : (place n : ℕ) → place ≡ n → ◌≡◌ {A = ℕ} (cond (place == n) 1 0) 1
same_one place n h = grind (arith, h)

other_none : (place n : ℕ) → (place ≡ n → ⊥) → ◌≡◌ {A = ℕ} (cond (place == n) 1 0) 0
other_none place n h = grind (arith, h)

one_or_none : (place n : ℕ) → cond (place == n) 1 0 ≤ 1
one_or_none place n = ⊎_elim (λ e. omega (arith, same_one place n e)) (λ e. omega (arith, other_none place n e)) (which place n)
  where
    which : (a b : ℕ) → (a ≡ b) ⊎ (a ≡ b → ⊥)
    which a b = grind arith

none_yet : (n place epoch : ℕ) (o : Outcome) (entry : Entry) → o ≡ outcome.Committed place epoch entry → n < place → so_far n o ≡ 0
none_yet zero place epoch o entry is above = refl
none_yet (suc n) place epoch o entry is above =
    let before = none_yet n place epoch o entry is (omega (arith, above)) in
    let here : ◌≡◌ {A = ℕ} (at_place (suc n) o) 0 = ap (at_place (suc n)) is ∙ other_none place (suc n) (λ e. omega (arith, e, above)) in
    omega (arith, before, here)

at_most_one : (n : ℕ) (o : Outcome) → so_far n o ≤ 1
at_most_one zero o = omega arith
at_most_one (suc n) outcome.Aborted = let b = at_most_one n outcome.Aborted in omega (arith, b)
at_most_one (suc n) (outcome.Refused why) = let b = at_most_one n (outcome.Refused why) in omega (arith, b)
at_most_one (suc n) outcome.NotRun = let b = at_most_one n outcome.NotRun in omega (arith, b)
at_most_one (suc n) (outcome.Committed place epoch entry) = ⊎_elim
    (λ e. let none = none_yet n place epoch (outcome.Committed place epoch entry) entry refl (omega (arith, e)) in let one = one_or_none place (suc n) in omega (arith, none, one))
    (λ e. let none = other_none place (suc n) e in let b = at_most_one n (outcome.Committed place epoch entry) in omega (arith, none, b))
    (which place (suc n))
  where
    which : (a b : ℕ) → (a ≡ b) ⊎ (a ≡ b → ⊥)
    which a b = grind arith

sums_add : (n : ℕ) (outcomes : List Outcome) → sum_by (so_far (suc n)) outcomes ≡ sum_by (so_far n) outcomes + sum_by (at_place (suc n)) outcomes
sums_add n [] = refl
sums_add n (o ∷ outcomes) =
    let a = sum_by-cons (so_far (suc n)) o outcomes in
    let b = sum_by-cons (so_far n) o outcomes in
    let c = sum_by-cons (at_place (suc n)) o outcomes in
    let rest = sums_add n outcomes in
    omega (arith, a, b, c, rest)

no_longer : (n : ℕ) (outcomes : List Outcome) → sum_by (so_far n) outcomes ≤ length outcomes
no_longer n [] = omega arith
no_longer n (o ∷ outcomes) = let a = sum_by-cons (so_far n) o outcomes in let one = at_most_one n o in let rest = no_longer n outcomes in omega (arith, a, one, rest)

some_at : (n epoch : ℕ) (entry : Entry) (outcomes : List Outcome) (i : ℕ) → slice_get outcomes i ≡ Some (outcome.Committed n epoch entry) → 1 ≤ sum_by (at_place n) outcomes
some_at n epoch entry [] i is = absurd (none-some (outcome.Committed n epoch entry) is)
some_at n epoch entry (o ∷ outcomes) zero is =
    let a = sum_by-cons (at_place n) o outcomes in
    let one : ◌≡◌ {A = ℕ} (at_place n o) 1 = ap (at_place n) (same_Some o (outcome.Committed n epoch entry) is) ∙ same_one n n refl in
    omega (arith, a, one)
some_at n epoch entry (o ∷ outcomes) (suc i) is = let a = sum_by-cons (at_place n) o outcomes in let rest = some_at n epoch entry outcomes i is in omega (arith, a, rest)

module _ (outcomes : List Outcome) (history : List Commit) (is : IsHistoryOf outcomes history) where
  first_ones : (n : ℕ) → n ≤ length history → n ≤ sum_by (so_far n) outcomes
  first_ones zero within = omega arith
  first_ones (suc n) within = ⊎_elim
      (λ c.
      let f = is.only n c.0 c.2 in
      let e : n + 1 ≡ suc n = omega arith in
      let one = some_at (suc n) c.0.epoch c.0.entry outcomes f.0 (subst (λ m. IsCommittedAt outcomes f.0 m c.0) e f.1) in
      let before = first_ones n (omega (arith, within)) in
      let s = sums_add n outcomes in
      omega (arith, one, before, s))
      (λ past. let no = past.0 in absurd (omega (arith, within, no)))
      (slice_get_cases history n).1

pub few_law : FewLaw
few_law outcomes history is = let a = first_ones outcomes history is (length history) (omega arith) in let b = no_longer (length history) outcomes in omega (arith, a, b)
