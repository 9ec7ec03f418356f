-- Outcomes that are moved to their places, one after another.
use Rattle.std.proofs.Common.{◌≡◌, ◌≢◌, ◌⊎◌, inl, inr, ℕ, zero, suc, ◌+◌, ◌<◌, ◌≤◌, List, [], ◌∷◌, ◌++◌, length, set, Option, Some, None, refl, sym, ap, subst, ◌∙◌, ⊎_elim, arith}
use Rattle.std.specs.Prelude.{get_or, slice_get, slice_set, take}
use Rattle.std.specs.List.{AllByRecursion}
use Rattle.std.proofs.lemmas.List.{length-set}
use Rattle.std.proofs.lemmas.Option.{none-some, same_Some, slice_get_read}
use Rattle.fine_model.specs.declared.Outcome.{Outcome}
use Rattle.fine_places.proofs.Lists.{decide}
use Rattle.hall_rooms.proofs.Naming.{set_there}
use Rattle.lane_laws.specs.Lanes.{LaneValue}
use Rattle.lane_runs.specs.Lane.{AreApart, MovesDone}
use Rattle.lane_runs.proofs.Lists.{all_at, item_at}

pub set_elsewhere : {A : Type 0} (l : List A) (i j : ℕ) (x : A) → j ≢ i → slice_get (slice_set l i x) j ≡ slice_get l j
set_elsewhere [] i j x ne = refl
set_elsewhere (a ∷ l) zero zero x ne = absurd (ne refl)
set_elsewhere (a ∷ l) zero (suc j) x ne = refl
set_elsewhere (a ∷ l) (suc i) zero x ne = refl
set_elsewhere (a ∷ l) (suc i) (suc j) x ne = set_elsewhere l i j x (λ e. ne (ap suc e))

-- The first n outcomes were moved; those that are left are as they were.
pub record MovesFirst (n : ℕ) (at : List ℕ) (all left old new : List Outcome) : Type 0 where
  pub count : length new ≡ length old
  pub many : length left ≡ length all
  pub done : (j i : ℕ) (o : Outcome) → j < n → slice_get at j ≡ Some i → slice_get all j ≡ Some o → slice_get new i ≡ Some o
  pub others : (i : ℕ) → ((j : ℕ) → j < n → slice_get at j ≡ Some i → ⊥) → slice_get new i ≡ slice_get old i
  pub rest : (j : ℕ) → n ≤ j → slice_get left j ≡ slice_get all j

pub moves_more : (n : ℕ) (at : List ℕ) (all left old new : List Outcome) (place : ℕ) (o blank : Outcome) → AreApart at → slice_get at n ≡ Some place → slice_get left n ≡ Some o → place < length new → MovesFirst n at all left old new
    → MovesFirst (n + 1) at all (slice_set left n blank) old (slice_set new place o)
moves_more n at all left old new place o blank apart is item within m =
    let was = item_at new place within in
    record {
      count = length-set new place o ∙ m.count;
      many = length-set left n blank ∙ m.many;
      done = λ j i p low at_j out. ⊎_elim
          (λ (same : j ≡ n).
          let here : i ≡ place = same_Some i place (sym at_j ∙ (ap (slice_get at) same ∙ is)) in
          let outcome : o ≡ p = same_Some o p (sym item ∙ (m.rest n (omega arith) ∙ (ap (slice_get all) (sym same) ∙ out))) in
          subst (λ k. slice_get (slice_set new place o) k ≡ Some p) (sym here) (subst (λ q. slice_get (slice_set new place o) place ≡ Some q) outcome (set_there new place was.0 o was.1)))
          (λ (other : j ≢ n).
          set_elsewhere new place i o (λ e. other (apart j n i at_j (is ∙ ap Some (sym e)))) ∙ m.done j i p (less j low other) at_j out)
          (decide j n);
      others = λ i none. set_elsewhere new place i o (λ e. none n (omega arith) (is ∙ ap Some (sym e))) ∙ m.others i (λ j low. none j (omega (arith, low)));
      rest = λ j low. set_elsewhere left n j blank (λ e. omega (arith, e, low)) ∙ m.rest j (omega (arith, low));
    }
  where
    less : (j : ℕ) → j < n + 1 → j ≢ n → j < n
    less j low other = grind (arith, low, other)

taken_at : {A : Type 0} (n j : ℕ) (l : List A) (a : A) → slice_get (take n l) j ≡ Some a → (j < n) × (slice_get l j ≡ Some a)
taken_at zero j l a is = absurd (none-some a is)
taken_at (suc n) j [] a is = absurd (none-some a is)
taken_at (suc n) zero (x ∷ l) a is = (omega arith, is)
taken_at (suc n) (suc j) (x ∷ l) a is = let t = taken_at n j l a is in (let lt = t.0 in omega (arith, lt), t.1)

length_taken : {A : Type 0} (n : ℕ) (l : List A) → n ≤ length l → length (take n l) ≡ n
length_taken zero l low = refl
length_taken (suc n) [] low = absurd (omega (arith, low))
length_taken (suc n) (x ∷ l) low = let h = length_taken n l (omega (arith, low)) in omega (arith, h)

-- all that was done was moved
pub moves_done : (n : ℕ) (w : LaneValue) (all left old new : List Outcome) → w.work.done ≡ take n all → n ≤ length all → MovesFirst n w.work.at all left old new → MovesDone w old new
moves_done n w all left old new is low m = record {
  count = m.count;
  done = λ j i o at out. let t = taken_at n j all o (ap (λ l. slice_get l j) (sym is) ∙ out) in m.done j i o t.0 at t.1;
  others = λ i none. m.others i (λ j before at. none j (let l = ap length is in let k = length_taken n all low in omega (arith, before, l, k)) at);
}

-- one step more, by what the code knows of it
pub moves_next : (n count : ℕ) (w : LaneValue) (at now : List ℕ) (all left old new left' new' : List Outcome) (place : ℕ) (o blank : Outcome) → at ≡ w.work.at → now ≡ at → AreApart w.work.at → AllByRecursion (λ i. i < length old) w.work.at → count ≤ length at → n < count
    → place ≡ get_or now n place → slice_get left n ≡ Some o → left' ≡ slice_set left n blank → new' ≡ slice_set new place o → MovesFirst n at all left old new → MovesFirst (n + 1) at all left' old new'
moves_next n count w at now all left old new left' new' place o blank of_w same apart within few low read item is_left is_new m =
    let is : slice_get at n ≡ Some place = ap (λ l. slice_get l n) (sym same) ∙ slice_get_read now (length at) n place (ap length (sym same)) (omega (arith, few, low)) read in
    let short = all_at (λ i. i < length old) w.work.at within n place (ap (λ l. slice_get l n) (sym of_w) ∙ is) in
    subst (λ l. MovesFirst (n + 1) at all l old new') (sym is_left)
    (subst (MovesFirst (n + 1) at all (slice_set left n blank) old) (sym is_new)
    (moves_more n at all left old new place o blank (subst AreApart (sym of_w) apart) is item (let c = m.count in omega (arith, short, c)) m))
