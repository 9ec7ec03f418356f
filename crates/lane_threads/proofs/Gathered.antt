-- How the outcomes of parts are put together, from the last part on.
use Rattle.std.proofs.Common.{◌≡◌, ◌≢◌, ◌⊎◌, inl, inr, ℕ, zero, suc, ◌+◌, ◌<◌, ◌≤◌, List, [], ◌∷◌, ◌++◌, length, map, Some, refl, sym, ap, subst, ◌∙◌, ⊎_elim, arith, length-append}
use Rattle.std.specs.Prelude.{replicate, slice_get}
use Rattle.std.specs.List.{AllByRecursion}
use Rattle.std.proofs.lemmas.Option.{none-some, same_Some, slice_get_within}
use Rattle.fine_model.specs.declared.Outcome.{Outcome}
use Rattle.fine_model.specs.declared.Outcome.TheVariants as outcome
use Rattle.fine_model.specs.declared.ScriptTxn.{ScriptTxn}
use Rattle.fine_places.proofs.Lists.{decide}
use Rattle.lane_laws.specs.Lanes.{places_in}
use Rattle.lane_laws.specs.Works.{Gathers, IsDone, Work}
use Rattle.lane_laws.proofs.Places.{places_are, places_ascend}
use Rattle.lane_runs.specs.Lane.{AreApart, MovesDone}
use Rattle.lane_runs.proofs.Lists.{kept_at}
use Rattle.lane_threads.specs.declared.worker.Part.{Part}
use Rattle.lane_threads.specs.Gathering.{AreOfScript}
use Rattle.lane_threads.proofs.Mapped.{mapped, unmapped}

abbrev pub work_of : Part → Work
work_of part = part.lane.work

-- ---- the places of a lane

-- each is within the script
places_within : (script : List ScriptTxn) (lane j i : ℕ) → slice_get (places_in script lane) j ≡ Some i → i < length script
places_within script lane j i at = let t = places_are script lane j i at in slice_get_within script i t.0 t.1

-- and stands once
place_once : (script : List ScriptTxn) (lane j m i : ℕ) → slice_get (places_in script lane) j ≡ Some i → slice_get (places_in script lane) m ≡ Some i → j ≡ m
place_once script lane j m i at_j at_m = by (which j m)
  where
    which : (j m : ℕ) → (j < m) ⊎ (m < j) ⊎ (j ≡ m)
    which j m = grind arith

    by : (j < m) ⊎ (m < j) ⊎ (j ≡ m) → j ≡ m
    by (inl before) = let lt = places_ascend script lane j m i i before at_j at_m in absurd (omega (arith, lt))
    by (inr (inl behind)) = let lt = places_ascend script lane m j i i behind at_m at_j in absurd (omega (arith, lt))
    by (inr (inr same)) = same

-- no two lanes have one in common
of_one : (script : List ScriptTxn) (a b j m i : ℕ) → slice_get (places_in script a) j ≡ Some i → slice_get (places_in script b) m ≡ Some i → a ≡ b
of_one script a b j m i at_j at_m =
    let s = places_are script a j i at_j in
    let t = places_are script b m i at_m in
    sym s.2 ∙ (ap (λ (x : ScriptTxn). x.lane) (same_Some s.0 t.0 (sym s.1 ∙ t.1)) ∙ t.2)

-- ---- lists

all_of : {A : Type 0} (P : A → Type 0) (l : List A) → ((j : ℕ) (x : A) → slice_get l j ≡ Some x → P x) → AllByRecursion P l
all_of P [] each = tt
all_of P (x ∷ l) each = (each 0 x refl, all_of P l (λ j y at. each (suc j) y at))

-- a number stands at one of the first places of a list, or at none
sought : (n : ℕ) (at : List ℕ) (i : ℕ) → ((j : ℕ) × (j < n) × (slice_get at j ≡ Some i)) ⊎ ((j : ℕ) → j < n → slice_get at j ≡ Some i → ⊥)
sought zero at i = inr (λ j low is. omega (arith, low))
sought (suc n) [] i = inr (λ j low is. none-some i is)
sought (suc n) (x ∷ at) i =
    ⊎_elim
    (λ (same : x ≡ i). inl (0, omega arith, ap Some same))
    (λ (other : x ≢ i).
    ⊎_elim
    (λ h. let low = h.1 in inl (suc h.0, omega (arith, low), h.2))
    (λ none. inr (λ j low is. not_there n at i x other none j low is))
    (sought n at i))
    (decide x i)
  where
    not_there : (n : ℕ) (at : List ℕ) (i x : ℕ) → x ≢ i → ((j : ℕ) → j < n → slice_get at j ≡ Some i → ⊥) → (j : ℕ) → j < suc n → slice_get (x ∷ at) j ≡ Some i → ⊥
    not_there n at i x other none zero low is = other (same_Some x i is)
    not_there n at i x other none (suc j) low is = none j (omega (arith, low)) is

-- what stands at the end
end_at : {A : Type 0} (l : List A) (a : A) → slice_get (l ++ a ∷ []) (length l) ≡ Some a
end_at [] a = refl
end_at (x ∷ l) a = end_at l a

not_run_at : (n i : ℕ) (o : Outcome) → slice_get (replicate n outcome.NotRun) i ≡ Some o → o ≡ outcome.NotRun
not_run_at zero i o is = absurd (none-some o is)
not_run_at (suc n) zero o is = sym (same_Some outcome.NotRun o is)
not_run_at (suc n) (suc i) o is = not_run_at n i o is

not_run_many : (n : ℕ) → length (replicate n outcome.NotRun) ≡ n
not_run_many zero = refl
not_run_many (suc n) = ap suc (not_run_many n)

-- ---- from the last part on

-- The outcomes of all parts but those that are left were moved to their places.
pub record GathersAfter (script : List ScriptTxn) (all left : List Part) (outcomes : List Outcome) : Type 0 where
  pub front : (moved : List Part) × (all ≡ left ++ moved)
  pub count : length outcomes ≡ length script
  pub done : (k j i : ℕ) (p : Part) (o : Outcome) → length left ≤ k → slice_get all k ≡ Some p → slice_get p.lane.work.at j ≡ Some i → slice_get p.lane.work.done j ≡ Some o → slice_get outcomes i ≡ Some o
  pub only : (i : ℕ) (o : Outcome) → slice_get outcomes i ≡ Some o → (o ≡ outcome.NotRun) ⊎ IsDone (map work_of all) i o

pub gathers_first : (script : List ScriptTxn) (all : List Part) (outcomes : List Outcome) → outcomes ≡ replicate (length script) outcome.NotRun → GathersAfter script all all outcomes
gathers_first script all outcomes is = record {
  front = ([], sym (append_none all));
  count = ap length is ∙ not_run_many (length script);
  done = λ k j i p o low at. absurd (let lt = slice_get_within all k p at in omega (arith, lt, low));
  only = λ i o at. inl (not_run_at (length script) i o (ap (λ (l : List Outcome). slice_get l i) (sym is) ∙ at));
}
  where
    append_none : {A : Type 0} (l : List A) → l ++ [] ≡ l
    append_none [] = refl
    append_none (x ∷ l) = ap (λ r. x ∷ r) (append_none l)

module _ (script : List ScriptTxn) (all left : List Part) (part : Part) (old : List Outcome) (of : AreOfScript script all) (g : GathersAfter script all (left ++ part ∷ []) old) where
  next_there : slice_get all (length left) ≡ Some part
  next_there = subst (λ (l : List Part). slice_get l (length left) ≡ Some part) (sym g.front.1) (kept_at (left ++ part ∷ []) g.front.0 (length left) part (end_at left part))

  places : part.lane.work.at ≡ places_in script part.lane.lane
  places = of.at (length left) part next_there

  in_places : (j i : ℕ) → slice_get part.lane.work.at j ≡ Some i → slice_get (places_in script part.lane.lane) j ≡ Some i
  in_places j i at = ap (λ (l : List ℕ). slice_get l j) (sym places) ∙ at

  pub apart_of : AreApart part.lane.work.at
  apart_of j m i at_j at_m = place_once script part.lane.lane j m i (in_places j i at_j) (in_places m i at_m)

  pub within_of : AllByRecursion (λ i. i < length old) part.lane.work.at
  within_of = all_of (λ i. i < length old) part.lane.work.at (λ j i at. let low = places_within script part.lane.lane j i (in_places j i at) in let n = g.count in omega (arith, low, n))

  module _ (new : List Outcome) (moves : MovesDone part.lane old new) where
    -- a part that was moved before has no place in common with this one
    elsewhere : (k j i m : ℕ) (p : Part) → length left < k → slice_get all k ≡ Some p → slice_get p.lane.work.at j ≡ Some i → slice_get part.lane.work.at m ≡ Some i → ⊥
    elsewhere k j i m p above at at_j at_m =
        let same : p.lane.lane ≡ part.lane.lane = of_one script p.lane.lane part.lane.lane j m i (ap (λ (l : List ℕ). slice_get l j) (sym (of.at k p at)) ∙ at_j) (in_places m i at_m) in
        let one = of.apart k (length left) p part at next_there same in
        omega (arith, one, above)

    done_then : (k j i : ℕ) (p : Part) (o : Outcome) → length left ≤ k → slice_get all k ≡ Some p → slice_get p.lane.work.at j ≡ Some i → slice_get p.lane.work.done j ≡ Some o → slice_get new i ≡ Some o
    done_then k j i p o low at at_j out = by (decide k (length left))
      where
        long : length (left ++ part ∷ []) ≡ length left + 1
        long = length-append left (part ∷ [])

        by : (k ≡ length left) ⊎ (k ≢ length left) → slice_get new i ≡ Some o
        by (inl same) =
            let is : p ≡ part = same_Some p part (sym at ∙ (ap (slice_get all) same ∙ next_there)) in
            moves.done j i o (subst (λ (q : Part). slice_get q.lane.work.at j ≡ Some i) is at_j) (subst (λ (q : Part). slice_get q.lane.work.done j ≡ Some o) is out)
        by (inr other) =
            let above : length left < k = grind (arith, low, other) in
            moves.others i (λ m before at_m. elsewhere k j i m p above at at_j at_m) ∙ g.done k j i p o (omega (arith, above, long)) at at_j out

    only_then : (i : ℕ) (o : Outcome) → slice_get new i ≡ Some o → (o ≡ outcome.NotRun) ⊎ IsDone (map work_of all) i o
    only_then i o is = by (sought (length part.lane.work.done) part.lane.work.at i)
      where
        there : (j : ℕ) → j < length part.lane.work.done → slice_get part.lane.work.at j ≡ Some i → (q : Outcome) × (slice_get part.lane.work.done j ≡ Some q) → IsDone (map work_of all) i o
        there j low at q = record {
          work = length left;
          place = j;
          is = part.lane.work;
          there = mapped work_of all (length left) part next_there;
          at = at;
          done = q.1 ∙ ap Some (same_Some q.0 o (sym (moves.done j i q.0 at q.1) ∙ is));
        }

        item : {A : Type 0} (l : List A) (i : ℕ) → i < length l → (a : A) × (slice_get l i ≡ Some a)
        item [] i lt = absurd (omega (arith, lt))
        item (a ∷ l) zero lt = (a, refl)
        item (a ∷ l) (suc i) lt = item l i (omega (arith, lt))

        by : ((j : ℕ) × (j < length part.lane.work.done) × (slice_get part.lane.work.at j ≡ Some i)) ⊎ ((j : ℕ) → j < length part.lane.work.done → slice_get part.lane.work.at j ≡ Some i → ⊥) → (o ≡ outcome.NotRun) ⊎ IsDone (map work_of all) i o
        by (inl h) = inr (there h.0 h.1 h.2 (item part.lane.work.done h.0 h.1))
        by (inr none) = g.only i o (sym (moves.others i none) ∙ is)

    pub gathers_on : GathersAfter script all left new
    gathers_on = record {
      front = (part ∷ g.front.0, g.front.1 ∙ apart_end left part g.front.0);
      count = moves.count ∙ g.count;
      done = done_then;
      only = only_then;
    }
      where
        apart_end : {A : Type 0} (l : List A) (a : A) (r : List A) → (l ++ a ∷ []) ++ r ≡ l ++ a ∷ r
        apart_end [] a r = refl
        apart_end (x ∷ l) a r = ap (λ m. x ∷ m) (apart_end l a r)

pub gathers_all : (script : List ScriptTxn) (all left : List Part) (outcomes : List Outcome) → left ≡ [] → GathersAfter script all left outcomes → Gathers script (map work_of all) outcomes
gathers_all script all left outcomes none g = record {
  count = g.count;
  done = λ i next d.
      let p = unmapped work_of all d.work d.is d.there in
      g.done d.work d.place i p.0 next (let low = ap length none in omega (arith, low)) p.1 (ap (λ (w : Work). slice_get w.at d.place) p.2 ∙ d.at) (ap (λ (w : Work). slice_get w.done d.place) p.2 ∙ d.done);
  only = g.only;
}
