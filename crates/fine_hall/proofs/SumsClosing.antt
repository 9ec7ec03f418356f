-- At the end of a hall: the faults that the room and all views count are those of its beginning and what all passes met.
use Rattle.std.proofs.Common.{◌≡◌, ◌⊎◌, ℕ, zero, suc, ◌+◌, ◌<◌, ◌≤◌, List, [], ◌∷◌, ◌++◌, length, reverse, sum_by, Option, Some, None, refl, sym, ap, ◌∙◌, subst, append-nil, inl, inr, ⊎_elim, arith}
use Rattle.std.specs.Prelude.{All, IsPermutation, flat_map}
use Rattle.std.specs.List.{filter_map, cons_option}
use Rattle.std.proofs.lemmas.List.Sums.{sum_by-cons, sum_by-append}
use mathlib.Core.List.{reverse-cons}
use Rattle.std.proofs.lemmas.List.Elements.{filter_map-append}
use Rattle.std.proofs.lemmas.List.Sorted.{sum_by-IsPermutation, IsPermutation-refl, IsPermutation-cons, IsPermutation-trans, IsPermutation-append, IsPermutation-append_comm, IsPermutation-reverse}
use mathlib.Core.Option.{some}
use lib.ListN.{get_elem?}
use Rattle.atomic_table.specs.Seated.{TableId}
use Rattle.fine_model.specs.Faults.{last_count}
use Rattle.fine_model.specs.declared.law.RoomState.{RoomState}
use Rattle.fine_model.specs.declared.law.ViewState.{ViewState}
use Rattle.fine_places.specs.declared.model.Placed.{Placed}
use Rattle.fine_places.specs.History.{by_seat}
use Rattle.fine_boxes.specs.declared.model.BoxNote.{BoxNote}
use Rattle.fine_boxes.specs.declared.model.Reads.{Reads}
use Rattle.fine_boxes.specs.Boxes.{sum_below, given_of}
use Rattle.fine_hall.specs.declared.turn.Turn.{Turn}
use Rattle.fine_hall.specs.declared.law.Beginning.{Beginning}
use Rattle.fine_hall.specs.declared.pass.Pass.{Pass}
use Rattle.fine_hall.specs.Turns.{failed_of, room_after, RoomsGoOn}
use Rattle.fine_hall.specs.Passes.{turns, own_turns, reads, given_up, failed, view_of, troubles, first_given, IsPass}
use Rattle.fine_hall.specs.Halls.{AreAll}
use Rattle.fine_hall.proofs.Turning.{none_own}
use Rattle.fine_hall.proofs.Sums.{sum_both, sum_same_each, failed_in_all, failed_all, failed_of_more, faults_high, faults_low}

-- ---- views

sum_below_first : (n : ℕ) (f : ℕ → ℕ) → sum_below (suc n) f ≡ f 0 + sum_below n (λ i. f (suc i))
sum_below_first zero f = omega arith
sum_below_first (suc n) f = let h = sum_below_first n f in omega arith

-- a sum over what lies in the seats' slots, in ascending order
pub sum_of_seats : {A : Type 0} (g : A → ℕ) (n : ℕ) (f : ℕ → ℕ) (l : List A) → length l ≡ n → ((i : ℕ) (a : A) → get_elem? l i ≡ some a → g a ≡ f i) → sum_by g l ≡ sum_below n f
sum_of_seats g zero f [] long each = refl
sum_of_seats g (suc n) f [] long each = absurd (omega arith)
sum_of_seats g zero f (a ∷ l) long each = absurd (omega arith)
sum_of_seats g (suc n) f (a ∷ l) long each =
    let c = sum_by-cons g a l in let s = sum_below_first n f in let h = each 0 a refl in
    let t = sum_of_seats g n (λ i. f (suc i)) l (omega arith) (λ i b e. each (suc i) b e) in omega arith

module _ {V : Type 0} (view : V → ViewState) where
  one_more : (o : Option V) (vs : List V) → sum_by (λ v. (view v).faults) (cons_option o vs) ≡ (view_of view o).faults + sum_by (λ v. (view v).faults) vs
  one_more None vs = omega arith
  one_more (Some v) vs = sum_by-cons (λ (v : V). (view v).faults) v vs

  -- the fronts of all passes
  pub sum_of_fronts : (passes : List (Pass V)) → sum_by (λ v. (view v).faults) (filter_map (λ p. p.front) passes) ≡ sum_by (λ p. (view_of view p.front).faults) passes
  sum_of_fronts [] = refl
  sum_of_fronts (p ∷ ps) = let o = one_more p.front (filter_map (λ q. q.front) ps) in let c = sum_by-cons (λ (q : Pass V). (view_of view q.front).faults) p ps in let t = sum_of_fronts ps in omega arith

-- ---- what was given up

one_given : (ms : List (BoxNote Turn)) (m : BoxNote Turn) → ms ≡ m ∷ [] → sum_by (λ m. m.given_up) ms ≡ first_given ms
one_given ms m e = ap (sum_by (λ (m : BoxNote Turn). m.given_up)) e ∙ (let s : 0 + m.given_up ≡ m.given_up = omega arith in s) ∙ ap first_given (sym e)

module _ {V : Type 0} where
  -- a pass, which has one note
  pub given_by_pass : (p : Pass V) (m : BoxNote Turn) → (reads p).notes ≡ m ∷ [] → given_of (reads p) ≡ given_up p
  given_by_pass p m e = one_given (reads p).notes m e

  -- and the notes of all passes, one after another
  pub given_by_all : (passes : List (Pass V)) → sum_by (λ m. m.given_up) (flat_map (λ p. (reads p).notes) passes) ≡ sum_by (λ p. given_of (reads p)) passes
  given_by_all [] = refl
  given_by_all (p ∷ ps) = let a = sum_by-append (λ (m : BoxNote Turn). m.given_up) (reads p).notes (flat_map (λ q. (reads q).notes) ps) in let c = sum_by-cons (λ (q : Pass V). given_of (reads q)) p ps in let t = given_by_all ps in omega arith

  -- where one seat took over their notes, in any order
  pub given_by_gathered : (done passes : List (Pass V)) (y : Reads Turn) → y.notes ≡ flat_map (λ p. (reads p).notes) done → IsPermutation done passes → given_of y ≡ sum_by (λ p. given_of (reads p)) passes
  given_by_gathered done passes y is same = ap (sum_by (λ (m : BoxNote Turn). m.given_up)) is ∙ given_by_all done ∙ sym (sum_by-IsPermutation (λ (p : Pass V). given_of (reads p)) done passes same)

-- ---- lists in another order

module _ {A B : Type 0} (h : A → Option B) where
  kept_last : (o : Option B) (l m : List B) → IsPermutation l m → IsPermutation (cons_option o l) (m ++ cons_option o [])
  kept_last None l m same = subst (IsPermutation l) (sym (append-nil m)) same
  kept_last (Some b) l m same = IsPermutation-trans (b ∷ l) (b ∷ m) (m ++ b ∷ []) (IsPermutation-cons b l m same) (IsPermutation-append_comm (b ∷ []) m)

  -- what is kept of a list backwards
  pub kept_backwards : (l : List A) → IsPermutation (filter_map h l) (filter_map h (reverse l))
  kept_backwards [] = IsPermutation-refl []
  kept_backwards (a ∷ l) = subst (IsPermutation (filter_map h (a ∷ l))) (sym (ap (filter_map h) (reverse-cons a l) ∙ filter_map-append h (reverse l) (a ∷ []))) (kept_last (h a) (filter_map h l) (filter_map h (reverse l)) (kept_backwards l))

module _ {V : Type 0} where
  -- the fronts of passes that were taken from the last to the first, and the middles
  pub views_backwards : (done passes : List (Pass V)) (middles : List V) → passes ≡ reverse done → IsPermutation (filter_map (λ p. p.front) done ++ middles) (filter_map (λ p. p.front) passes ++ middles)
  views_backwards done passes middles is = subst (λ ps. IsPermutation (filter_map (λ p. p.front) done ++ middles) (filter_map (λ (p : Pass V). p.front) ps ++ middles)) (sym is)
      (IsPermutation-append _ _ _ _ (kept_backwards (λ (p : Pass V). p.front) done) (IsPermutation-refl middles))

  pub given_backwards : (done passes : List (Pass V)) (y : Reads Turn) → passes ≡ reverse done → y.notes ≡ flat_map (λ p. (reads p).notes) done → given_of y ≡ sum_by (λ p. given_of (reads p)) passes
  given_backwards done passes y is notes = given_by_gathered done passes y notes (subst (IsPermutation done) (sym is) (IsPermutation-reverse done))

-- ---- all together

-- What is at hand at the end: the turns, all passes, what they gave up, the views given back, and the middles, of which the i-th is ahead i.
pub record CountsAll {V : Type 0} (view : V → ViewState) (z : TableId) (x : Beginning) (all : List (Placed Turn)) (passes : List (Pass V)) (views middles : List V) (ahead : ℕ → ViewState) (y : Reads Turn) : Type 0 where
  pub rooms : RoomsGoOn x.room all
  pub authors : All (λ t. (0 < t.seat) × (t.seat ≤ x.seats)) all
  pub numbers : AreAll x.seats passes
  pub each : (i : ℕ) (p : Pass V) → get_elem? passes i ≡ some p → IsPass view z x p
  pub parts : (i : ℕ) (p : Pass V) → get_elem? passes i ≡ some p → own_turns p ≡ by_seat p.number all
  pub saw : (i : ℕ) (p : Pass V) → get_elem? passes i ≡ some p → (more : List (Placed Turn)) × (all ≡ turns p ++ more)
  pub views_are : IsPermutation views (filter_map (λ p. p.front) passes ++ middles)
  pub middles_long : length middles ≡ x.seats
  pub middles_are : (i : ℕ) (v : V) → get_elem? middles i ≡ some v → view v ≡ ahead i
  pub counts : sum_by (λ t. t.item.returned) all + sum_below x.seats (λ i. (ahead i).faults) ≡ given_of y
  pub given : given_of y ≡ sum_by (λ p. given_of (reads p)) passes

module _ {V : Type 0} (view : V → ViewState) (z : TableId) (x : Beginning) (all : List (Placed Turn)) (passes : List (Pass V)) (views middles : List V) (ahead : ℕ → ViewState) (y : Reads Turn) (g : CountsAll view z x all passes views middles ahead y) where
  -- what a pass says that failed in its turns, as far as it saw, is what failed in them of all turns
  failed_is : (i : ℕ) (p : Pass V) → get_elem? passes i ≡ some p → failed x p ≡ failed_of p.number x.room all
  failed_is i p at = let s = g.saw i p at in
      sym (failed_of_more p.number x.room (turns p) s.0 (none_own p.number (turns p) s.0 all (own_turns p) s.1 (g.each i p at).own (g.parts i p at)))
      ∙ ap (failed_of p.number x.room) (sym s.1)

  given_is : (i : ℕ) (p : Pass V) → get_elem? passes i ≡ some p → given_of (reads p) ≡ given_up p
  given_is i p at = let f = (g.each i p at).front in given_by_pass p f.note f.one

  -- what all passes met
  pub troubles_are : sum_by (troubles view x) passes ≡ (failed_in_all x.room all + given_of y) + sum_by (λ p. (view_of view p.front).faults) passes
  troubles_are =
      let a = sum_both (λ (p : Pass V). failed x p + given_up p) (λ p. (view_of view p.front).faults) passes in
      let b = sum_both (failed x) given_up passes in
      let c = sum_same_each (failed x) (λ (p : Pass V). failed_of p.number x.room all) passes failed_is in
      let d = failed_all (λ (p : Pass V). p.number) x.seats x.room all passes g.authors g.numbers in
      let e = sum_same_each (λ (p : Pass V). given_of (reads p)) given_up passes given_is in
      let f = g.given in
      omega arith

  -- what all views count
  pub views_count : sum_by (λ v. (view v).faults) views ≡ sum_by (λ p. (view_of view p.front).faults) passes + sum_below x.seats (λ i. (ahead i).faults)
  views_count =
      let a = sum_by-IsPermutation (λ (v : V). (view v).faults) views (filter_map (λ p. p.front) passes ++ middles) g.views_are in
      let b = sum_by-append (λ (v : V). (view v).faults) (filter_map (λ p. p.front) passes) middles in
      let c = sum_of_fronts view passes in
      let d = sum_of_seats (λ (v : V). (view v).faults) x.seats (λ i. (ahead i).faults) middles g.middles_long (λ i v at. ap (λ (w : ViewState). w.faults) (g.middles_are i v at)) in
      omega arith

  pub closes_high : (room : RoomState) → room ≡ room_after x.room all → room.faults + sum_by (λ v. (view v).faults) views ≤ x.room.faults + sum_by (troubles view x) passes
  closes_high room last =
      let e = ap (λ (r : RoomState). r.faults) last in let h = faults_high x.room all in let c = g.counts in let t = troubles_are in let v = views_count in omega arith

  pub closes_low : (room : RoomState) → room ≡ room_after x.room all → (x.room.faults + sum_by (troubles view x) passes ≤ room.faults + sum_by (λ v. (view v).faults) views) ⊎ (last_count ≤ room.faults)
  closes_low room last = let e = ap (λ (r : RoomState). r.faults) last in ⊎_elim
      (λ low. inl (let c = g.counts in let t = troubles_are in let v = views_count in omega arith))
      (λ high. inr (omega arith))
      (faults_low x.room all g.rooms)
