-- Passes that look at their mailboxes, one of them within its turn.
use Rattle.std.proofs.Common.{◌≡◌, ◌≢◌, ⊎_elim, ℕ, suc, ◌+◌, ◌<◌, Bool, true, false, List, [], ◌∷◌, ◌++◌, length, set, get_or, refl, sym, ap, ◌∙◌, subst, arith, append_assoc}
use Rattle.std.specs.Prelude.{MatchBool, map}
use Rattle.std.proofs.lemmas.List.{length-set}
use mathlib.Core.Option.{some, some-injective}
use lib.ListN.{get_elem?}
use Rattle.atomic_table.specs.Seated.{TableId}
use Rattle.atomic_table.proofs.Lists.{set_else, set_here}
use Rattle.fine_model.proofs.Histories.Goings.{job_itself}
use Rattle.partition_hold.specs.Views.{ViewValue, state_of}
use Rattle.epoch_room.specs.Value.{RoomValue}
use Rattle.epoch_room.specs.Whole.{IsWhole}
use Rattle.epoch_room.proofs.OpenEpochs.Behind.{keeps_none}
use Rattle.fine_places.specs.History as places
use Rattle.fine_places.proofs.Elements.{elem_at, read_at}
use Rattle.fine_places.proofs.Lists.{decide, some_same}
use Rattle.fine_boxes.specs.declared.model.Mark.{Mark}
use Rattle.fine_boxes.specs.declared.model.TurnNote.{TurnNote}
use Rattle.fine_hall.specs.declared.law.Beginning.{Beginning}
use Rattle.fine_hall.specs.declared.turn.Turn.{Turn}
use Rattle.fine_hall.specs.Turns.{failed_of, room_after}
use Rattle.fine_hall.specs.Passes.{front_of, marks, reads, turns, view_of, HasPlace, IsHolder, IsPass}
use Rattle.fine_hall.specs.Halls.{FindsStale, HallOf, IsAhead, Refreshes}
use Rattle.node_cache.specs.Cache.{Cache}
use Rattle.fine_hall.proofs.Seeing.{sees_itself, sees_on}
use Rattle.fine_hall.proofs.Troubles.{sees_law, troubles_law}
use Rattle.hall_rooms.specs.Rooms.{RoomPass, beginning_of}
use Rattle.hall_rooms.specs.Steps.{InTurn, IsCleanTurn, Stays, StaysPass}
use Rattle.hall_rooms.specs.Making.{AllAhead, StayInTurn, Renews, RenewsBelow, RenewsEach, AreInTurn, TurnsOn}
use Rattle.hall_rooms.proofs.Turned.{goes}

-- what a look at the own mailbox answers
abbrev pub LooksOnce : Beginning → Bool → RoomPass → RoomPass → Type 0
LooksOnce x fresh p p' = MatchBool fresh (Refreshes state_of x p p') (FindsStale p p')

-- ---- one pass

module _ (x : Beginning) where
  -- the fronts that it had since stand before the others among its marks
  marks_on : (fresh : Bool) (p p' : RoomPass) → LooksOnce x fresh p p' → (newer : List (Mark Turn)) × (marks p' ≡ newer ++ marks p)
  marks_on true p p' r = (record { upto = (front_of state_of p').upto; seen = turns p' } ∷ [], r.marked)
  marks_on false p p' r = ([], r.same_marks.0)

  pub looked : (fresh : Bool) (p p' : RoomPass) → p'.number ≡ p.number → LooksOnce x fresh p p' → Renews x p p'
  looked fresh p p' number r =
      let l = (sees_law state_of).look fresh x p p' r in
      record { number = number; marked = marks_on fresh p p' r; sees = l.0; same_held = l.1; meets = ((troubles_law state_of x).same p p' number).looks fresh r }

  pub same_turn : (fresh : Bool) (p p' : RoomPass) → LooksOnce x fresh p p' → (reads p').turn ≡ (reads p).turn
  same_turn true p p' r = r.turn.0
  same_turn false p p' r = r.turn.0

  pub renews_none : (p : RoomPass) → Renews x p p
  renews_none p = record { number = refl; marked = ([], refl); sees = sees_itself p; same_held = refl; meets = refl }

  pub renews_then : (p q r : RoomPass) → Renews x p q → Renews x q r → Renews x p r
  renews_then p q r s t = record {
    number = t.number ∙ s.number;
    marked = (t.marked.0 ++ s.marked.0, t.marked.1 ∙ (ap (λ l. t.marked.0 ++ l) s.marked.1 ∙ sym (append_assoc t.marked.0 s.marked.0 (marks p))));
    sees = sees_on p q r s.number (λ k low has. ap (λ l. get_elem? l k) s.same_held ∙ has) s.sees t.sees;
    same_held = t.same_held ∙ s.same_held;
    meets = t.meets ∙ s.meets;
  }

-- ---- some passes

module _ (x : Beginning) where
  pub none_renewed : (l : List RoomPass) → RenewsBelow x 0 l l
  none_renewed l = record { many = refl; each = λ i p lt. absurd (omega (arith, lt)); rest = λ i p least there. there }

  module _ (at : ℕ) (old mid : List RoomPass) (d p' : RoomPass) (so_far : RenewsBelow x at old mid) (lt : at < length mid) (r : Renews x (get_or mid at d) p') (ahead : IsAhead state_of x p') where
    pub renewed_next : RenewsBelow x (at + 1) old (set mid at p')
    renewed_next = record {
      many = length-set mid at p' ∙ so_far.many;
      each = λ i p near there. ⊎_elim
          (λ (e : i ≡ at).
          let is : get_or mid at d ≡ p = (read_at mid at p d (ap (get_elem? mid) (sym e) ∙ so_far.rest i p (omega (arith, e)) there)).1 in
          (p', ap (get_elem? (set mid at p')) e ∙ set_here mid at p' lt, subst (λ q. Renews x q p') is r, ahead))
          (λ (ne : i ≢ at).
          let was = so_far.each i p (omega (arith, near, ne)) there in
          (was.0, set_else mid at i p' ne ∙ was.1, was.2, was.3))
          (decide i at);
      rest = λ i p least there. set_else mid at i p' (λ e. omega (arith, least, e)) ∙ so_far.rest i p (omega (arith, least)) there;
    }

  module _ (old new : List RoomPass) (all : RenewsBelow x (length old) old new) where
    pub all_renewed : RenewsEach x old new
    all_renewed = record { many = all.many; each = λ i p there. let e = all.each i p (read_at old i p p there).0 there in (e.0, e.1, e.2) }

    pub all_ahead : AllAhead x new
    all_ahead i q there =
        let p = elem_at old i q (let lt = (read_at new i q q there).0 in let many = all.many in omega (arith, lt, many)) in
        let e = all.each i (get_or old i q) (read_at old i (get_or old i q) q p).0 p in
        subst (IsAhead state_of x) (some-injective e.0 q (sym e.1 ∙ there)) e.3

  pub each_none : (l : List RoomPass) → RenewsEach x l l
  each_none l = record { many = refl; each = λ i p there. (p, there, renews_none x p) }

  pub each_then : (a b c : List RoomPass) → RenewsEach x a b → RenewsEach x b c → RenewsEach x a c
  each_then a b c s t = record {
    many = t.many ∙ s.many;
    each = λ i p there.
        let q = s.each i p there in
        let r = t.each i q.0 q.1 in
        (r.0, r.1, renews_then x p q.0 r.0 q.2 r.2);
  }

-- each of them has its number still
pub same_numbers : (x : Beginning) (old new : List RoomPass) → RenewsEach x old new → map (λ (p : RoomPass). p.number) new ≡ map (λ (p : RoomPass). p.number) old
same_numbers x [] [] r = refl
same_numbers x [] (q ∷ new) r = absurd (let e = r.many in omega (arith, e))
same_numbers x (p ∷ old) [] r = absurd (let e = r.many in omega (arith, e))
same_numbers x (p ∷ old) (q ∷ new) r =
    let first = r.each 0 p refl in
    let is : q ≡ first.0 = some-injective q first.0 first.1 in
    (λ i. (ap (λ (a : RoomPass). a.number) is ∙ first.2.number) i ∷ same_numbers x old new (record { many = suc-inj (length new) (length old) r.many; each = λ i a there. r.each (suc i) a there }) i)
  where
    suc-inj : (a b : ℕ) → suc a ≡ suc b → a ≡ b
    suc-inj a b e = omega (arith, e)

-- all of them are passes, once one more looked
pub all_set : (P : RoomPass → Type 0) (mid : List RoomPass) (at : ℕ) (p' : RoomPass) → at < length mid → P p' → ((i : ℕ) (p : RoomPass) → get_elem? mid i ≡ some p → P p) → (i : ℕ) (p : RoomPass) → get_elem? (set mid at p') i ≡ some p → P p
all_set P mid at p' lt ok all i p there = ⊎_elim
    (λ (e : i ≡ at). subst P (some-injective p' p (sym (set_here mid at p' lt) ∙ (ap (get_elem? (set mid at p')) (sym e) ∙ there))) ok)
    (λ (ne : i ≢ at). all i p (sym (set_else mid at i p' ne) ∙ there))
    (decide i at)

-- ---- a pass in its turn

module _ (x : Beginning) where
  pub turns_none : (p : RoomPass) → TurnsOn x p p
  turns_none p = record { held = refl; turns = refl; own = refl; no_earlier = omega arith; meets = refl }

  pub turns_then : (p q r : RoomPass) → TurnsOn x p q → TurnsOn x q r → TurnsOn x p r
  turns_then p q r s t = record {
    held = t.held ∙ s.held;
    turns = t.turns ∙ s.turns;
    own = t.own ∙ s.own;
    no_earlier = let a = s.no_earlier in let b = t.no_earlier in omega (arith, a, b);
    meets = t.meets ∙ s.meets;
  }

  pub stays_on : (p q : RoomPass) → q.number ≡ p.number → Stays p q → TurnsOn x p q
  stays_on p q number s = record {
    held = s.held;
    turns = s.turns;
    own = s.own;
    no_earlier = s.no_earlier;
    meets = λ i. (failed_of (number i) x.room (s.turns i) + s.given_up i) + (view_of state_of (s.front.0 i)).faults;
  }

  pub looks_on : (p q : RoomPass) → HasPlace p places.room → Renews x p q → TurnsOn x p q
  looks_on p q has r = record { held = r.same_held; turns = r.sees.whole has; own = r.sees.same_own; no_earlier = r.sees.no_earlier; meets = r.meets }

  -- the room may be given back once the pass looked
  module _ (z : TableId) (p q : RoomPass) (ok : IsPass state_of z x q) (room : RoomValue) (whole : IsWhole room) (r : Renews x p q) (same : (reads q).turn ≡ (reads p).turn) where
    looked_turn : (t : TurnNote) → InTurn x room p t → InTurn x room q t
    looked_turn t i =
        let had = ok.holder (ap (λ l. get_elem? l places.room) r.same_held ∙ i.held) in
        let is : had.0 ≡ t = some_same had.0 t (sym had.1.turn ∙ (same ∙ i.is_turn.turn)) in
        goes x p q room room t t i r.same_held (r.sees.whole i.held) r.number (subst (IsHolder x q) is had.1) (keeps_none room whole) (job_itself room.room) refl refl i.may.epochs i.may.top i.may.board i.may.counted

    pub looked_clean : IsCleanTurn x room p → IsCleanTurn x room q
    looked_clean c = record {
      note = c.note;
      turn = looked_turn c.note c.turn;
      none_failed = let n = c.none_failed in let l = ap (λ ts. (room_after x.room ts).faults) (r.sees.whole c.turn.held) in omega (arith, n, l);
    }

-- ---- a pass in its turn, and others

module _ {Q : Type 0} (hall : HallOf RoomValue Cache ViewValue Q) where
  pub go_none : (room : RoomValue) (p : RoomPass) (l : List RoomPass) → AreInTurn hall room p l → StayInTurn hall p p l l
  go_none room p l t = record { pass = (t.pass, refl); others = t.others; goes = turns_none (beginning_of hall) p; renews = each_none (beginning_of hall) l }

  pub go_then : (p q r : RoomPass) (a b d : List RoomPass) → StayInTurn hall p q a b → StayInTurn hall q r b d → StayInTurn hall p r a d
  go_then p q r a b d s t = record {
    pass = (t.pass.0, t.pass.1 ∙ s.pass.1);
    others = t.others;
    goes = turns_then (beginning_of hall) p q r s.goes t.goes;
    renews = each_then (beginning_of hall) a b d s.renews t.renews;
  }

  -- the pass stayed, and the others did nothing
  pub go_stays : (room : RoomValue) (p q : RoomPass) (l : List RoomPass) → AreInTurn hall room p l → StaysPass hall p q → StayInTurn hall p q l l
  go_stays room p q l t s = record { pass = s.pass; others = t.others; goes = stays_on (beginning_of hall) p q s.pass.1 s.stays; renews = each_none (beginning_of hall) l }

  -- they take part in a turn that goes on with another room
  pub part_on : (room : RoomValue) (p q : RoomPass) (a b : List RoomPass) → StayInTurn hall p q a b → IsCleanTurn (beginning_of hall) room q → AreInTurn hall room q b
  part_on room p q a b g turn = record { pass = g.pass.0; others = g.others; turn = turn }
