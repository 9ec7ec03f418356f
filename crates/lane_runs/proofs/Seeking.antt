-- The pass of the seat 1 and those of lanes, after room was sought.
use Rattle.std.proofs.Common.{◌≡◌, ◌≢◌, ◌⊎◌, inl, inr, ℕ, ◌+◌, ◌<◌, ◌≤◌, true, false, List, [], ◌∷◌, ◌++◌, length, None, Result, Ok, Err, refl, sym, ap, subst, ◌∙◌, ⊎_elim, arith, append-nil, append_assoc}
use Rattle.std.specs.Prelude.{Contains, get_or}
use Rattle.std.proofs.lemmas.List.Elements.{Contains-append_left, Contains-push}
use mathlib.Core.Option.{some, some-injective}
use lib.ListN.{get_elem?}
use Rattle.fine_model.specs.declared.law.RoomState.{RoomState}
use Rattle.fine_model.specs.Faults.{last_count}
use Rattle.node_cache.specs.Cache.{Cache}
use Rattle.partition_hold.specs.Views.{ViewValue, state_of}
use Rattle.epoch_room.specs.Value.{RoomValue}
use Rattle.room_merges.specs.declared.fault.MergeFault.{MergeFault}
use Rattle.room_merges.specs.declared.fault.MergeFault.TheVariants as merge_fault
use Rattle.fine_places.proofs.Elements.{elem_at, read_at}
use Rattle.fine_places.specs.declared.model.Placed.{Placed}
use Rattle.fine_places.specs.History.{by_seat}
use Rattle.fine_hall.specs.declared.law.Beginning.{Beginning}
use Rattle.fine_hall.specs.declared.turn.Turn.{Turn}
use Rattle.fine_hall.specs.Halls.{HallOf, turn_of}
use Rattle.fine_hall.specs.Passes.{turns, own_turns, mine, troubles, last_room}
use Rattle.fine_hall.specs.Turns.{commits, room_after}
use Rattle.fine_hall.proofs.Turning.{commits_one}
use Rattle.hall_rooms.specs.Rooms.{IsIdle, IsRoomPass, RoomPass, beginning_of}
use Rattle.hall_rooms.specs.declared.making.Space.{Space}
use Rattle.hall_rooms.specs.declared.making.Space.TheVariants as space
use Rattle.hall_rooms.specs.Making.{MakesOr, Renews, RenewsEach, SameOpen, TriesRoom}
use Rattle.hall_rooms.specs.Turning.{OneTurn}
use Rattle.hall_rooms.proofs.Idle.{renews_idle, tries_idle}
use Rattle.hall_rooms.proofs.Left.{last_is}
use Rattle.hall_rooms.proofs.Renewing.{renews_then}
use Rattle.lane_laws.specs.Lanes.{SawShut}
use Rattle.lane_laws.specs.Quiet.{IsQuiet, OpenOf, QuietOf}
use Rattle.lane_laws.proofs.Quiet.{open_stays, quiet_stays}
use Rattle.lane_runs.specs.Rest.{AreOthers, IsFirst, RenewsBut, SawBefore}

-- ---- one turn more

quiet_one : (seat : ℕ) (before : RoomState) (a : List (Placed Turn)) (t : Placed Turn) → IsQuiet (room_after before a) t.item → QuietOf seat before a → QuietOf seat before (a ++ t ∷ [])
quiet_one seat before [] t is q = ((λ of_seat. is), tt)
quiet_one seat before (u ∷ a) t is q = (q.0, quiet_one seat u.item.room a t is q.1)

open_one : (seat : ℕ) (before : RoomState) (a : List (Placed Turn)) (t : Placed Turn) → t.item.room.is_shut ≡ (room_after before a).is_shut → OpenOf seat before a → OpenOf seat before (a ++ t ∷ [])
open_one seat before [] t is o = ((λ of_seat. is), tt)
open_one seat before (u ∷ a) t is o = (o.0, open_one seat u.item.room a t is o.1)

module _ (x : Beginning) (found room : RoomState) (p p' : RoomPass) (number : p'.number ≡ p.number) (t : OneTurn x found None 0 room p p') where
  step : Placed Turn
  step = record { seat = p.number; item = turn_of None 0 room t.returned }

  step_there : (s : Placed Turn) × Contains (turns p') s × (s.item.room ≡ room)
  unfolding step
  step_there = (step, subst (λ (l : List (Placed Turn)). Contains l step) (sym t.turns_more) (Contains-push (turns p ++ t.others) step), refl)

  saw_turn : SawBefore p p'
  unfolding step
  saw_turn = (t.others ++ step ∷ [], t.turns_more ∙ append_assoc (turns p) t.others (step ∷ []))

  none_more : mine p ≡ [] → mine p' ≡ []
  unfolding step
  none_more none = ap commits t.own_more ∙ (commits_one (own_turns p) step ∙ (append-nil (mine p) ∙ none))

  quiet_more : SameOpen found room → QuietOf p.number x.room (turns p) → QuietOf p'.number x.room (turns p')
  unfolding step
  quiet_more same q =
      let e = t.found_is in
      subst (λ n. QuietOf n x.room (turns p')) (sym number)
      (subst (QuietOf p.number x.room) (sym t.turns_more)
      (quiet_one p.number x.room (turns p ++ t.others) step
      (record { no_entry = refl; sealed = same.sealed ∙ ap (λ (r : RoomState). r.sealed) e; waiting = same.waiting ∙ ap (λ (r : RoomState). r.waiting) e; used = same.used ∙ ap (λ (r : RoomState). r.used) e })
      (quiet_stays p.number x.room (turns p) t.others t.not_own q)))

  open_more : room.is_shut ≡ found.is_shut → OpenOf p.number x.room (turns p) → OpenOf p'.number x.room (turns p')
  unfolding step
  open_more same o =
      subst (λ n. OpenOf n x.room (turns p')) (sym number)
      (subst (OpenOf p.number x.room) (sym t.turns_more)
      (open_one p.number x.room (turns p ++ t.others) step (same ∙ ap (λ (r : RoomState). r.is_shut) t.found_is) (open_stays p.number x.room (turns p) t.others t.not_own o)))

-- ---- what making room leaves

-- a turn that met no failure of the device leaves the room as open as it was found
pub stays_open : (seats from : ℕ) (found room : RoomValue) (r : Result Space MergeFault) → MakesOr seats from found room r → ((e : _) → r ≡ Err (merge_fault.Room e) → ⊥) → room.room.is_shut ≡ found.room.is_shut
stays_open seats from found room (Ok space.Made) m not = ⊎_elim (λ o. let c = o.clears.unshut in o.is.clears.unshut.1 ∙ sym c.0) (λ h. let o = h.1 in o.is.cleared.not_shut ∙ sym o.clears.unshut.0) m
stays_open seats from found room (Ok space.Enough) m not = let o = m.1 in o.is.cleared.not_shut ∙ sym o.clears.unshut.0
stays_open seats from found room (Ok space.Stuck) m not = let o = m.1 in o.is.cleared.not_shut ∙ sym o.clears.unshut.0
stays_open seats from found room (Ok space.Held) m not = ⊎_elim (λ h. h.unshut.1 ∙ sym h.unshut.0) (λ o. o.is.left.unshut.1 ∙ sym o.clears.unshut.0) m
stays_open seats from found room (Ok space.Waits) m not = ap (λ (v : RoomValue). v.room.is_shut) m.1
stays_open seats from found room (Err (merge_fault.Fetch fault)) m not = m.is.merges.0.1 ∙ sym m.clears.unshut.0
stays_open seats from found room (Err (merge_fault.Room fault)) m not = absurd (not fault refl)

module _ (x : Beginning) (from : ℕ) (p p' : RoomPass) (number : p'.number ≡ p.number) (r : Result Space MergeFault) (t : TriesRoom x from p p' r) where
  pub saw_room : SawBefore p p'
  saw_room = saw_turn x t.found.room t.room.room p p' number t.turn.one

  -- the room that it gave back is that of some turn that it saw
  pub last_there : (s : Placed Turn) × Contains (turns p') s × (s.item.room ≡ t.room.room)
  last_there = step_there x t.found.room t.room.room p p' number t.turn.one

  pub room_open : t.room.room.is_shut ≡ t.found.room.is_shut → OpenOf p.number x.room (turns p) → OpenOf p'.number x.room (turns p')
  room_open same o = open_more x t.found.room t.room.room p p' number t.turn.one same o

  -- a room that was left shut, or whose count of faults is at its last value, was seen
  pub saw_shut : t.room.room.is_shut ≡ true → SawShut p'
  saw_shut shut = let s = last_there in (s.0, s.1, inl (ap (λ (r : RoomState). r.is_shut) s.2 ∙ shut))

  pub saw_last : last_count ≤ (last_room x p').faults → SawShut p'
  saw_last last =
      let s = last_there in
      let e = ap (λ (r : RoomState). r.faults) (last_is x t.found.room None 0 t.room.room p p' t.turn.one) in
      let f = ap (λ (r : RoomState). r.faults) s.2 in
      (s.0, s.1, inr (omega (arith, last, e, f)))

-- what a pass saw shut is seen still
pub shut_then : (p p' : RoomPass) → SawBefore p p' → SawShut p → SawShut p'
shut_then p p' s h = (h.0, subst (λ (l : List (Placed Turn)). Contains l h.0) (sym s.1) (Contains-append_left (turns p) s.0 h.0 h.1), h.2)

pub saw_on : (p q r : RoomPass) → SawBefore p q → SawBefore q r → SawBefore p r
saw_on p q r s t = (s.0 ++ t.0, t.1 ∙ (ap (λ l. l ++ t.0) s.1 ∙ append_assoc (turns p) s.0 t.0))

module _ {Q : Type 0} (hall : HallOf RoomValue Cache ViewValue Q) where
  -- the pass of the seat 1
  pub first_then : (from : ℕ) (first first' : RoomPass) (r : Result Space MergeFault) → IsRoomPass hall first' × (first'.number ≡ first.number) → TriesRoom (beginning_of hall) from first first' r → IsFirst hall first → IsFirst hall first'
  first_then from first first' r pass t f =
      let x = beginning_of hall in
      let idle = tries_idle x from r first first' pass.1 t f.idle.1 f.idle.2 in
      record {
        idle = (pass.0, idle.0, idle.1);
        number = pass.1 ∙ f.number;
        none_mine = none_more x t.found.room t.room.room first first' pass.1 t.turn.one f.none_mine;
        quiet = quiet_more x t.found.room t.room.room first first' pass.1 t.turn.one t.same_open f.quiet;
      }

  -- those of lanes
  pub others_then : (others others' : List RoomPass) → ((i : ℕ) (p : RoomPass) → get_elem? others' i ≡ some p → IsRoomPass hall p) → RenewsEach (beginning_of hall) others others' → AreOthers hall others → AreOthers hall others'
  others_then others others' passes renews o = record {
    idle = λ i q there.
        let b = before i q there in
        let pass = passes i q there in
        let idle = renews_idle (beginning_of hall) b.0 q pass.lawful b.2 (o.idle i b.0 b.1).1 (o.idle i b.0 b.1).2 in
        (pass, idle.0, idle.1);
    numbers = λ i q there. let b = before i q there in b.2.number ∙ o.numbers i b.0 b.1;
  }
    where
      before : (i : ℕ) (q : RoomPass) → get_elem? others' i ≡ some q → (p : RoomPass) × (get_elem? others i ≡ some p) × Renews (beginning_of hall) p q
      before i q there =
          let lt = (read_at others' i q q there).0 in
          let many = renews.many in
          let at = elem_at others i q (omega (arith, lt, many)) in
          let e = renews.each i (get_or others i q) at in
          (get_or others i q, at, subst (Renews (beginning_of hall) (get_or others i q)) (some-injective e.0 q (sym e.1 ∙ there)) e.2)

  pub renews_on : (at : ℕ) (others0 others others' : List RoomPass) → RenewsEach (beginning_of hall) others others' → RenewsBut (beginning_of hall) at others0 others → RenewsBut (beginning_of hall) at others0 others'
  renews_on at others0 others others' each but i p ne there =
      let a = but i p ne there in
      let b = each.each i a.0 a.1 in
      (b.0, b.1, renews_then (beginning_of hall) p a.0 b.0 a.2 b.2)
