-- The rest of a lane after a try by its own pass.
use Rattle.std.proofs.Common.{◌≡◌, ◌≢◌, ◌⊎◌, inl, inr, ℕ, ◌+◌, ◌<◌, ◌≤◌, List, [], ◌∷◌, ◌++◌, length, set, refl, sym, ap, subst, ◌∙◌, ⊎_elim, arith}
use Rattle.std.specs.Prelude.{get_or}
use Rattle.std.proofs.lemmas.List.{length-set}
use mathlib.Core.Option.{some, some-injective}
use lib.ListN.{get_elem?}
use Rattle.fine_model.specs.declared.RunFault.{RunFault}
use Rattle.fine_model.specs.declared.RunFault.TheVariants as run_fault
use Rattle.fine_model.specs.declared.ScriptTxn.{ScriptTxn}
use Rattle.node_cache.specs.Cache.{Cache}
use Rattle.partition_hold.specs.Views.{ViewValue, state_of}
use Rattle.epoch_room.specs.Value.{RoomValue}
use Rattle.fine_places.proofs.Elements.{elem_at, read_at}
use Rattle.fine_places.proofs.Lists.{decide}
use Rattle.fine_places.specs.declared.model.Placed.{Placed}
use Rattle.fine_hall.specs.declared.law.Beginning.{Beginning}
use Rattle.fine_hall.specs.declared.turn.Turn.{Turn}
use Rattle.fine_hall.specs.Halls.{HallOf}
use Rattle.fine_hall.specs.Passes.{turns, troubles}
use Rattle.hall_rooms.specs.Rooms.{IsIdle, RoomPass, beginning_of}
use Rattle.atomic_table.proofs.Lists.{set_else, set_here}
use Rattle.lane_laws.specs.Lanes.{EndedBy, GoesOn, HasMet, LaneRuns, LaneValue, SawShut}
use Rattle.lane_runs.specs.Rest.{AreOthers, MeetsRest, RenewsBut}
use Rattle.lane_runs.specs.declared.step.Went.{Went}
use Rattle.lane_runs.specs.declared.step.Went.TheVariants as went
use Rattle.lane_runs.specs.Resting.{GoesOnFor, RestSoFar}
use Rattle.lane_runs.specs.Steps.{FullFor, IsClean, IsNextOf, MetFull, StaysBut, StepsLane}
use Rattle.lane_runs.proofs.Meeting.{none_of}
use Rattle.lane_runs.proofs.Trying.{next_then}

-- what stands at a place that was set
pub set_cases : {P : Type 0} (l : List RoomPass) (at i : ℕ) (p' p : RoomPass) → at < length l → get_elem? (set l at p') i ≡ some p → (i ≡ at → p' ≡ p → P) → (i ≢ at → get_elem? l i ≡ some p → P) → P
set_cases l at i p' p lt there here else = ⊎_elim
    (λ (e : i ≡ at). here e (some-injective p' p (sym (set_here l at p' lt) ∙ (ap (get_elem? (set l at p')) (sym e) ∙ there))))
    (λ (ne : i ≢ at). else ne (sym (set_else l at i p' ne) ∙ there))
    (decide i at)

-- the passes of lanes, of which one is another that is idle
pub others_set : {Q : Type 0} (hall : HallOf RoomValue Cache ViewValue Q) (others : List RoomPass) (at : ℕ) (p p' : RoomPass) → AreOthers hall others → get_elem? others at ≡ some p → IsIdle hall p' × (p'.number ≡ p.number) → AreOthers hall (set others at p')
others_set hall others at p p' o is idle =
    let lt = (read_at others at p p is).0 in
    record {
      idle = λ i q there. set_cases others at i p' q lt there (λ here same. subst (IsIdle hall) same idle.0) (λ ne old. o.idle i q old);
      numbers = λ i q there. set_cases others at i p' q lt there (λ here same. ap (λ (a : RoomPass). a.number) (sym same) ∙ (idle.1 ∙ (o.numbers at p is ∙ ap (λ n. n + 2) (sym here)))) (λ ne old. o.numbers i q old);
    }

-- a lane that goes on met nothing so far
pub clean_rest : (x : Beginning) (first first' p : RoomPass) (w : LaneValue) → GoesOn w → MeetsRest x first first' p w → IsClean x p
clean_rest x first first' p w on m = record {
  troubles = ⊎_elim (λ h. h.1) (λ or. ⊎_elim (λ at. absurd (none_of w on run_fault.Disk at)) (λ at. absurd (none_of w on run_fault.Memory at)) or) m.clean;
  opened = ⊎_elim (λ h. h.1) (λ or. ⊎_elim (λ at. absurd (none_of w on run_fault.Disk at)) (λ at. absurd (none_of w on run_fault.Memory at)) or) m.opened;
}

-- what its own pass met is met for the lane
pub meets_own : (x : Beginning) (first first' p p' : RoomPass) (w w' : LaneValue) → GoesOn w → MeetsRest x first first' p w → HasMet x p' w' → MeetsRest x first first' p' w'
meets_own x first first' p p' w w' on m h = record {
  no_lower = m.no_lower;
  clean = ⊎_elim
      (λ none. ⊎_elim (λ c. inl (c.0, none)) (λ or. absurd (⊎_elim (λ at. none_of w on run_fault.Disk at) (λ at. none_of w on run_fault.Memory at) or)) m.clean)
      (λ or. inr or) h.clean;
  opened = ⊎_elim
      (λ open_. ⊎_elim (λ c. inl (c.0, open_)) (λ or. absurd (⊎_elim (λ at. none_of w on run_fault.Disk at) (λ at. none_of w on run_fault.Memory at) or)) m.opened)
      (λ or. inr or) h.opened;
  failed = λ at. ⊎_elim (λ some. inr (inl some)) (λ shut. inr (inr (inr shut))) (h.failed at);
  unsound = h.unsound;
  one = h.one;
}

module _ {Q : Type 0} (hall : HallOf RoomValue Cache ViewValue Q) (script : List ScriptTxn) (group at : ℕ) (first first' : RoomPass) (others others' : List RoomPass) (w w' : LaneValue) (p p' : RoomPass) where
  -- a step of the lane by its own pass
  pub rest_turn : GoesOn w → get_elem? others' at ≡ some p → IsIdle hall p' × (p'.number ≡ p.number) → (LaneRuns (beginning_of hall) (turns first') script group p w → LaneRuns (beginning_of hall) (turns first') script group p' w')
      → (IsClean (beginning_of hall) p → HasMet (beginning_of hall) p' w') → RestSoFar hall script group at first first' others others' w → RestSoFar hall script group at first first' others (set others' at p') w'
  rest_turn on is idle runs met r =
      let x = beginning_of hall in
      let lt = (read_at others' at p p is).0 in
      let same = some-injective r.own p (sym r.own_is ∙ is) in
      let meets = subst (λ q. MeetsRest x first first' q w) same r.meets in
      record {
        first_is = r.first_is;
        others_are = others_set hall others' at p p' r.others_are is idle;
        many = length-set others' at p' ∙ r.many;
        saw = r.saw;
        renews = λ i q ne there. let s = r.renews i q ne there in (s.0, set_else others' at i p' ne ∙ s.1, s.2);
        own = p';
        own_is = set_here others' at p' lt;
        runs = runs (subst (λ q. LaneRuns x (turns first') script group q w) same r.runs);
        meets = meets_own x first first' p p' w w' on meets (met (clean_rest x first first' p w on meets));
      }

module _ {Q : Type 0} (hall : HallOf RoomValue Cache ViewValue Q) (script : List ScriptTxn) (group at i : ℕ) (first : RoomPass) (others : List RoomPass) (w w' : LaneValue) (d p' : RoomPass) (how : Went) (lt : at < length others) where
  -- a try by the lane's own pass
  pub rest_by_turn : GoesOn w → IsIdle hall p' × (p'.number ≡ (get_or others at d).number) → StepsLane (beginning_of hall) script group i (get_or others at d) p' w w' how → GoesOnFor hall script group at first first others (set others at p') w w'
  rest_by_turn on idle s first0 others0 r = rest_turn hall script group at first0 first others0 others w w' (get_or others at d) p' on (elem_at others at d lt) idle (s.runs (turns first)) s.met r

  -- the passes are those of lanes still
  pub others_by_turn : AreOthers hall others → IsIdle hall p' × (p'.number ≡ (get_or others at d).number) → AreOthers hall (set others at p')
  others_by_turn o idle = others_set hall others at (get_or others at d) p' o (elem_at others at d lt) idle

  -- that of the lane is the one that met the full log
  pub full_by_turn : how ≡ went.Full → StepsLane (beginning_of hall) script group i (get_or others at d) p' w w' how → (own : RoomPass) → get_elem? (set others at p') at ≡ some own → MetFull (beginning_of hall) script i own
  full_by_turn is s own there =
      subst (MetFull (beginning_of hall) script i) (some-injective p' own (sym (set_here others at p' lt) ∙ there)) (subst (λ h. FullFor h (beginning_of hall) script i p') is s.full)

-- the answer is false where none was refused for a full log
pub next_rest : (script : List ScriptTxn) (i : ℕ) (w w' w'' : LaneValue) (how : Went) → how ≡ went.Full → StaysBut how w w' → w'' ≡ w' → IsNextOf script w i → IsNextOf script w'' i
next_rest script i w w' w'' how is stays noted next = subst (λ v. IsNextOf script v i) (sym noted) (next_then script i w w' how is stays next)
