-- The rest of a lane after room was sought.
use Rattle.std.proofs.Common.{◌≡◌, ◌≢◌, ◌⊎◌, inl, inr, ℕ, ◌+◌, ◌<◌, ◌≤◌, Bool, true, false, List, [], ◌∷◌, ◌++◌, length, None, Some, Result, Ok, Err, refl, sym, ap, subst, ◌∙◌, ⊎_elim, arith, true≢false}
use Rattle.std.specs.Prelude.{Contains, slice_get}
use mathlib.Core.Option.{some, some-injective}
use lib.ListN.{get_elem?}
use Rattle.fine_model.specs.declared.Damage.{Damage}
use Rattle.fine_model.specs.declared.Damage.TheVariants as damage
use Rattle.fine_model.specs.declared.FetchFault.TheVariants as fetch_fault
use Rattle.fine_model.specs.declared.Outcome.TheVariants as outcome
use Rattle.fine_model.specs.declared.RunFault.{RunFault}
use Rattle.fine_model.specs.declared.RunFault.TheVariants as run_fault
use Rattle.fine_model.specs.declared.ScriptTxn.{ScriptTxn}
use Rattle.fine_model.specs.declared.Why.TheVariants as why
use Rattle.fine_model.specs.Becomes.{IsStuck}
use Rattle.fine_model.specs.Damages.{IsPlaceOrNode}
use Rattle.node_cache.specs.Cache.{Cache}
use Rattle.partition_hold.specs.Views.{ViewValue, state_of}
use Rattle.epoch_room.specs.Value.{RoomValue}
use Rattle.epoch_room.specs.declared.answers.RoomFault.TheVariants as room_fault
use Rattle.room_merges.specs.declared.fault.MergeFault.{MergeFault}
use Rattle.room_merges.specs.declared.fault.MergeFault.TheVariants as merge_fault
use Rattle.fine_places.specs.declared.model.Placed.{Placed}
use Rattle.fine_hall.specs.declared.law.Beginning.{Beginning}
use Rattle.fine_hall.specs.declared.turn.Turn.{Turn}
use Rattle.fine_hall.specs.Halls.{HallOf}
use Rattle.fine_hall.specs.Passes.{turns, troubles, last_room}
use Rattle.fine_model.specs.declared.law.RoomState.{RoomState}
use Rattle.hall_rooms.specs.Rooms.{IsRoomPass, RoomPass, beginning_of}
use Rattle.hall_rooms.specs.declared.making.Space.{Space}
use Rattle.hall_rooms.specs.declared.making.Space.TheVariants as space
use Rattle.hall_rooms.specs.Making.{Renews, RenewsEach, TriesRoom}
use Rattle.hall_rooms.specs.Turning.{MeetsNone, MeetsSome, NotBegan}
use Rattle.hall_rooms.proofs.Filled.{stuck_then}
use Rattle.hall_rooms.proofs.Left.{last_is}
use Rattle.lane_laws.specs.Lanes.{EndedBy, GoesOn, HasFull, LaneRuns, LaneValue, SawShut}
use Rattle.lane_laws.specs.Quiet.{OpenOf, QuietBut}
use Rattle.lane_laws.proofs.Quiet.{open_stays}
use Rattle.lane_runs.specs.Lane.{with_fault, with_outcome}
use Rattle.lane_runs.specs.Rest.{IsFirst, MeetsRest}
use Rattle.lane_runs.specs.Resting.{FullSoFar, IsStuckBy, RestSoFar, fault_of, is_stuck}
use Rattle.lane_runs.specs.Steps.{IsNextOf, MetFull}
use Rattle.lane_runs.proofs.Faulted.{fault_added}
use Rattle.lane_runs.proofs.Fulled.{runs_full}
use Rattle.lane_runs.proofs.Lists.{item_at}
use Rattle.lane_runs.proofs.Meeting.{none_of, only_fault, same_damage, this_fault}
use Rattle.lane_runs.proofs.Needs.{full_same}
use Rattle.lane_runs.proofs.Seeking.{first_then, last_there, others_then, renews_on, room_open, saw_last, saw_on, saw_room, saw_shut, shut_then, stays_open}
use Rattle.lane_runs.proofs.Stays.{quiet_seeing, runs_stay}

-- ---- what was met

-- the pass of the seat 1 met no fault in its last turn, which left the room as open as it was
record MeetsOn (x : Beginning) (first first' : RoomPass) : Type 0 where
  none : MeetsNone x first first'
  opened : OpenOf first.number x.room (turns first) → OpenOf first'.number x.room (turns first')

abbrev SawShutOn : RoomPass → RoomPass → Type 0
SawShutOn first first' = SawShut first → SawShut first'

no_lower_on : (x : Beginning) (first0 first first' : RoomPass) → SawShutOn first first' → (troubles state_of x first0 ≤ troubles state_of x first) ⊎ SawShut first → (troubles state_of x first ≤ troubles state_of x first') ⊎ SawShut first'
    → (troubles state_of x first0 ≤ troubles state_of x first') ⊎ SawShut first'
no_lower_on x first0 first first' on a b = ⊎_elim (λ le. ⊎_elim (λ le2. inl (omega (arith, le, le2))) (λ shut. inr shut) b) (λ shut. inr (on shut)) a

module _ (x : Beginning) (first0 first first' p p' : RoomPass) (w : LaneValue) (on : GoesOn w) (shut_on : SawShutOn first first') (m : MeetsRest x first0 first p w) (r : Renews x p p') where
  own_open : OpenOf p.number x.room (turns p) → OpenOf p'.number x.room (turns p')
  own_open o = let l = r.sees.longer in subst (λ n. OpenOf n x.room (turns p')) (sym r.number) (subst (OpenOf p.number x.room) (sym l.1) (open_stays p.number x.room (turns p) l.0 l.2 o))

  clean_on : MeetsOn x first first' → MeetsNone x first0 first' × (troubles state_of x p' ≡ 0)
  clean_on h = ⊎_elim (λ c. (h.none ∙ c.0, r.meets ∙ c.1)) (λ or. absurd (⊎_elim (λ at. none_of w on run_fault.Disk at) (λ at. none_of w on run_fault.Memory at) or)) m.clean

  open_on : MeetsOn x first first' → (OpenOf first0.number x.room (turns first0) → OpenOf first'.number x.room (turns first')) × OpenOf p'.number x.room (turns p')
  open_on h = ⊎_elim (λ c. ((λ o. h.opened (c.0 o)), own_open c.1)) (λ or. absurd (⊎_elim (λ at. none_of w on run_fault.Disk at) (λ at. none_of w on run_fault.Memory at) or)) m.opened

  lower : (troubles state_of x first ≤ troubles state_of x first') ⊎ SawShut first' → (troubles state_of x first0 ≤ troubles state_of x first') ⊎ SawShut first'
  lower b = no_lower_on x first0 first first' shut_on m.no_lower b

  same_low : MeetsNone x first first' → (troubles state_of x first ≤ troubles state_of x first') ⊎ SawShut first'
  same_low e = inl (omega (arith, e))

  -- it goes on
  meets_on : MeetsOn x first first' → MeetsRest x first0 first' p' w
  meets_on h = record {
    no_lower = lower (same_low h.none);
    clean = inl (clean_on h);
    opened = inl (open_on h);
    failed = λ at. absurd (none_of w on run_fault.Disk at);
    unsound = λ what at. absurd (none_of w on (run_fault.Damaged what) at);
    one = m.one;
  }

  -- a failed disk, or a room that was shut before
  meets_disk : (troubles state_of x first < troubles state_of x first') ⊎ SawShut first' → (troubles state_of x first ≤ troubles state_of x first') ⊎ SawShut first' → MeetsRest x first0 first' p' (with_fault w run_fault.Disk)
  meets_disk why low = record {
    no_lower = lower low;
    clean = inr (inl (this_fault run_fault.Disk));
    opened = inr (inl (this_fault run_fault.Disk));
    failed = λ at. ⊎_elim (λ lt. ⊎_elim (λ le. inl (omega (arith, lt, le))) (λ shut. inr (inr (inl (shut_on shut)))) m.no_lower) (λ shut. inr (inr (inl shut))) why;
    unsound = λ what at. absurd (let e : run_fault.Disk ≡ run_fault.Damaged what = only_fault run_fault.Disk (run_fault.Damaged what) at in cc);
    one = omega arith;
  }

  meets_memory : MeetsNone x first first' → MeetsRest x first0 first' p' (with_fault w run_fault.Memory)
  meets_memory none = record {
    no_lower = lower (same_low none);
    clean = inr (inr (this_fault run_fault.Memory));
    opened = inr (inr (this_fault run_fault.Memory));
    failed = λ at. absurd (let e : run_fault.Memory ≡ run_fault.Disk = only_fault run_fault.Memory run_fault.Disk at in cc);
    unsound = λ what at. absurd (let e : run_fault.Memory ≡ run_fault.Damaged what = only_fault run_fault.Memory (run_fault.Damaged what) at in cc);
    one = omega arith;
  }

  meets_damage : (what : Damage) → MeetsOn x first first' → NotBegan x → IsPlaceOrNode what → MeetsRest x first0 first' p' (with_fault w (run_fault.Damaged what))
  meets_damage what h not place = record {
    no_lower = lower (same_low h.none);
    clean = inl (clean_on h);
    opened = inl (open_on h);
    failed = λ at. absurd (let e : run_fault.Damaged what ≡ run_fault.Disk = only_fault (run_fault.Damaged what) run_fault.Disk at in cc);
    unsound = λ other at. (not, subst IsPlaceOrNode (same_damage what other (only_fault (run_fault.Damaged what) (run_fault.Damaged other) at)) place);
    one = omega arith;
  }

  -- by the fault with which making room ended
  meets_fault : (from : ℕ) (number : first'.number ≡ first.number) (e : MergeFault) (t : TriesRoom x from first first' (Err e)) → MeetsRest x first0 first' p' (with_fault w (fault_of e))
  meets_fault from number (merge_fault.Room room_fault.Disk) t =
      let last = λ (high : _). saw_last x from first first' number (Err (merge_fault.Room room_fault.Disk)) t high in
      meets_disk (⊎_elim (λ lt. inl lt) (λ high. inr (last high)) t.meets) (⊎_elim (λ lt. inl (omega (arith, lt))) (λ high. inr (last high)) t.meets)
  meets_fault from number (merge_fault.Room (room_fault.Shut epoch)) t =
      let shut = saw_shut x from first first' number (Err (merge_fault.Room (room_fault.Shut epoch))) t (ap (λ (v : RoomValue). v.room.is_shut) t.makes.2 ∙ t.makes.0) in
      meets_disk (inr shut) (inr shut)
  meets_fault from number (merge_fault.Room room_fault.NoMemory) t = meets_memory t.meets
  meets_fault from number (merge_fault.Fetch fetch_fault.Failed) t =
      let last = λ (high : _). saw_last x from first first' number (Err (merge_fault.Fetch fetch_fault.Failed)) t high in
      meets_disk (⊎_elim (λ lt. inl lt) (λ high. inr (last high)) t.meets) (⊎_elim (λ lt. inl (omega (arith, lt))) (λ high. inr (last high)) t.meets)
  meets_fault from number (merge_fault.Fetch fetch_fault.NoMemory) t = meets_memory t.meets
  meets_fault from number (merge_fault.Fetch (fetch_fault.BadRow region at)) t =
      meets_damage (damage.Region region at) (record { none = t.meets; opened = room_open x from first first' number (Err (merge_fault.Fetch (fetch_fault.BadRow region at))) t (stays_open x.seats from t.found t.room (Err (merge_fault.Fetch (fetch_fault.BadRow region at))) t.makes (λ e is. absurd cc)) })
      t.damage tt
  meets_fault from number (merge_fault.Fetch (fetch_fault.BadIndex region at)) t =
      meets_damage (damage.Region region at) (record { none = t.meets; opened = room_open x from first first' number (Err (merge_fault.Fetch (fetch_fault.BadIndex region at))) t (stays_open x.seats from t.found t.room (Err (merge_fault.Fetch (fetch_fault.BadIndex region at))) t.makes (λ e is. absurd cc)) })
      t.damage tt

  meets_ok : (from : ℕ) (number : first'.number ≡ first.number) (s : Space) (t : TriesRoom x from first first' (Ok s)) → MeetsRest x first0 first' p' w
  meets_ok from number s t = meets_on (record { none = t.meets; opened = room_open x from first first' number (Ok s) t (stays_open x.seats from t.found t.room (Ok s) t.makes (λ e is. absurd cc)) })

-- ---- the rest

-- the log was found stuck
pub stuck_by : (x : Beginning) (from : ℕ) (first first' : RoomPass) (r : Result Space MergeFault) (made : Space) → first'.number ≡ first.number → r ≡ Ok made → is_stuck made ≡ true → TriesRoom x from first first' r → IsStuckBy x (turns first')
stuck_by x from first first' r space.Stuck number is stuck t e rows began =
    let found = subst (TriesRoom x from first first') is t in
    let there = last_there x from first first' number (Ok space.Stuck) found in
    (there.0, there.1, subst IsStuck (sym (there.2 ∙ sym (last_is x found.found.room None 0 found.room.room first first' found.turn.one))) (stuck_then x from first first' found e rows began))
stuck_by x from first first' r space.Made number is stuck t e rows began = absurd (true≢false (sym stuck))
stuck_by x from first first' r space.Enough number is stuck t e rows began = absurd (true≢false (sym stuck))
stuck_by x from first first' r space.Held number is stuck t e rows began = absurd (true≢false (sym stuck))
stuck_by x from first first' r space.Waits number is stuck t e rows began = absurd (true≢false (sym stuck))

module _ {Q : Type 0} (hall : HallOf RoomValue Cache ViewValue Q) (script : List ScriptTxn) (group at : ℕ) (first0 first first' : RoomPass) (others0 others others' : List RoomPass) (w : LaneValue) (some_group : 1 ≤ group) (from : ℕ) (r : Result Space MergeFault)
    (pass : IsRoomPass hall first' × (first'.number ≡ first.number)) (passes : (i : ℕ) (p : RoomPass) → get_elem? others' i ≡ some p → IsRoomPass hall p) (each : RenewsEach (beginning_of hall) others others') (t : TriesRoom (beginning_of hall) from first first' r)
    (s : RestSoFar hall script group at first0 first others0 others w) where
  -- the lane's own pass looked
  own_then : (p' : RoomPass) × (get_elem? others' at ≡ some p') × Renews (beginning_of hall) s.own p'
  own_then = each.each at s.own s.own_is

  own_runs : LaneRuns (beginning_of hall) (turns first') script group own_then.0 w
  unfolding own_then
  own_runs =
      let o = own_then in
      let saw = saw_room (beginning_of hall) from first first' pass.1 r t in
      let was = (s.others_are.idle at s.own s.own_is).0 in
      let is = passes at o.0 o.1 in
      subst (λ l. LaneRuns (beginning_of hall) l script group o.0 w) (sym saw.1)
      (runs_stay (beginning_of hall) (turns first) saw.0 script group s.own o.0 w some_group o.2.number was.own o.2.sees was.lawful is.lawful s.runs)

  shut_after : SawShut first → SawShut first'
  shut_after = shut_then first first' (saw_room (beginning_of hall) from first first' pass.1 r t)

  -- the lane has another value, which its pass has to fit
  rest_with : (w' : LaneValue) → LaneRuns (beginning_of hall) (turns first') script group own_then.0 w' → MeetsRest (beginning_of hall) first0 first' own_then.0 w' → RestSoFar hall script group at first0 first' others0 others' w'
  unfolding own_then
  rest_with w' runs meets = record {
    first_is = first_then hall from first first' r pass t s.first_is;
    others_are = others_then hall others others' passes each s.others_are;
    many = each.many ∙ s.many;
    saw = saw_on first0 first first' s.saw (saw_room (beginning_of hall) from first first' pass.1 r t);
    renews = renews_on hall at others0 others others' each s.renews;
    own = own_then.0;
    own_is = own_then.1;
    runs = runs;
    meets = meets;
  }

  -- it goes on
  pub rest_goes_on : GoesOn w → (made : Space) → r ≡ Ok made → RestSoFar hall script group at first0 first' others0 others' w
  rest_goes_on on made is =
      rest_with w own_runs
      (meets_ok (beginning_of hall) first0 first first' s.own own_then.0 w on shut_after s.meets own_then.2 from pass.1 made (subst (TriesRoom (beginning_of hall) from first first') is t))

  -- a fault ended it
  pub rest_ended : GoesOn w → (e : MergeFault) → r ≡ Err e → RestSoFar hall script group at first0 first' others0 others' (with_fault w (fault_of e))
  rest_ended on e is =
      rest_with (with_fault w (fault_of e)) (fault_added (beginning_of hall) (turns first') script group own_then.0 w (fault_of e) own_runs)
      (meets_fault (beginning_of hall) first0 first first' s.own own_then.0 w on shut_after s.meets own_then.2 from pass.1 e (subst (TriesRoom (beginning_of hall) from first first') is t))

  -- the log is stuck
  pub rest_stuck : (i : ℕ) (made : Space) → IsNextOf script w i → MetFull (beginning_of hall) script i s.own → r ≡ Ok made → is_stuck made ≡ true → RestSoFar hall script group at first0 first' others0 others' (with_outcome w (outcome.Refused why.Full))
  rest_stuck i made next full is stuck =
      let found_txn = item_at script i next.within in
      let txn = found_txn.0 in
      let there = found_txn.1 in
      let x = beginning_of hall in
      let o = own_then in
      let was = (s.others_are.idle at s.own s.own_is).0 in
      let now = passes at o.0 o.1 in
      let on = subst (TriesRoom x from first first') is t in
      rest_with (with_outcome w (outcome.Refused why.Full))
      (runs_full x (turns first') script group o.0 w i txn some_group now.own now.lawful next there (stuck_by x from first first' r made pass.1 is stuck t) (full.commits txn there)
      (λ q e rows began. let same = quiet_seeing x s.own o.0 o.2.number was.own o.2.sees was.lawful now.lawful q in full_same x s.own o.0 same.0 same.1 txn.calls rows (full.holds txn there same.2 e rows began)) own_runs)
      (refused_meets (meets_ok x first0 first first' s.own o.0 w next.goes_on shut_after s.meets o.2 from pass.1 made on))
    where
      refused_meets : {q : RoomPass} → MeetsRest (beginning_of hall) first0 first' q w → MeetsRest (beginning_of hall) first0 first' q (with_outcome w (outcome.Refused why.Full))
      refused_meets m = record { no_lower = m.no_lower; clean = m.clean; opened = m.opened; failed = m.failed; unsound = m.unsound; one = m.one }
