-- Room is made in a turn: the room is cleared, neighbours are merged, and it is cleared again.
use Rattle.std.proofs.Common.{◌≡◌, ◌⊎◌, inl, inr, ⊎_elim, ℕ, ◌<◌, ◌≤◌, Bool, true, false, true≢false, ◌++◌, None, Result, Ok, Err, refl, sym, ◌∙◌, subst, arith, length, ap, List}
use Rattle.std.specs.Prelude.{is_some, IfOk}
use Rattle.std.proofs.lemmas.Bool.Decides.{leb_tells}
use Rattle.fine_model.specs.declared.law.RoomState.{RoomState}
use Rattle.fine_model.specs.declared.FetchFault.{FetchFault}
use Rattle.fine_model.specs.declared.FetchFault.TheVariants as fetch_fault
use Rattle.fine_model.specs.declared.Row.{Row}
use Rattle.fine_model.specs.Buckets.{Began}
use Rattle.epoch_room.specs.Meaning.{Stands}
use Rattle.epoch_room.specs.Fitting.{counts_of}
use Rattle.epoch_room.specs.Steps.{retired_from}
use Rattle.epoch_room.specs.Value.{RoomValue}
use Rattle.epoch_room.specs.Whole.{IsWhole}
use Rattle.epoch_room.specs.declared.answers.Counts.{Counts}
use Rattle.epoch_room.specs.declared.answers.RoomFault.{RoomFault}
use Rattle.epoch_room.specs.declared.answers.RoomFault.TheVariants as room_fault
use Rattle.room_merges.specs.declared.fault.MergeFault.{MergeFault}
use Rattle.room_merges.specs.declared.fault.MergeFault.TheVariants as merge_fault
use Rattle.fine_boxes.specs.declared.model.TurnNote.{TurnNote}
use Rattle.fine_hall.specs.declared.law.Beginning.{Beginning}
use Rattle.fine_hall.specs.Turns.{added}
use Rattle.fine_hall.specs.Passes.{seen}
use Rattle.fine_hall.specs.Halls.{GivesRoom}
use Rattle.fine_hall.proofs.Since.{gives_law}
use Rattle.hall_rooms.specs.Rooms.{RoomPass}
use Rattle.hall_rooms.specs.declared.making.Space.{Space}
use Rattle.hall_rooms.specs.declared.making.Space.TheVariants as space
use Rattle.hall_rooms.specs.Steps.{BeginsTurn, InTurn, IsCleanTurn, IsFailedTurn, Rises, SameEpochs}
use Rattle.hall_rooms.specs.Turning.{MeetsNone, MeetsSome, NotBegan}
use Rattle.hall_rooms.specs.Merging.{Failing, MergesThroughOr, OnDamage, StandsForNone}
use Rattle.hall_rooms.specs.Making.{Clears, ClearsMergedOr, GoesOn, GoesOnAfter, IsCleared, LeavesHeld, MakesOr, MergesAndClears, MergesAndHolds, MergesClearedOr, OnRenewed, OnceCleared, SameOpen, Stops, StopsMerging, TriesInVain, TurnsOn}
use Rattle.hall_rooms.proofs.Clearing.{is_cleared, not_retired, some_retired}
use Rattle.hall_rooms.proofs.Merged.{may_merge, not_begun, on_damage}
use Rattle.hall_rooms.proofs.GivenBack.{met_none, met_some}
use Rattle.hall_rooms.proofs.Turned.{some_failed}

-- ---- how a turn goes on

module _ (x : Beginning) where
  -- behind a merge of neighbours
  module _ (from : ℕ) (old new : RoomValue) (p : RoomPass) (c : IsCleanTurn x old p) (none : old.room.job ≡ None) where
    merge_clean : (r : Result Bool MergeFault) → MergesThroughOr from old new r → new.room.faults ≤ old.room.faults → IsCleanTurn x new p
    merge_clean r m least = record { note = c.note; turn = may_merge x from old new p c r none m; none_failed = let n = c.none_failed in omega (arith, n, least) }

    merge_failed : (r : Result Bool MergeFault) → MergesThroughOr from old new r → Rises old.room new.room → IsFailedTurn x new p
    merge_failed r m up = record { note = c.note; turn = may_merge x from old new p c r none m; some_failed = some_failed x p old new c.note c.turn up }

    pub goes_merged : (r : Result Bool MergeFault) → MergesThroughOr from old new r → GoesOn x new p r
    goes_merged (Ok merged) m = merge_clean (Ok merged) m m.counted
    goes_merged (Err (merge_fault.Fetch fetch_fault.Failed)) m = merge_failed (Err (merge_fault.Fetch fetch_fault.Failed)) m m.counted
    goes_merged (Err (merge_fault.Fetch (fetch_fault.BadRow region at))) m = merge_clean (Err (merge_fault.Fetch (fetch_fault.BadRow region at))) m m.counted
    goes_merged (Err (merge_fault.Fetch (fetch_fault.BadIndex region at))) m = merge_clean (Err (merge_fault.Fetch (fetch_fault.BadIndex region at))) m m.counted
    goes_merged (Err (merge_fault.Fetch fetch_fault.NoMemory)) m = merge_clean (Err (merge_fault.Fetch fetch_fault.NoMemory)) m m.counted
    goes_merged (Err (merge_fault.Room room_fault.Disk)) m = merge_failed (Err (merge_fault.Room room_fault.Disk)) m m.counted
    goes_merged (Err (merge_fault.Room room_fault.NoMemory)) m = merge_clean (Err (merge_fault.Room room_fault.NoMemory)) m m.counted
    goes_merged (Err (merge_fault.Room (room_fault.Shut epoch))) m = merge_clean (Err (merge_fault.Room (room_fault.Shut epoch))) m m.counted

  -- behind clearing that came to no end
  pub goes_stopped : (room : RoomValue) (p : RoomPass) (fault : RoomFault) → GoesOnAfter x room p fault → GoesOn {A = Space} x room p (Err (merge_fault.Room fault))
  goes_stopped room p room_fault.Disk g = g
  goes_stopped room p (room_fault.Shut epoch) g = g
  goes_stopped room p room_fault.NoMemory g = g

  -- whatever was answered, the room may be given back
  pub in_any_turn : (room : RoomValue) (p : RoomPass) (r : Result Space MergeFault) → GoesOn x room p r → (t : TurnNote) × InTurn x room p t
  in_any_turn room p (Ok did) g = (g.note, g.turn)
  in_any_turn room p (Err (merge_fault.Fetch fetch_fault.Failed)) g = (g.note, g.turn)
  in_any_turn room p (Err (merge_fault.Fetch (fetch_fault.BadRow region at))) g = (g.note, g.turn)
  in_any_turn room p (Err (merge_fault.Fetch (fetch_fault.BadIndex region at))) g = (g.note, g.turn)
  in_any_turn room p (Err (merge_fault.Fetch fetch_fault.NoMemory)) g = (g.note, g.turn)
  in_any_turn room p (Err (merge_fault.Room room_fault.Disk)) g = (g.note, g.turn)
  in_any_turn room p (Err (merge_fault.Room room_fault.NoMemory)) g = (g.note, g.turn)
  in_any_turn room p (Err (merge_fault.Room (room_fault.Shut epoch))) g = (g.note, g.turn)

-- ---- merging what was cleared

-- nothing was merged, and it is cleared still
pub vain : (from : ℕ) (old new : RoomValue) → IsCleared old → MergesThroughOr from old new (Ok false) → IsWhole new → TriesInVain from old new
vain from old new c m whole = record {
  tries = m;
  cleared = is_cleared new whole m.merges.0.1 (m.leaves.epochs.1 ∙ c.none_waits) (m.merges.1.retired ∙ c.none_retired) m.leaves.no_job;
}

-- how many regions are free, by the numbers of a room
pub free_is : (room : RoomState) (c : Counts) → c ≡ counts_of room → c.free ≡ length room.free
unfolding counts_of
free_is room c is = ap (λ (d : Counts). d.free) is

-- the answer is by whether something was retired, and by what is free
pub in_vain : (seats from : ℕ) (had : Bool) (old new : RoomValue) (s : Space) (free : ℕ) → free ≡ length new.room.free → (had ≡ true → s ≡ space.Made) → (had ≡ false → free < 2 → s ≡ space.Stuck) → (had ≡ false → 2 ≤ free → s ≡ space.Enough)
    → TriesInVain from old new → MergesClearedOr seats from had old new (Ok s)
in_vain seats from true old new s free is made stuck enough t = subst (λ a. MergesClearedOr seats from true old new (Ok a)) (sym (made refl)) (inr (t, refl))
in_vain seats from false old new s free is made stuck enough t = ⊎_elim
    (λ h. let least = h.1 in subst (λ a. MergesClearedOr seats from false old new (Ok a)) (sym (enough refl least)) (t, refl, omega (arith, is, least)))
    (λ h. let less = h.1 in subst (λ a. MergesClearedOr seats from false old new (Ok a)) (sym (stuck refl less)) (t, refl, omega (arith, is, less)))
    (leb_tells 2 free)

module _ (seats from : ℕ) (had : Bool) (old new : RoomValue) where
  -- merging answered a fault
  pub merge_fails : (fault : MergeFault) → MergesThroughOr from old new (Err fault) → MergesClearedOr seats from had old new (Err fault)
  merge_fails (merge_fault.Fetch fault) m = m
  merge_fails (merge_fault.Room fault) m = inl m

  -- two were merged, and the room was cleared, or that came to no end
  pub merged_clears : (merged : RoomValue) → MergesThroughOr from old merged (Ok true) → (r : Result Space MergeFault) → ClearsMergedOr seats merged new r → MergesClearedOr seats from had old new r
  merged_clears merged m (Ok space.Made) c = inl (record { merged = merged; merges = m; clears = c })
  merged_clears merged m (Ok space.Enough) c = absurd c
  merged_clears merged m (Ok space.Stuck) c = absurd c
  merged_clears merged m (Ok space.Waits) c = absurd c
  merged_clears merged m (Ok space.Held) c = record { merged = merged; merges = m; left = c }
  merged_clears merged m (Err (merge_fault.Fetch fault)) c = absurd c
  merged_clears merged m (Err (merge_fault.Room fault)) c = inr (merged, m, c)

-- clearing names no place
pub clears_unread : (seats : ℕ) (P : Type 0) (merged new : RoomValue) (r : Result Space MergeFault) → ClearsMergedOr seats merged new r → OnDamage r P
clears_unread seats P merged new (Ok did) c = tt
clears_unread seats P merged new (Err (merge_fault.Fetch fault)) c = absurd c
clears_unread seats P merged new (Err (merge_fault.Room fault)) c = tt

-- a bad place is one of a log that did not begin
pub merge_damage : (x : Beginning) (from : ℕ) (old new : RoomValue) (p : RoomPass) (c : IsCleanTurn x old p) (r : Result Bool MergeFault) → MergesThroughOr from old new r → OnDamage r (NotBegan x)
merge_damage x from old new p c r m = on_damage r (StandsForNone old) (NotBegan x) (not_begun x old (seen p ++ added None 0) c.turn.may.log c.turn.may.stands) m.damage

-- ---- making room

module _ (seats from : ℕ) (found cleared room : RoomValue) (c : Clears seats found cleared) (had : Bool) (is : had ≡ is_some (retired_from found.room 0)) where
  once : (P : RoomValue → Type 0) → P cleared → OnceCleared seats found P
  once P p = record { cleared = cleared; clears = c; is = p }

  pub made : (r : Result Space MergeFault) → MergesClearedOr seats from had cleared room r → MakesOr seats from found room r
  made (Ok space.Made) (inl n) = inl (once _ n)
  made (Ok space.Made) (inr n) = inr (some_retired found.room (sym is ∙ n.1), once _ n.0)
  made (Ok space.Enough) m = (not_retired found.room (sym is ∙ m.1), once _ m.0, m.2)
  made (Ok space.Stuck) m = (not_retired found.room (sym is ∙ m.1), once _ m.0, m.2)
  made (Ok space.Waits) m = absurd m
  made (Ok space.Held) m = inr (once _ m)
  made (Err (merge_fault.Fetch fault)) m = once _ m
  made (Err (merge_fault.Room room_fault.Disk)) m = (c.unshut.0, ⊎_elim (λ (n : MergesThroughOr from cleared room (Err (merge_fault.Room room_fault.Disk))). n.merges.1) (λ n. n.2.1) m, inr (once _ m))
  made (Err (merge_fault.Room (room_fault.Shut epoch))) m = absurd (⊎_elim
      (λ (n : MergesThroughOr from cleared room (Err (merge_fault.Room (room_fault.Shut epoch)))). true≢false (sym n.merges.0 ∙ c.cleared.not_shut))
      (λ n. true≢false (sym n.2.0 ∙ n.1.merges.0.1))
      m)
  made (Err (merge_fault.Room room_fault.NoMemory)) m = (⊎_elim (λ (n : MergesThroughOr from cleared room (Err (merge_fault.Room room_fault.NoMemory))). n.merges.0.1) (λ n. n.2.0) m, inr (once _ m))

-- it was not cleared
pub not_cleared : (seats from : ℕ) (found room : RoomValue) (fault : RoomFault) → Stops seats found room fault → MakesOr seats from found room (Err (merge_fault.Room fault))
not_cleared seats from found room room_fault.Disk s = (s.0, s.1, inl s)
not_cleared seats from found room (room_fault.Shut epoch) s = s
not_cleared seats from found room room_fault.NoMemory s = (s.0, inl s)

-- ---- the epochs stay

stops_same : (seats : ℕ) (old new : RoomValue) (fault : RoomFault) → Stops seats old new fault → SameEpochs old.room new.room
stops_same seats old new room_fault.Disk s = s.2.chain.epochs
stops_same seats old new (room_fault.Shut epoch) s = (ap (λ (v : RoomValue). v.room.sealed) s.2, ap (λ (v : RoomValue). v.room.waiting) s.2)
stops_same seats old new room_fault.NoMemory s = s.1.chain.epochs

both_same : (a b c : RoomState) → SameEpochs a b → SameEpochs b c → SameEpochs a c
both_same a b c s t = (t.0 ∙ s.0, t.1 ∙ s.1)

merging_same : (seats from : ℕ) (old new : RoomValue) (fault : RoomFault) → StopsMerging seats from old new fault → SameEpochs old.room new.room
merging_same seats from old new fault (inl n) = n.leaves.epochs
merging_same seats from old new fault (inr n) = both_same old.room n.0.room new.room n.1.leaves.epochs (stops_same seats n.0 new fault n.2)

module _ (seats from : ℕ) (found room : RoomValue) where
  -- behind clearing
  behind : (P : RoomValue → Type 0) → ((cleared : RoomValue) → P cleared → SameEpochs cleared.room room.room) → OnceCleared seats found P → SameEpochs found.room room.room
  behind P f o = both_same found.room o.cleared.room room.room o.clears.chain.epochs (f o.cleared o.is)

  in_vain_same : (cleared : RoomValue) → TriesInVain from cleared room → SameEpochs cleared.room room.room
  in_vain_same cleared t = t.tries.leaves.epochs

  cleared_same : (cleared : RoomValue) → MergesAndClears seats from cleared room → SameEpochs cleared.room room.room
  cleared_same cleared n = both_same cleared.room n.merged.room room.room n.merges.leaves.epochs n.clears.chain.epochs

  held_same : (cleared : RoomValue) → MergesAndHolds seats from cleared room → SameEpochs cleared.room room.room
  held_same cleared n = both_same cleared.room n.merged.room room.room n.merges.leaves.epochs n.left.chain.epochs

  fetch_same : (fault : FetchFault) (cleared : RoomValue) → MergesThroughOr from cleared room (Err (merge_fault.Fetch fault)) → SameEpochs cleared.room room.room
  fetch_same fault cleared n = n.leaves.epochs

  stop_same : (fault : RoomFault) (cleared : RoomValue) → StopsMerging seats from cleared room fault → SameEpochs cleared.room room.room
  stop_same fault cleared n = merging_same seats from cleared room fault n

  stopped_same : (fault : RoomFault) → Stops seats found room fault ⊎ OnceCleared seats found (λ cleared. StopsMerging seats from cleared room fault) → SameEpochs found.room room.room
  stopped_same fault (inl s) = stops_same seats found room fault s
  stopped_same fault (inr o) = behind (λ cleared. StopsMerging seats from cleared room fault) (stop_same fault) o

  pub makes_same : (r : Result Space MergeFault) → MakesOr seats from found room r → SameEpochs found.room room.room
  makes_same (Ok space.Made) (inl o) = behind (λ cleared. MergesAndClears seats from cleared room) cleared_same o
  makes_same (Ok space.Made) (inr o) = behind (λ cleared. TriesInVain from cleared room) in_vain_same o.1
  makes_same (Ok space.Enough) m = behind (λ cleared. TriesInVain from cleared room) in_vain_same m.1
  makes_same (Ok space.Stuck) m = behind (λ cleared. TriesInVain from cleared room) in_vain_same m.1
  makes_same (Ok space.Held) (inl l) = l.chain.epochs
  makes_same (Ok space.Held) (inr o) = behind (λ cleared. MergesAndHolds seats from cleared room) held_same o
  makes_same (Ok space.Waits) m = (ap (λ (v : RoomValue). v.room.sealed) m.1, ap (λ (v : RoomValue). v.room.waiting) m.1)
  makes_same (Err (merge_fault.Fetch fault)) m = behind (λ cleared. MergesThroughOr from cleared room (Err (merge_fault.Fetch fault))) (fetch_same fault) m
  makes_same (Err (merge_fault.Room room_fault.Disk)) m = stopped_same room_fault.Disk m.2
  makes_same (Err (merge_fault.Room (room_fault.Shut epoch))) m = (ap (λ (v : RoomValue). v.room.sealed) m.2, ap (λ (v : RoomValue). v.room.waiting) m.2)
  makes_same (Err (merge_fault.Room room_fault.NoMemory)) m = stopped_same room_fault.NoMemory m.1

-- nothing waits, and so the open epoch takes no bytes
pub none_taken : (room : RoomValue) → IsWhole room → room.room.waiting ≡ 0 → (room.room.waiting ≡ 0) × (room.room.used ≡ 0)
none_taken room whole none = (none, (whole.epoch.none none).2)

pub open_same : (old new : RoomValue) → IsWhole old → IsWhole new → old.room.waiting ≡ 0 → SameEpochs old.room new.room → SameOpen old.room new.room
open_same old new before after none s = record { sealed = s.0; waiting = s.1; used = (none_taken new after (s.1 ∙ none)).1 ∙ sym (none_taken old before none).1 }

-- what holds of each answer that is Ok holds of those behind which the views were renewed
pub on_renewed : (P : Type 0) (r : Result Space MergeFault) → IfOk r (λ made. P) → OnRenewed r P
on_renewed P (Ok space.Made) p = p
on_renewed P (Ok space.Enough) p = p
on_renewed P (Ok space.Stuck) p = p
on_renewed P (Ok space.Held) p = p
on_renewed P (Ok space.Waits) p = tt
on_renewed P (Err fault) p = tt

pub renewed_then : (P Q : Type 0) (r : Result Space MergeFault) → (P → Q) → OnRenewed r P → OnRenewed r Q
renewed_then P Q (Ok space.Made) f p = f p
renewed_then P Q (Ok space.Enough) f p = f p
renewed_then P Q (Ok space.Stuck) f p = f p
renewed_then P Q (Ok space.Held) f p = f p
renewed_then P Q (Ok space.Waits) f p = tt
renewed_then P Q (Err fault) f p = tt

-- ---- the end of the turn

-- the room stands for the history that the pass then saw
pub seen_stands : (x : Beginning) (room : RoomValue) (q r : RoomPass) (t : TurnNote) → InTurn x room q t → GivesRoom room.room None 0 t q r → (e : ℕ) (first : List Row) → Began x.log e first → Stands room first e (seen r)
seen_stands x room q r t i gave e first b = subst (Stands room first e) (sym (gives_law x room.room None 0 t q r gave).seen_more) (i.may.stands e first b)

module _ (x : Beginning) (found new : RoomValue) (p p₁ q r : RoomPass) (begun : BeginsTurn x p p₁ found) (second : q.number ≡ p₁.number) (third : r.number ≡ q.number) (on : TurnsOn x p₁ q) where
  pub makes_meet : (answer : Result Space MergeFault) (g : GoesOn x new q answer) → GivesRoom new.room None 0 (in_any_turn x new q answer g).0 q r → Failing answer (MeetsSome x p r) (MeetsNone x p r)
  unfolding in_any_turn
  makes_meet (Ok did) g gave = met_none x found new p p₁ q r begun second third on g.note gave g.none_failed
  makes_meet (Err (merge_fault.Fetch fetch_fault.Failed)) g gave = met_some x found new p p₁ q r begun second third on g.note gave g.some_failed
  makes_meet (Err (merge_fault.Fetch (fetch_fault.BadRow region at))) g gave = met_none x found new p p₁ q r begun second third on g.note gave g.none_failed
  makes_meet (Err (merge_fault.Fetch (fetch_fault.BadIndex region at))) g gave = met_none x found new p p₁ q r begun second third on g.note gave g.none_failed
  makes_meet (Err (merge_fault.Fetch fetch_fault.NoMemory)) g gave = met_none x found new p p₁ q r begun second third on g.note gave g.none_failed
  makes_meet (Err (merge_fault.Room room_fault.Disk)) g gave = met_some x found new p p₁ q r begun second third on g.note gave g.some_failed
  makes_meet (Err (merge_fault.Room room_fault.NoMemory)) g gave = met_none x found new p p₁ q r begun second third on g.note gave g.none_failed
  makes_meet (Err (merge_fault.Room (room_fault.Shut epoch))) g gave = met_none x found new p p₁ q r begun second third on g.note gave g.none_failed
