-- What the seal of a group leaves, and the last seal of a run.
use Rattle.std.proofs.Common.{◌≡◌, inl, inr, ℕ, ◌+◌, ◌≤◌, true, false, List, refl, sym, ap, ◌∙◌, subst, Option, Some, None, Ok, Err, arith}
use Rattle.std.specs.Prelude.{Result}
use Rattle.fine_model.specs.declared.RunFault.{RunFault}
use Rattle.fine_model.specs.declared.RunFault.TheVariants as run_fault
use Rattle.fine_model.specs.declared.law.RoomState.{RoomState}
use Rattle.fine_model.specs.History.{Commit}
use Rattle.fine_model.proofs.Histories.Goings.{becomes_on}
use Rattle.partition_hold.specs.Views.{ViewValue}
use Rattle.epoch_room.specs.Value.{RoomValue}
use Rattle.epoch_room.specs.Whole.{IsWhole}
use Rattle.room_shelf.specs.Shelves.{IsShelf, Rests, ShelfValue, shelf, total}
use Rattle.room_steps.specs.Laws.{TellsNow}
use Rattle.room_steps.specs.Steps as steps
use Rattle.room_steps.specs.Steps.{SealsWaiting, Tidies}
use Rattle.run_laws.specs.Lanes.{with_last}
use Rattle.run_laws.specs.Needs.{Unsealed}
use Rattle.run_laws.specs.Runs.{IsReady}
use Rattle.run_laws.specs.SoFar.{AreTold}
use Rattle.run_laws.specs.Told.{TellsMore}
use Rattle.run_laws.proofs.Going.{later_law, stays_law}
use Rattle.run_laws.proofs.Tellings.{more_beside, told_stays}
use Rattle.txn_runner.specs.Body.{Body, Goes, Stand, count_of, shelf_of}
use Rattle.txn_runner.specs.Steps.{Closes, SealsAll, SealsGroup, SealsOn}
use Rattle.txn_runner.proofs.Steady.{stand_on}
use Rattle.room_steps.proofs.Facts.{sealed_on}
use Rattle.room_steps.proofs.Telling.{told_still, told_with}

-- a body with another room and another view
abbrev moved : Body → RoomValue → Option ViewValue → Body
moved b room view = record b { room = room; view = view }

goes_by : (entry : RoomValue) (old : Body) (room : RoomValue) (view : Option ViewValue) (history : List Commit) → (old.full ≡ true → ⊥) → steps.Leaves (shelf_of old) (shelf room view) → Goes entry old history → Goes entry (moved old room view) history
goes_by entry old room view history not_full l g = record {
  room = l.goes_on entry history g.room;
  no_region = λ full. absurd (not_full full);
  stuck = λ full. absurd (not_full full);
  view = l.shelf;
}

on_by : (entry : RoomValue) (old : Body) (room : RoomValue) (view : Option ViewValue) (history : List Commit) → (old.full ≡ true → ⊥) → steps.Leaves (shelf_of old) (shelf room view) → Goes entry old history → Stand entry old history
    → SealsOn entry old (moved old room view) history
on_by entry old room view history not_full l g s = record {
  goes = goes_by entry old room view history not_full l g;
  stand = stand_on entry old.room.room.sealed room.room.sealed old.buckets history l.becomes.sealed s;
  becomes = l.becomes;
  full = refl;
  ended = refl;
}

-- where some wait, the log is not known to be full
not_full : (entry : RoomValue) (old : Body) (history : List Commit) → 1 ≤ old.room.room.waiting → Goes entry old history → old.full ≡ true → ⊥
not_full entry old history some g full = let none = (g.no_region full).none_waits in omega (arith, none, some)

-- a fault of a seal comes with nothing sealed
seal_fault : (old new : ShelfValue) (fault : RunFault) → steps.SealsOr old new (Err fault) → steps.FaultOf old new fault × Unsealed old.room.room new.room.room
seal_fault old new run_fault.Disk s = (s.0, s.1)
seal_fault old new run_fault.Memory s = (s.0, s.1)
seal_fault old new (run_fault.Damaged what) s = absurd s

-- ---- the seal of a group

pub not_sealed : (old : Body) (room : RoomValue) (view : Option ViewValue) (fault : RunFault) → 1 ≤ old.room.room.waiting → SealsWaiting (shelf_of old) (shelf room view) (Err fault) → SealsAll old (moved old room view) (Err fault)
not_sealed old room view fault some s entry history ready g t stand = (
  on_by entry old room view history (not_full entry old history some g) s.leaves g stand,
  λ after more now. told_with (shelf_of old) (shelf room view) entry history old.ended after old.ended more fault ready (s.leaves.goes_on entry history g.room) (seal_fault (shelf_of old) (shelf room view) fault s.seals).0 now t,
  inl (seal_fault (shelf_of old) (shelf room view) fault s.seals).1,
)

module _ (old : Body) (mid : RoomValue) (mid_view : Option ViewValue) (room : RoomValue) (view : Option ViewValue) (epoch : ℕ) (s : SealsWaiting (shelf_of old) (shelf mid mid_view) (Ok epoch)) (entry : RoomValue) (history : List Commit)
    (ready : IsReady entry) (g : Goes entry old history) (t : AreTold entry old.room (count_of old) old.ended old.ended) (stand : Stand entry old history) where
  first : SealsOn entry old (moved old mid mid_view) history
  first = on_by entry old mid mid_view history (not_full entry old history s.seals.1.some g) s.leaves g stand

  told_mid : AreTold entry mid (total (shelf mid mid_view)) old.ended old.ended
  told_mid = told_still (shelf_of old) (shelf mid mid_view) entry old.ended old.ended s.seals.0.none_failed t

  both : steps.Leaves (shelf mid mid_view) (shelf room view) → SealsOn entry old (moved old room view) history
  both l = let second = on_by entry (moved old mid mid_view) room view history (not_full entry old history s.seals.1.some g) l first.goes first.stand in
      record { goes = second.goes; stand = second.stand; becomes = becomes_on old.room.room mid.room room.room first.becomes second.becomes; full = refl; ended = refl }

  tidied : (result : Result (Unit {0}) RunFault) → Tidies (shelf mid mid_view) (shelf room view) result → SealsGroup old (moved old room view) result entry history
  tidied (Ok u) d = (both d.leaves, told_still (shelf mid mid_view) (shelf room view) entry old.ended old.ended d.tidy.0 told_mid, sealed_on old.room.room mid.room room.room s.seals.1 d.unsealed)
  tidied (Err fault) d = (
    both d.leaves,
    λ after more now. told_with (shelf mid mid_view) (shelf room view) entry history old.ended after old.ended more fault ready (d.leaves.goes_on entry history first.goes.room) d.tidy now told_mid,
    inr (sealed_on old.room.room mid.room room.room s.seals.1 d.unsealed),
  )

pub is_sealed : (old : Body) (mid : RoomValue) (mid_view : Option ViewValue) (room : RoomValue) (view : Option ViewValue) (epoch : ℕ) (result : Result (Unit {0}) RunFault) → SealsWaiting (shelf_of old) (shelf mid mid_view) (Ok epoch)
    → Tidies (shelf mid mid_view) (shelf room view) result → SealsAll old (moved old room view) result
is_sealed old mid mid_view room view epoch result s d entry history ready g t stand = tidied old mid mid_view room view epoch s entry history ready g t stand result d

-- ---- the end

-- nothing waited
pub rests : (old : Body) (room : RoomValue) → old.room.room.waiting ≡ 0 → IsWhole room → Rests old.room old.view room → Closes old (moved old room None) None
rests old room none whole r entry history ready g t = record {
  goes_on = stays_law entry old.room room history g.room whole (later_law old.room room old.view None r.later);
  tells = told_stays entry old.room room (count_of old) room.disk.faults old.ended old.ended r.count (let e = r.own in omega (arith, e)) r.shut t;
  becomes = r.later.becomes;
  board = r.board;
  sealed = λ open_room not. ap (λ (x : RoomState). x.waiting) r.later.room ∙ none;
  some_wait = λ is. absurd (let e : ◌≡◌ {A = Option RunFault} None (Some run_fault.Memory) = is in cc);
  ended = refl;
}

-- what is told with no view out
alone : (entry room : RoomValue) (ended told : List (Option RunFault)) → AreTold entry room (total (shelf room None)) ended told → AreTold entry room room.disk.faults ended told
alone entry room ended told t = subst (λ n. AreTold entry room n ended told) (let e : room.disk.faults + 0 ≡ room.disk.faults = omega arith in e) t

module _ (old : Body) (room : RoomValue) where
  -- what waited was sealed
  pub closes : (epoch : ℕ) (view : Option ViewValue) → SealsWaiting (shelf_of old) (shelf room view) (Ok epoch) → Closes old (moved old room view) None
  closes epoch view s entry history ready g t = record {
    goes_on = s.leaves.goes_on entry history g.room;
    tells = alone entry room old.ended old.ended (subst (λ v. AreTold entry room (total (shelf room v)) old.ended old.ended) s.rested (told_still (shelf_of old) (shelf room view) entry old.ended old.ended s.seals.0.none_failed t));
    becomes = s.leaves.becomes;
    board = subst (λ v. IsShelf room.room v) s.rested s.leaves.shelf;
    sealed = λ open_room not. s.seals.1.waiting;
    some_wait = λ is. absurd (let e : ◌≡◌ {A = Option RunFault} None (Some run_fault.Memory) = is in cc);
    ended = refl;
  }

  -- or not
  waits : (fault : RunFault) (view : Option ViewValue) → steps.SealsOr (shelf_of old) (shelf room view) (Err fault) → room.room.is_shut ≡ false → (Some fault ≡ Some run_fault.Memory → ⊥) → room.room.waiting ≡ 0
  waits run_fault.Disk view s open_room not = absurd (let e : true ≡ false = sym s.2 ∙ open_room in cc)
  waits run_fault.Memory view s open_room not = absurd (not refl)
  waits (run_fault.Damaged what) view s open_room not = absurd s

  -- what waited waits still, where it was not
  still : (fault : RunFault) (view : Option ViewValue) → steps.SealsOr (shelf_of old) (shelf room view) (Err fault) → 1 ≤ old.room.room.waiting → 1 ≤ room.room.waiting
  still run_fault.Disk view s some = let e = s.1.waiting in omega (arith, e, some)
  still run_fault.Memory view s some = let e = s.1.waiting in omega (arith, e, some)
  still (run_fault.Damaged what) view s some = absurd s

  pub not_closed : 1 ≤ old.room.room.waiting → (fault : RunFault) (view : Option ViewValue) → SealsWaiting (shelf_of old) (shelf room view) (Err fault) → Closes old (moved old room view) (Some fault)
  not_closed some fault view s entry history ready g t = record {
    goes_on = s.leaves.goes_on entry history g.room;
    tells = alone entry room old.ended (with_last old.ended (Some fault)) (subst (λ v. AreTold entry room (total (shelf room v)) old.ended (with_last old.ended (Some fault))) s.rested
        (told_with (shelf_of old) (shelf room view) entry history old.ended old.ended old.ended (with_last old.ended (Some fault)) fault ready (s.leaves.goes_on entry history g.room)
        (seal_fault (shelf_of old) (shelf room view) fault s.seals).0 now t));
    becomes = s.leaves.becomes;
    board = subst (λ v. IsShelf room.room v) s.rested s.leaves.shelf;
    sealed = waits fault view s.seals;
    some_wait = λ is. still fault view s.seals some;
    ended = refl;
  }
    where
      adds : TellsMore old.ended (with_last old.ended (Some fault)) fault
      adds = more_beside old.ended fault

      now : TellsNow old.ended old.ended old.ended (with_last old.ended (Some fault)) fault
      now = record { adds = adds; lanes = t.lanes; counted = omega arith; all = adds.stays }
