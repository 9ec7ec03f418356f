-- What faults of the body on one thread tell, step by step.
use Rattle.std.specs.Prelude.{◌≡◌, ◌⊎◌, ℕ, ◌+◌, ◌-◌, ◌≤◌, min, true, if◌then◌else◌, List, length, slice_set, Option, Some, None, Contains}
use Rattle.fine_model.specs.declared.RunFault.{RunFault}
use Rattle.fine_model.specs.declared.RunFault.TheVariants as run_fault
use Rattle.fine_model.specs.Damages.{IsPlaceOrNode}
use Rattle.fine_model.specs.Faults.{HasRisen, last_count}
use Rattle.fine_model.specs.History.{Commit}
use Rattle.epoch_room.specs.Value.{RoomValue}
use Rattle.room_shelf.specs.Shelves.{IsCountOf}
use Rattle.run_laws.specs.Lanes.{IsLane, fault_of, is_disk, lanes_failed, most_lanes, with_last}
use Rattle.run_laws.specs.Runs.{IsReady, OfSound}
use Rattle.run_laws.specs.SoFar.{AreTold, GoesOn}

-- one fault more is told, and no other
pub record TellsMore (old new : List (Option RunFault)) (fault : RunFault) : Type 0 where
  pub there : Contains new (Some fault)
  pub stays : (other : RunFault) → Contains old (Some other) → Contains new (Some other)
  pub only : (other : RunFault) → Contains new (Some other) → Contains old (Some other) ⊎ (other ≡ fault)

-- so it is as a lane ends that had not, and as a fault is told beside those of lanes
abbrev pub MoreByLane : Type 0
MoreByLane = (ended : List (Option RunFault)) (lane : ℕ) (fault : RunFault) → length ended ≡ most_lanes → IsLane lane → fault_of ended lane ≡ None → TellsMore ended (slice_set ended (lane - 1) (Some fault)) fault

abbrev pub MoreBeside : Type 0
MoreBeside = (told : List (Option RunFault)) (fault : RunFault) → TellsMore told (with_last told (Some fault)) fault

-- where no call failed, all stays as it was told, also as the count of the view that is taken back is added to the disk's
abbrev pub ToldStays : Type 0
ToldStays =
    (entry old new : RoomValue) (count now : ℕ) (ended told : List (Option RunFault)) → IsCountOf count now → old.disk.own_faults ≤ new.disk.own_faults → new.room.is_shut ≡ old.room.is_shut
    → AreTold entry old count ended told → AreTold entry new now ended told

-- What a fault that is told now has as its cause: a failed disk that the count of all faults rose, or that the room is shut; want of memory none; damage that no call failed, of a
-- place or a node, on an unsound log.
abbrev pub HasCause : RoomValue → RoomValue → RoomValue → ℕ → ℕ → RunFault → Type 0
HasCause entry old new count now run_fault.Disk = HasRisen count now ⊎ (new.room.is_shut ≡ true)
HasCause entry old new count now run_fault.Memory = Unit {0}
HasCause entry old new count now (run_fault.Damaged what) = (now ≡ count) × (new.room.is_shut ≡ old.room.is_shut) × IsPlaceOrNode what × OfSound entry (λ first e. ⊥)

-- a fault more, which may have ended a lane
pub record ToldOne (entry old new : RoomValue) (count now : ℕ) (ended after told more : List (Option RunFault)) (history : List Commit) (fault : RunFault) : Type 0 where
  pub goes_on : GoesOn entry new history
  pub cause : HasCause entry old new count now fault
  pub adds : TellsMore told more fault
  pub lanes : length after ≡ most_lanes
  pub counted : lanes_failed after ≤ lanes_failed ended + (if is_disk (Some fault) then 1 else 0)
  pub all : (other : RunFault) → Contains after (Some other) → Contains more (Some other)
  pub no_lower : (count ≤ now) × (old.disk.own_faults ≤ new.disk.own_faults)
  pub is_total : min new.disk.faults last_count ≤ now

abbrev pub ToldMore : Type 0
ToldMore =
    (entry old new : RoomValue) (count now : ℕ) (ended after told more : List (Option RunFault)) (history : List Commit) (fault : RunFault) → IsReady entry
    → AreTold entry old count ended told → ToldOne entry old new count now ended after told more history fault → AreTold entry new now after more
