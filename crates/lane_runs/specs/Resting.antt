-- The rest of a lane, step by step.
use Rattle.std.specs.Prelude.{◌≡◌, ◌⊎◌, ℕ, ◌≤◌, Bool, true, false, List, length, Contains}
use mathlib.Core.Option.{some}
use lib.ListN.{get_elem?}
use Rattle.fine_model.specs.declared.Damage.TheVariants as damage
use Rattle.fine_model.specs.declared.FetchFault.{FetchFault}
use Rattle.fine_model.specs.declared.FetchFault.TheVariants as fetch_fault
use Rattle.fine_model.specs.declared.RunFault.{RunFault}
use Rattle.fine_model.specs.declared.RunFault.TheVariants as run_fault
use Rattle.fine_model.specs.declared.ScriptTxn.{ScriptTxn}
use Rattle.fine_model.specs.Becomes.{IsStuck}
use Rattle.node_cache.specs.Cache.{Cache}
use Rattle.partition_hold.specs.Views.{ViewValue}
use Rattle.epoch_room.specs.Value.{RoomValue}
use Rattle.epoch_room.specs.declared.answers.RoomFault.TheVariants as room_fault
use Rattle.room_merges.specs.declared.fault.MergeFault.{MergeFault}
use Rattle.room_merges.specs.declared.fault.MergeFault.TheVariants as merge_fault
use Rattle.fine_places.specs.declared.model.Placed.{Placed}
use Rattle.fine_hall.specs.declared.law.Beginning.{Beginning}
use Rattle.fine_hall.specs.declared.turn.Turn.{Turn}
use Rattle.fine_hall.specs.Passes.{turns}
use Rattle.fine_hall.specs.Halls.{HallOf}
use Rattle.hall_rooms.specs.Rooms.{RoomPass, beginning_of}
use Rattle.hall_rooms.specs.declared.making.Space.{Space}
use Rattle.hall_rooms.specs.declared.making.Space.TheVariants as space
use Rattle.lane_laws.specs.Lanes.{HasFull, HasMet, LaneRuns, LaneValue, OfBegan}
use Rattle.lane_runs.specs.Rest.{AreOthers, IsFirst, MeetsRest, RenewsBut, SawBefore}
use Rattle.lane_runs.specs.Steps.{IsClean}

-- ---- faults of making room

-- what a fault of a read is told as
abbrev pub of_fetch : FetchFault → RunFault
of_fetch fetch_fault.Failed = run_fault.Disk
of_fetch fetch_fault.NoMemory = run_fault.Memory
of_fetch (fetch_fault.BadRow region at) = run_fault.Damaged (damage.Region region at)
of_fetch (fetch_fault.BadIndex region at) = run_fault.Damaged (damage.Region region at)

-- and one of making room
abbrev pub fault_of : MergeFault → RunFault
fault_of (merge_fault.Room room_fault.Disk) = run_fault.Disk
fault_of (merge_fault.Room (room_fault.Shut epoch)) = run_fault.Disk
fault_of (merge_fault.Room room_fault.NoMemory) = run_fault.Memory
fault_of (merge_fault.Fetch fault) = of_fetch fault

abbrev pub is_stuck : Space → Bool
is_stuck space.Stuck = true
is_stuck space.Made = false
is_stuck space.Enough = false
is_stuck space.Held = false
is_stuck space.Waits = false

-- ---- so far

-- What the caller has left of the lane so far, since the passes were the old ones.
pub record RestSoFar {Q : Type 0} (hall : HallOf RoomValue Cache ViewValue Q) (script : List ScriptTxn) (group at : ℕ) (first first' : RoomPass) (others others' : List RoomPass) (w : LaneValue) : Type 0 where
  pub first_is : IsFirst hall first'
  pub others_are : AreOthers hall others'
  pub many : length others' ≡ length others
  pub saw : SawBefore first first'
  pub renews : RenewsBut (beginning_of hall) at others others'
  pub own : RoomPass
  pub own_is : get_elem? others' at ≡ some own
  pub runs : LaneRuns (beginning_of hall) (turns first') script group own w
  pub meets : MeetsRest (beginning_of hall) first first' own w

-- some of these turns found the log stuck, if it was told at entry and sound
abbrev pub IsStuckBy : Beginning → List (Placed Turn) → Type 0
IsStuckBy x first = OfBegan x (λ before. (t : Placed Turn) × Contains first t × IsStuck t.item.room)

-- where the log is known to be full, some transaction of the lane was refused for it, and else none
abbrev pub FullSoFar : Bool → Beginning → RoomPass → LaneValue → Type 0
FullSoFar true x first w = HasFull w × IsStuckBy x (turns first)
FullSoFar false x first w = HasFull w → ⊥

-- ---- one step

-- what stood so far stands with other passes and another lane, since whatever passes it was
abbrev pub GoesOnFor : {Q : Type 0} → HallOf RoomValue Cache ViewValue Q → List ScriptTxn → ℕ → ℕ → RoomPass → RoomPass → List RoomPass → List RoomPass → LaneValue → LaneValue → Type 0
GoesOnFor hall script group at first first' others others' w w' =
    (first0 : RoomPass) (others0 : List RoomPass) → RestSoFar hall script group at first0 first others0 others w → RestSoFar hall script group at first0 first' others0 others' w'

-- Where the log is known to be full, the next transaction is refused or aborted, or a fault ends the lane.
pub record RefusesNext (x : Beginning) (script : List ScriptTxn) (group : ℕ) (p p' : RoomPass) (w w' : LaneValue) : Type 0 where
  pub runs : (first : List (Placed Turn)) → HasFull w → IsStuckBy x first → LaneRuns x first script group p w → LaneRuns x first script group p' w'
  pub met : IsClean x p → HasMet x p' w'
  pub full : HasFull w → HasFull w'
