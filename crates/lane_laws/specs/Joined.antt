-- After the join: what the caller leaves, and how a run of lanes follows.
use Rattle.std.specs.Prelude.{◌≡◌, ◌⊎◌, ℕ, ◌+◌, ◌≤◌, true, false, List, [], ◌∷◌, ◌++◌, length, map, sum_by, count_by, slice_get, Option, Some, None, Contains, Any}
use Rattle.std.specs.List.{list_all}
use mathlib.Core.Option.{some}
use lib.ListN.{get_elem?}
use Rattle.fine_model.specs.declared.Damage.{Damage}
use Rattle.fine_model.specs.declared.Options.{Options}
use Rattle.fine_model.specs.declared.Ran.{Ran}
use Rattle.fine_model.specs.declared.RunFault.{RunFault}
use Rattle.fine_model.specs.declared.RunFault.TheVariants as run_fault
use Rattle.fine_model.specs.declared.ScriptTxn.{ScriptTxn}
use Rattle.fine_model.specs.Becomes.{Becomes}
use Rattle.fine_model.specs.Boards.{is_empty}
use Rattle.fine_model.specs.Bounds.{FitsScript}
use Rattle.fine_model.specs.Damages.{IsPlaceOrNode}
use Rattle.fine_model.specs.Faults.{HasRisen}
use Rattle.fine_places.specs.declared.model.Placed.{Placed}
use Rattle.fine_hall.specs.declared.law.Beginning.{Beginning}
use Rattle.fine_hall.specs.declared.turn.Turn.{Turn}
use Rattle.fine_hall.specs.Passes.{turns, own_turns, mine, troubles}
use Rattle.fine_places.specs.History.{by_seat}
use Rattle.fine_hall.specs.Halls.{AreAll}
use Rattle.partition_hold.specs.Views.{state_of}
use Rattle.epoch_room.specs.Meaning.{GoesOnStanding}
use Rattle.epoch_room.specs.Value.{RoomValue}
use Rattle.epoch_room.specs.Whole.{IsWhole}
use Rattle.hall_rooms.specs.Closing.{ClosesHall}
use Rattle.hall_rooms.specs.Opening.{OpensHall}
use Rattle.hall_rooms.specs.Rooms.{RoomPass}
use Rattle.hall_rooms.specs.Turning.{NotBegan}
use Rattle.run_laws.specs.Lanes.{fault_of, first_fault, is_disk, most_lanes, with_last}
use Rattle.run_laws.specs.Needs.{IsSealed, Unsealed}
use Rattle.run_laws.specs.Runs.{IsReady, RunsLanes}
use Rattle.lane_laws.specs.Lanes.{GoesOn, LaneRuns, LaneValue, SawShut}
use Rattle.lane_laws.specs.Quiet.{OpenOf, QuietOf}
use Rattle.lane_laws.specs.Works.{Gathers}

-- some pass of these saw the room shut, or its count of faults at its last value
abbrev pub SomeSawShut : List RoomPass → Type 0
SomeSawShut passes = (i : ℕ) × (p : RoomPass) × (get_elem? passes i ≡ some p) × SawShut p

-- What was met, over all passes, as one of them is used for several lanes after the threads were joined: `told` has the fault of each lane, and that of the merger. Each that a failed disk ended has a failed
-- call, unless some pass saw a room that is shut. Where none was ended by a failed disk or by want of memory, no call failed, and no turn of theirs shut the room. Damage is a place or a node, and comes on a log alone
-- that was not told or is not sound.
pub record JoinedSoFar (x : Beginning) (passes : List RoomPass) (told : List (Option RunFault)) : Type 0 where
  pub at_most : (count_by is_disk told ≤ sum_by (troubles state_of x) passes) ⊎ SomeSawShut passes
  pub clean : (sum_by (troubles state_of x) passes ≡ 0) ⊎ Contains told (Some run_fault.Disk) ⊎ Contains told (Some run_fault.Memory)
  pub opened : ((i : ℕ) (p : RoomPass) → get_elem? passes i ≡ some p → OpenOf p.number x.room (turns p)) ⊎ Contains told (Some run_fault.Disk) ⊎ Contains told (Some run_fault.Memory)
  pub unsound : (what : Damage) → Contains told (Some (run_fault.Damaged what)) → NotBegan x × IsPlaceOrNode what

-- a lane with its pass, after all was done that the caller does for the lane
pub record LaneDone (x : Beginning) (first : List (Placed Turn)) (script : List ScriptTxn) (group : ℕ) (p : RoomPass) (w : LaneValue) : Type 0 where
  pub runs : LaneRuns x first script group p w
  pub open runs use *
  pub finished : GoesOn w → length w.work.done ≡ length w.work.at

-- each lane of the script has one worker, and no other lane has one
pub record AreWorkers (script : List ScriptTxn) (workers : List LaneValue) : Type 0 where
  pub every : (i : ℕ) (txn : ScriptTxn) → slice_get script i ≡ Some txn → (k : ℕ) × (w : LaneValue) × (slice_get workers k ≡ Some w) × (w.lane ≡ txn.lane)
  pub once : (i j : ℕ) (v w : LaneValue) → slice_get workers i ≡ Some v → slice_get workers j ≡ Some w → v.lane ≡ w.lane → i ≡ j
  pub only : (k : ℕ) (w : LaneValue) → slice_get workers k ≡ Some w → Any (λ (txn : ScriptTxn). txn.lane ≡ w.lane) script

-- the faults of lanes, by their numbers from 1 on, are those of the workers, and a lane without a worker has none
pub record AreEnded (workers : List LaneValue) (ended : List (Option RunFault)) : Type 0 where
  pub count : length ended ≡ most_lanes
  pub goes_on : (k : ℕ) (w : LaneValue) → slice_get workers k ≡ Some w → fault_of ended w.lane ≡ None → GoesOn w

-- What is done with the room that the hall left: what waits is sealed, unless the room is shut or memory is wanting.
pub record SealsLeft (back new : RoomValue) (last : Option RunFault) : Type 0 where
  pub whole : IsWhole new
  pub entry : new.entry ≡ back.entry
  pub stands : GoesOnStanding back new
  pub becomes : Becomes back.room new.room
  pub epochs : Unsealed back.room new.room ⊎ IsSealed back.room new.room
  pub places : new.room.places ≡ back.room.places
  pub board : list_all is_empty new.room.board ≡ true
  pub no_job : new.room.job ≡ None
  pub opened : (new.room.is_shut ≡ back.room.is_shut) ⊎ (last ≡ Some run_fault.Disk)
  pub none_wait : new.room.is_shut ≡ false → (last ≡ Some run_fault.Memory → ⊥) → new.room.waiting ≡ 0
  pub some_wait : last ≡ Some run_fault.Memory → 1 ≤ new.room.waiting
  pub failed : last ≡ Some run_fault.Disk → HasRisen back.disk.faults new.disk.faults × HasRisen back.disk.own_faults new.disk.own_faults
  pub clean : (new.disk.faults ≡ back.disk.faults) ⊎ (last ≡ Some run_fault.Disk)
  pub undamaged : (what : Damage) → last ≡ Some (run_fault.Damaged what) → ⊥

-- All that is known at the end. The seat 1 and the last one add nothing and seal nothing; the seats between are those of the workers, in their order.
pub record LanesJoined (x : Beginning) (script : List ScriptTxn) (options : Options) (old back new : RoomValue) (passes : List RoomPass) (workers : List LaneValue) (ended : List (Option RunFault)) (merger last : Option RunFault) (ran : Ran) : Type 0 where
  pub ready : IsReady old
  pub fits : FitsScript script
  pub opens : OpensHall old (length workers + 2) x
  pub all : AreAll x.seats passes
  -- each pass knows just its own turns of those that it saw
  pub own : (i : ℕ) (p : RoomPass) → get_elem? passes i ≡ some p → own_turns p ≡ by_seat p.number (turns p)
  pub workers_are : AreWorkers script workers
  pub first : RoomPass
  pub first_is : (i : ℕ) × (get_elem? passes i ≡ some first) × (first.number ≡ 1)
  pub lanes : (k : ℕ) (w : LaneValue) → slice_get workers k ≡ Some w → (i : ℕ) × (p : RoomPass) × (get_elem? passes i ≡ some p) × (p.number ≡ k + 2) × LaneDone x (turns first) script options.group p w
  pub others : (i : ℕ) (p : RoomPass) → get_elem? passes i ≡ some p → (p.number ≡ 1) ⊎ (p.number ≡ length workers + 2) → (mine p ≡ []) × QuietOf p.number x.room (turns p)
  pub closes : ClosesHall x passes back
  pub are_ended : AreEnded workers ended
  pub joined : JoinedSoFar x passes (ended ++ merger ∷ [])
  pub seals : SealsLeft back new last
  pub outcomes : Gathers script (map (λ w. w.work) workers) ran.outcomes
  pub fault : ran.fault ≡ first_fault (with_last (ended ++ merger ∷ []) last)
  pub durable : ran.durable ≡ new.room.sealed
  pub unsealed : (ran.unsealed ≡ true → last ≡ Some run_fault.Memory) × (last ≡ Some run_fault.Memory → ran.unsealed ≡ true)

-- then it was a run
abbrev pub LanesLaw : Type 0
LanesLaw =
    (x : Beginning) (script : List ScriptTxn) (options : Options) (old back new : RoomValue) (passes : List RoomPass) (workers : List LaneValue) (ended : List (Option RunFault)) (merger last : Option RunFault) (ran : Ran)
    → LanesJoined x script options old back new passes workers ended merger last ran → RunsLanes script options old new ran
