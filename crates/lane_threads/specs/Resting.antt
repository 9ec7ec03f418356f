-- What the caller leaves of lanes, after the threads were joined.
use Rattle.std.specs.Prelude.{◌≡◌, ◌⊎◌, ℕ, ◌+◌, ◌<◌, ◌≤◌, Bool, true, false, List, [], ◌∷◌, ◌++◌, length, map, take, count_by, sum_by, slice_get, Option, Some, None, option_to_list}
use mathlib.Core.Option.{some}
use lib.ListN.{get_elem?}
use Rattle.fine_model.specs.declared.Damage.{Damage}
use Rattle.fine_model.specs.declared.RunFault.{RunFault}
use Rattle.fine_model.specs.declared.RunFault.TheVariants as run_fault
use Rattle.fine_model.specs.declared.ScriptTxn.{ScriptTxn}
use Rattle.fine_model.specs.Damages.{IsPlaceOrNode}
use Rattle.node_cache.specs.Cache.{Cache}
use Rattle.partition_hold.specs.Views.{ViewValue, state_of}
use Rattle.epoch_room.specs.Value.{RoomValue}
use Rattle.fine_hall.specs.declared.law.Beginning.{Beginning}
use Rattle.fine_hall.specs.Halls.{HallOf}
use Rattle.fine_hall.specs.Passes.{mine, troubles, turns}
use Rattle.hall_rooms.specs.Rooms.{RoomPass, beginning_of}
use Rattle.hall_rooms.specs.Turning.{NotBegan}
use Rattle.run_laws.specs.Lanes.{IsLane, fault_of, lanes_failed, most_lanes}
use Rattle.lane_laws.specs.Joined.{AreEnded, JoinedSoFar, LaneDone}
use Rattle.lane_laws.specs.Lanes.{EndedBy, SawShut}
use Rattle.lane_laws.specs.Quiet.{OpenOf, QuietOf}
use Rattle.lane_runs.specs.Rest.{AreOthers, IsFirst}
use Rattle.lane_threads.specs.declared.worker.Part.{Part}
use Rattle.lane_threads.specs.Means.{lanes_of}
use Rattle.lane_threads.specs.Workers.{HasStoppedWith}

-- a pass that is no lane's: it added and sealed nothing, and met no fault
pub record IsCallers (x : Beginning) (p : RoomPass) : Type 0 where
  pub none_mine : mine p ≡ []
  pub quiet : QuietOf p.number x.room (turns p)
  pub opened : OpenOf p.number x.room (turns p)
  pub clean : troubles state_of x p ≡ 0

-- The passes of all seats with the parts of the lanes, in their order; behind them is the caller's pass.
pub record AreSeated {Q : Type 0} (hall : HallOf RoomValue Cache ViewValue Q) (script : List ScriptTxn) (first : RoomPass) (others : List RoomPass) (parts : List Part) : Type 0 where
  pub first_is : IsFirst hall first
  pub others_are : AreOthers hall others
  pub count : length others ≡ length parts + 1
  pub lanes : map (λ (p : Part). p.lane.lane) parts ≡ lanes_of script
  pub last : (p : RoomPass) → get_elem? others (length parts) ≡ some p → IsCallers (beginning_of hall) p

-- Each part has come to its end with its pass, and the seat 1 met no fault.
pub record AreJoined {Q : Type 0} (hall : HallOf RoomValue Cache ViewValue Q) (script : List ScriptTxn) (group : ℕ) (first : RoomPass) (others : List RoomPass) (parts : List Part) : Type 0 where
  pub seated : AreSeated hall script first others parts
  pub open seated use *
  pub first_clean : troubles state_of (beginning_of hall) first ≡ 0
  pub first_opened : OpenOf first.number (beginning_of hall).room (turns first)
  pub stopped : (k : ℕ) (p : RoomPass) (part : Part) → get_elem? others k ≡ some p → slice_get parts k ≡ Some part → HasStoppedWith hall script group p part

-- a failed disk ended it, where it has one fault at most
abbrev pub is_failed : List RunFault → Bool
is_failed (run_fault.Disk ∷ []) = true
is_failed _ = false

abbrev pub has_failed : Part → Bool
has_failed part = is_failed part.lane.work.left

-- a fault ended one of the first parts
abbrev pub SomeEnded : RunFault → ℕ → List Part → Type 0
SomeEnded fault at parts = (k : ℕ) × (part : Part) × (k < at) × (slice_get parts k ≡ Some part) × EndedBy fault part.lane

-- the pass of the seat 1, or one of the first passes, saw the room shut, or its count of faults at its last value
abbrev pub SomeShut : ℕ → RoomPass → List RoomPass → Type 0
SomeShut at first others = SawShut first ⊎ ((k : ℕ) × (p : RoomPass) × (k < at) × (get_elem? others k ≡ some p) × SawShut p)

-- What was met for the first parts, by their own passes and by that of the seat 1.
pub record MetSoFar (x : Beginning) (at : ℕ) (first : RoomPass) (others : List RoomPass) (parts : List Part) : Type 0 where
  pub at_most : (count_by has_failed (take at parts) ≤ troubles state_of x first + sum_by (troubles state_of x) (take at others)) ⊎ SomeShut at first others
  pub clean : ((troubles state_of x first ≡ 0) × ((k : ℕ) (p : RoomPass) → k < at → get_elem? others k ≡ some p → troubles state_of x p ≡ 0)) ⊎ SomeEnded run_fault.Disk at parts ⊎ SomeEnded run_fault.Memory at parts
  pub opened : (OpenOf first.number x.room (turns first) × ((k : ℕ) (p : RoomPass) → k < at → get_elem? others k ≡ some p → OpenOf p.number x.room (turns p))) ⊎ SomeEnded run_fault.Disk at parts
      ⊎ SomeEnded run_fault.Memory at parts
  pub unsound : (what : Damage) → SomeEnded (run_fault.Damaged what) at parts → NotBegan x × IsPlaceOrNode what
  pub one : (k : ℕ) (part : Part) → k < at → slice_get parts k ≡ Some part → length part.lane.work.left ≤ 1

-- All was done for the first parts, and the others are as their threads left them.
pub record RestedSoFar {Q : Type 0} (hall : HallOf RoomValue Cache ViewValue Q) (script : List ScriptTxn) (group at : ℕ) (first : RoomPass) (others : List RoomPass) (parts : List Part) : Type 0 where
  pub seated : AreSeated hall script first others parts
  pub open seated use *
  pub done : (k : ℕ) (p : RoomPass) (part : Part) → k < at → get_elem? others k ≡ some p → slice_get parts k ≡ Some part → LaneDone (beginning_of hall) (turns first) script group p part.lane
  pub stopped : (k : ℕ) (p : RoomPass) (part : Part) → at ≤ k → get_elem? others k ≡ some p → slice_get parts k ≡ Some part → HasStoppedWith hall script group p part
  pub met : MetSoFar (beginning_of hall) at first others parts

-- ---- their faults

-- parts of lanes that a script may name, each of another lane, which one fault ended at most
pub record AreLanes (parts : List Part) : Type 0 where
  pub within : (k : ℕ) (part : Part) → slice_get parts k ≡ Some part → IsLane part.lane.lane
  pub apart : (j k : ℕ) (p q : Part) → slice_get parts j ≡ Some p → slice_get parts k ≡ Some q → p.lane.lane ≡ q.lane.lane → j ≡ k
  pub one : (k : ℕ) (part : Part) → slice_get parts k ≡ Some part → length part.lane.work.left ≤ 1

-- the faults of lanes, by their numbers, are those of the first parts, and a lane without one of these has none
pub record EndedSoFar (at : ℕ) (parts : List Part) (ended : List (Option RunFault)) : Type 0 where
  pub count : length ended ≡ most_lanes
  pub are : (k : ℕ) (part : Part) → k < at → slice_get parts k ≡ Some part → part.lane.work.left ≡ option_to_list (fault_of ended part.lane.lane)
  pub only : (lane : ℕ) (fault : RunFault) → IsLane lane → fault_of ended lane ≡ Some fault → (k : ℕ) × (part : Part) × (k < at) × (slice_get parts k ≡ Some part) × (part.lane.lane ≡ lane)
  pub failed : lanes_failed ended ≤ count_by has_failed (take at parts)

-- ---- all of it

-- All was done for each lane, and these are the faults that ended lanes.
pub record AreAllDone {Q : Type 0} (hall : HallOf RoomValue Cache ViewValue Q) (script : List ScriptTxn) (group : ℕ) (first : RoomPass) (others : List RoomPass) (parts : List Part) (ended : List (Option RunFault)) : Type 0 where
  pub seated : AreSeated hall script first others parts
  pub open seated use *
  pub done : (k : ℕ) (p : RoomPass) (part : Part) → get_elem? others k ≡ some p → slice_get parts k ≡ Some part → LaneDone (beginning_of hall) (turns first) script group p part.lane
  pub are_ended : AreEnded (map (λ (p : Part). p.lane) parts) ended
  pub joined : JoinedSoFar (beginning_of hall) (others ++ first ∷ []) (ended ++ None ∷ [])
