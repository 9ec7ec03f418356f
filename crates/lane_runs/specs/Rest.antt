-- What the caller does for a lane that was set aside, after the threads were joined.
use Rattle.std.specs.Prelude.{◌≡◌, ◌≢◌, ◌⊎◌, ℕ, ◌+◌, ◌<◌, ◌≤◌, List, [], ◌++◌, length}
use mathlib.Core.Option.{some}
use lib.ListN.{get_elem?}
use Rattle.fine_model.specs.declared.Damage.{Damage}
use Rattle.fine_model.specs.declared.RunFault.TheVariants as run_fault
use Rattle.fine_model.specs.declared.ScriptTxn.{ScriptTxn}
use Rattle.fine_model.specs.Damages.{IsPlaceOrNode}
use Rattle.node_cache.specs.Cache.{Cache}
use Rattle.partition_hold.specs.Views.{ViewValue, state_of}
use Rattle.epoch_room.specs.Value.{RoomValue}
use Rattle.fine_places.specs.declared.model.Placed.{Placed}
use Rattle.fine_places.specs.History.{by_seat}
use Rattle.fine_hall.specs.declared.law.Beginning.{Beginning}
use Rattle.fine_hall.specs.declared.turn.Turn.{Turn}
use Rattle.fine_hall.specs.Laws.{AreTurns}
use Rattle.fine_hall.specs.Passes.{turns, own_turns, mine, troubles}
use Rattle.fine_hall.specs.Halls.{HallOf, SeesMore}
use Rattle.hall_rooms.specs.Rooms.{IsIdle, RoomPass, beginning_of}
use Rattle.hall_rooms.specs.Making.{Renews}
use Rattle.hall_rooms.specs.Turning.{MeetsNone, NotBegan}
use Rattle.lane_laws.specs.Lanes.{EndedBy, GoesOn, HasFull, LaneRuns, LaneValue, SawShut}
use Rattle.lane_laws.specs.Joined.{LaneDone}
use Rattle.lane_laws.specs.Quiet.{OpenOf, QuietOf}

-- The pass of the seat 1, by which room is made for lanes: it is idle, added nothing and sealed nothing.
pub record IsFirst {Q : Type 0} (hall : HallOf RoomValue Cache ViewValue Q) (first : RoomPass) : Type 0 where
  pub idle : IsIdle hall first
  pub number : first.number ≡ 1
  pub none_mine : mine first ≡ []
  pub quiet : QuietOf first.number (beginning_of hall).room (turns first)

-- The passes of lanes in their order, from the seat 2 on, and behind them that of the caller.
pub record AreOthers {Q : Type 0} (hall : HallOf RoomValue Cache ViewValue Q) (others : List RoomPass) : Type 0 where
  pub idle : (i : ℕ) (p : RoomPass) → get_elem? others i ≡ some p → IsIdle hall p
  pub numbers : (i : ℕ) (p : RoomPass) → get_elem? others i ≡ some p → p.number ≡ i + 2

-- A lane that goes on, with its pass, which met no fault and did not shut the room. None of its transactions was refused for a full log.
pub record IsAside (x : Beginning) (first : RoomPass) (script : List ScriptTxn) (group : ℕ) (p : RoomPass) (w : LaneValue) : Type 0 where
  pub goes_on : GoesOn w
  pub none_full : HasFull w → ⊥
  pub runs : LaneRuns x (turns first) script group p w
  pub clean : troubles state_of x p ≡ 0
  pub opened : OpenOf p.number x.room (turns p)

-- What was met for the lane, by its own pass and by that of the seat 1. (Where the room's count of faults stands at its last value, a failed call may show in no count of this pass.)
pub record MeetsRest (x : Beginning) (first first' p' : RoomPass) (w : LaneValue) : Type 0 where
  pub no_lower : (troubles state_of x first ≤ troubles state_of x first') ⊎ SawShut first'
  pub clean : (MeetsNone x first first' × (troubles state_of x p' ≡ 0)) ⊎ EndedBy run_fault.Disk w ⊎ EndedBy run_fault.Memory w
  pub opened : ((OpenOf first.number x.room (turns first) → OpenOf first'.number x.room (turns first')) × OpenOf p'.number x.room (turns p')) ⊎ EndedBy run_fault.Disk w ⊎ EndedBy run_fault.Memory w
  pub failed : EndedBy run_fault.Disk w → (troubles state_of x first < troubles state_of x first') ⊎ (0 < troubles state_of x p') ⊎ SawShut first' ⊎ SawShut p'
  pub unsound : (what : Damage) → EndedBy (run_fault.Damaged what) w → NotBegan x × IsPlaceOrNode what
  pub one : length w.work.left ≤ 1

-- The passes but that of the lane looked at their mailboxes, or are as they were.
abbrev pub RenewsBut : Beginning → ℕ → List RoomPass → List RoomPass → Type 0
RenewsBut x at old new =
    (i : ℕ) (p : RoomPass) → i ≢ at → get_elem? old i ≡ some p → (p' : RoomPass) × (get_elem? new i ≡ some p') × Renews x p p'

-- The pass of the seat 1 went on, and saw what it had seen.
abbrev pub SawBefore : RoomPass → RoomPass → Type 0
SawBefore first first' = (more : List (Placed Turn)) × (turns first' ≡ turns first ++ more)

-- All that the caller leaves of the lane.
pub record RunsRest {Q : Type 0} (hall : HallOf RoomValue Cache ViewValue Q) (script : List ScriptTxn) (group at : ℕ) (first first' : RoomPass) (others others' : List RoomPass) (w' : LaneValue) : Type 0 where
  pub first_is : IsFirst hall first'
  pub others_are : AreOthers hall others' × (length others' ≡ length others)
  pub saw : SawBefore first first'
  pub renews : RenewsBut (beginning_of hall) at others others'
  pub own : RoomPass
  pub own_is : get_elem? others' at ≡ some own
  pub done : LaneDone (beginning_of hall) (turns first') script group own w'
  pub meets : MeetsRest (beginning_of hall) first first' own w'

-- ---- a law

-- What a lane has stays as its pass sees more turns of others, and as that of the seat 1 sees more.
abbrev pub RunsStay : Type 0
RunsStay =
    (x : Beginning) (first more : List (Placed Turn)) (script : List ScriptTxn) (group : ℕ) (p p' : RoomPass) (w : LaneValue) → 1 ≤ group → p'.number ≡ p.number → own_turns p ≡ by_seat p.number (turns p) → SeesMore p p' → AreTurns x (turns p) → AreTurns x (turns p')
    → LaneRuns x first script group p w → LaneRuns x (first ++ more) script group p' w
