-- One try of a lane's next transaction.
use Rattle.std.specs.Prelude.{◌≡◌, ℕ, ◌<◌, List, ◌∷◌, ◌++◌, length, slice_get, Option, Some, None, ⊤}
use Rattle.fine_model.specs.declared.Ending.TheVariants as ending
use Rattle.fine_model.specs.declared.Outcome.{Outcome}
use Rattle.fine_model.specs.declared.ScriptTxn.{ScriptTxn}
use Rattle.fine_places.specs.declared.model.Placed.{Placed}
use Rattle.fine_hall.specs.declared.law.Beginning.{Beginning}
use Rattle.fine_hall.specs.declared.turn.Turn.{Turn}
use Rattle.fine_hall.specs.Passes.{turns, troubles}
use Rattle.hall_rooms.specs.Rooms.{RoomPass}
use Rattle.partition_hold.specs.Views.{state_of}
use Rattle.lane_laws.specs.Lanes.{GoesOn, HasFull, HasMet, LaneRuns, LaneValue, OfBegan}
use Rattle.lane_laws.specs.Quiet.{OpenOf, QuietBut}
use Rattle.txn_tries.specs.declared.turn.TurnEnd.{TurnEnd}
use Rattle.txn_tries.specs.declared.turn.TurnEnd.TheVariants as turn_end
use Rattle.txn_tries.specs.Turns.{IsFullFor}
use Rattle.lane_runs.specs.declared.step.Went.{Went}
use Rattle.lane_runs.specs.declared.step.Went.TheVariants as went
use Rattle.lane_runs.specs.Lane.{next_of, with_fault, with_outcome}

-- the transaction at a place of the script, from 0, is the next one of a lane that goes on
pub record StandsNext (script : List ScriptTxn) (w : LaneValue) (i : ℕ) : Type 0 where
  pub goes_on : GoesOn w
  pub next_at : next_of w ≡ Some i
  pub within : i < length script

-- and none of the lane was refused for a full log
pub record IsNextOf (script : List ScriptTxn) (w : LaneValue) (i : ℕ) : Type 0 where
  pub next : StandsNext script w i
  pub open next use *
  pub none_full : HasFull w → ⊥

-- the lane after a try
abbrev pub taken : LaneValue → TurnEnd → LaneValue
taken w (turn_end.Done o) = with_outcome w o
taken w turn_end.Tried = w
taken w turn_end.Full = w
taken w (turn_end.Ended None fault) = with_fault w fault
taken w (turn_end.Ended (Some o) fault) = with_fault (with_outcome w o) fault

-- how a try went
abbrev pub went_of : TurnEnd → Went
went_of (turn_end.Done o) = went.On
went_of turn_end.Tried = went.Tried
went_of turn_end.Full = went.Full
went_of (turn_end.Ended kept fault) = went.On

-- the calls of the pass met no fault, and its turns did not shut the room
pub record IsClean (x : Beginning) (p : RoomPass) : Type 0 where
  pub troubles : troubles state_of x p ≡ 0
  pub opened : OpenOf p.number x.room (turns p)

-- the lane is as it was, but where it went on
abbrev pub StaysBut : Went → LaneValue → LaneValue → Type 0
StaysBut went.On w w' = ⊤
StaysBut went.Tried w w' = w' ≡ w
StaysBut went.Full w w' = w' ≡ w

-- The log was full for the transaction, which the script commits: where no other seat adds or seals, and the log was told at entry and sound, its rows are told.
pub record MetFull (x : Beginning) (script : List ScriptTxn) (i : ℕ) (p : RoomPass) : Type 0 where
  pub commits : (txn : ScriptTxn) → slice_get script i ≡ Some txn → txn.ending ≡ ending.Commit
  pub holds : (txn : ScriptTxn) → slice_get script i ≡ Some txn → QuietBut p.number x.room (turns p) → OfBegan x (IsFullFor txn.calls x p)

abbrev pub FullFor : Went → Beginning → List ScriptTxn → ℕ → RoomPass → Type 0
FullFor went.Full x script i p' = MetFull x script i p'
FullFor went.On x script i p' = ⊤
FullFor went.Tried x script i p' = ⊤

-- a try of the transaction at a place of the script by a pass, for the lane
pub record StepsLane (x : Beginning) (script : List ScriptTxn) (group i : ℕ) (p p' : RoomPass) (w w' : LaneValue) (how : Went) : Type 0 where
  pub runs : (first : List (Placed Turn)) → LaneRuns x first script group p w → LaneRuns x first script group p' w'
  pub met : IsClean x p → HasMet x p' w'
  pub none_full : HasFull w' → ⊥
  pub stays : StaysBut how w w'
  pub full : FullFor how x script i p'
