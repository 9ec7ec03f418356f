-- What the steps of a room on one thread mean for a run, as statements.
use Rattle.std.specs.Prelude.{◌≡◌, ◌+◌, ◌≤◌, if◌then◌else◌, List, length, None, Option, Some, Contains}
use Rattle.fine_model.specs.declared.RunFault.{RunFault}
use Rattle.fine_model.specs.History.{Commit}
use Rattle.epoch_room.specs.Value.{RoomValue}
use Rattle.room_merges.specs.Near.{KeepsRest}
use Rattle.room_shelf.specs.Shelves.{ShelfValue, total}
use Rattle.run_laws.specs.Going.{StaysOn}
use Rattle.run_laws.specs.Lanes.{is_disk, lanes_failed, most_lanes}
use Rattle.run_laws.specs.Runs.{IsReady}
use Rattle.run_laws.specs.SoFar.{AreTold, GoesOn}
use Rattle.run_laws.specs.Told.{TellsMore}
use Rattle.room_steps.specs.Steps.{FaultOf, NoneFailed}

-- merging adds and seals nothing
abbrev pub MergesStay : Type 0
MergesStay = (old new : RoomValue) → old.room.job ≡ None → KeepsRest old new → StaysOn old new

-- where no call failed, what faults tell stays
abbrev pub ToldStill : Type 0
ToldStill = (old new : ShelfValue) (entry : RoomValue) (ended told : List (Option RunFault)) → NoneFailed old new → AreTold entry old.room (total old) ended told → AreTold entry new.room (total new) ended told

-- a fault that is told now, and may have ended a lane
pub record TellsNow (ended after told more : List (Option RunFault)) (fault : RunFault) : Type 0 where
  pub adds : TellsMore told more fault
  pub lanes : length after ≡ most_lanes
  pub counted : lanes_failed after ≤ lanes_failed ended + (if is_disk (Some fault) then 1 else 0)
  pub all : (other : RunFault) → Contains after (Some other) → Contains more (Some other)

-- with the fault that a step answered
abbrev pub ToldWith : Type 0
ToldWith =
    (old new : ShelfValue) (entry : RoomValue) (history : List Commit) (ended after told more : List (Option RunFault)) (fault : RunFault) → IsReady entry → GoesOn entry new.room history → FaultOf old new fault
    → TellsNow ended after told more fault → AreTold entry old.room (total old) ended told → AreTold entry new.room (total new) after more
