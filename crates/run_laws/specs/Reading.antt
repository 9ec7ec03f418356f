-- What the body on one thread reads through a view of what is sealed.
use Rattle.std.specs.Prelude.{◌≡◌, false, List, ◌++◌, Option}
use Rattle.fine_model.specs.declared.Row.{Row}
use Rattle.fine_model.specs.History.{Commit, IsLegal, all_rows, upto}
use Rattle.fine_model.specs.Nodes.{Agrees}
use Rattle.partition_hold.specs.Sources.{tells_rows}
use Rattle.partition_hold.specs.Views.{ViewValue}
use Rattle.epoch_room.specs.Value.{RoomValue}
use Rattle.room_shelf.specs.Shelves.{ShowsLog, TellsNone, shelf}
use Rattle.run_laws.specs.Runs.{OfSound}
use Rattle.run_laws.specs.SoFar.{GoesOn}

-- the rows that the view tells agree with the log at entry and the commits up to the view's epoch
abbrev pub SeesLaw : Type 0
SeesLaw =
    (entry room : RoomValue) (view : ViewValue) (history : List Commit) → GoesOn entry room history → ShowsLog room.room view
    → OfSound entry (λ first e. (rows : List Row) × tells_rows view rows × Agrees rows (first ++ all_rows (upto history view.upto)))

-- and the commits are legal there
abbrev pub LegalLaw : Type 0
LegalLaw = (entry room : RoomValue) (history : List Commit) → GoesOn entry room history → OfSound entry (λ first e. IsLegal first history)

-- damage that a load names is on an unsound log
abbrev pub UnsoundLaw : Type 0
UnsoundLaw = (entry room : RoomValue) (out : Option ViewValue) (history : List Commit) → GoesOn entry room history → room.room.is_shut ≡ false → TellsNone (shelf room out) → OfSound entry (λ first e. ⊥)
