-- What making a view makes of a room.
use Rattle.std.specs.Prelude.{◌≡◌, ℕ, false, List, [], ◌++◌, slice_set, IfOk, Option, Some, None, Result, Ok, Err, ⊤}
use Rattle.fine_model.specs.declared.Row.{Row}
use Rattle.fine_model.specs.Jobs.{KeepsJob}
use Rattle.fine_model.specs.Nodes.{Agrees}
use Rattle.fine_model.specs.History.{Commit, all_rows, upto}
use Rattle.fine_model.specs.Boards.{empty_of, buffer_at}
use Rattle.fine_model.specs.Views.{TellsRows}
use Rattle.log_disk.specs.Disk.{Told, Opens}
use Rattle.partition_hold.specs.Views.{ViewValue, opened, state_of}
use Rattle.epoch_room.specs.Value.{RoomValue, all_regions}
use Rattle.epoch_room.specs.Steps.{Does, Shuts, WasShut}
use Rattle.epoch_room.specs.Meaning.{Keeps, Stands}
use Rattle.epoch_room.specs.declared.answers.RoomFault.{RoomFault}
use Rattle.epoch_room.specs.declared.answers.RoomFault.TheVariants as room_fault

-- a view was made for a seat, of all live parts, and its eye was posted in the seat's lowest empty buffer
pub record Views (old new : RoomValue) (seat : ℕ) (view : ViewValue) : Type 0 where
  pub of_seat : view.seat ≡ seat
  pub buffer : empty_of old.room.board seat ≡ Some view.buffer
  pub parts : view.parts ≡ old.room.parts
  pub upto : view.upto ≡ old.room.sealed
  pub region_len : view.region_len ≡ old.room.region_len
  pub opens : Opens (all_regions old.room.parts) view.eye old.disk new.disk
  pub posts : Does (record old.room { board = slice_set old.room.board (buffer_at seat view.buffer) (Some (opened view.eye)) }) old.target old new

-- an eye that fails shuts the room, and loses nothing
abbrev pub ViewsOr : RoomValue → RoomValue → ℕ → Result ViewValue RoomFault → Type 0
ViewsOr old new seat (Ok view) = Views old new seat view
ViewsOr old new seat (Err room_fault.Disk) = Shuts old.room old.target [] old new × (new.disk.told ≡ old.disk.told)
ViewsOr old new seat (Err (room_fault.Shut epoch)) = WasShut epoch old new
ViewsOr old new seat (Err room_fault.NoMemory) = (old.room.is_shut ≡ false) × (new ≡ old)

-- where the disk tells its bytes, the view's rows agree with the log at entry and the history up to the view's epoch
abbrev pub AgreesUpTo : Option Told → ViewValue → List Row → List Commit → Type 0
AgreesUpTo None view first history = ⊤
AgreesUpTo (Some told) view first history = (rows : List Row) × TellsRows (state_of view) rows × Agrees rows (first ++ all_rows (upto history view.upto))

abbrev pub ViewsLog : RoomValue → ViewValue → Type 0
ViewsLog old view = (first : List Row) (e : ℕ) (history : List Commit) → Stands old first e history → AgreesUpTo old.disk.told view first history

-- all that making a view does
pub record MakesView (old new : RoomValue) (seat : ℕ) (result : Result ViewValue RoomFault) : Type 0 where
  pub room : ViewsOr old new seat result
  pub log : IfOk result (ViewsLog old)
  pub keeps : Keeps old new
  pub job : KeepsJob old.room new.room
