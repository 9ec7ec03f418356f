-- A view that is made on a room, and a room on which none could be made.
use Rattle.std.specs.Prelude.{◌≡◌, ℕ, true, false, List, [], ◌∷◌, ◌++◌, Contains, Some, Result, Ok, Err, slice_set}
use Rattle.fine_model.specs.declared.Row.{Row}
use Rattle.fine_model.specs.declared.law.RoomState.{RoomState}
use Rattle.fine_model.specs.Boards.{buffer_at}
use Rattle.fine_model.specs.Buckets.{Began}
use Rattle.fine_model.specs.Faults.{HasRisen}
use Rattle.fine_model.specs.History.{Commit, all_rows, upto}
use Rattle.fine_model.specs.Jobs.{KeepsJob}
use Rattle.fine_model.specs.Nodes.{Agrees}
use Rattle.fine_model.specs.Views.{TellsRows}
use Rattle.partition_hold.specs.Views.{ViewValue, opened, state_of}
use Rattle.epoch_room.specs.Meaning.{Keeps, Stands, origin_of}
use Rattle.epoch_room.specs.Value.{RoomValue, all_regions}
use Rattle.epoch_room.specs.Views.{Views}
use Rattle.epoch_room.specs.declared.answers.RoomFault.{RoomFault}
use Rattle.epoch_room.specs.declared.answers.RoomFault.TheVariants as room_fault

-- a state with the board and the eyes of another
abbrev pub with_eyes : RoomState → RoomState → RoomState
with_eyes room other = record room { board = other.board; eyes = other.eyes; given = other.given }

-- and with its counts, and shut where that one is
abbrev pub with_faults : RoomState → RoomState → RoomState
with_faults room other = record (with_eyes room other) { is_shut = other.is_shut; faults = other.faults; own_faults = other.own_faults }

-- what making a view leaves, whatever it answers
pub record LeavesLog (old new : RoomValue) : Type 0 where
  pub target : new.target ≡ old.target
  pub entry : new.entry ≡ old.entry
  pub keeps : Keeps old new
  pub job : KeepsJob old.room new.room

-- a view tells rows that agree with the log at entry and a history up to the view's epoch
abbrev pub ShowsUpTo : ViewValue → List Row → List Commit → Type 0
ShowsUpTo view first history = (rows : List Row) × TellsRows (state_of view) rows × Agrees rows (first ++ all_rows (upto history view.upto))

-- A view of all live parts was made, in the lowest empty buffer of a seat. Where the log at entry was told and sound, it tells rows that agree with
-- each history that the room stands for, up to the last sealed epoch.
pub record MakesView (old new : RoomValue) (seat : ℕ) (view : ViewValue) : Type 0 where
  pub views : Views old new seat view
  pub open views use *
  pub of_parts : view.eye.regions ≡ all_regions old.room.parts
  pub clean : view.eye.faults ≡ 0
  pub is_new : Contains old.room.given view.eye.number → ⊥
  pub given : new.room.given ≡ old.room.given ++ view.eye.number ∷ []
  pub board : new.room.board ≡ slice_set old.room.board (buffer_at seat view.buffer) (Some (opened view.eye))
  pub not_shut : old.room.is_shut ≡ false
  pub room : new.room ≡ with_eyes old.room new.room
  pub leaves : LeavesLog old new
  pub tells : (e : ℕ) (first : List Row) (history : List Commit) → Began (origin_of old.entry) e first → Stands old first e history → ShowsUpTo view first history

-- The disk failed as the eye was opened, and the room is shut.
pub record FailsToSee (old new : RoomValue) : Type 0 where
  pub was_open : old.room.is_shut ≡ false
  pub is_shut : new.room.is_shut ≡ true
  pub faults : HasRisen old.room.faults new.room.faults
  pub own_faults : HasRisen old.room.own_faults new.room.own_faults
  pub board : new.room.board ≡ old.room.board
  pub room : new.room ≡ with_faults old.room new.room
  pub leaves : LeavesLog old new

abbrev pub MakesViewOr : RoomValue → RoomValue → ℕ → Result ViewValue RoomFault → Type 0
MakesViewOr old new seat (Ok view) = MakesView old new seat view
MakesViewOr old new seat (Err room_fault.Disk) = FailsToSee old new
MakesViewOr old new seat (Err (room_fault.Shut epoch)) = (old.room.is_shut ≡ true) × (epoch ≡ old.room.sealed) × (new ≡ old)
MakesViewOr old new seat (Err room_fault.NoMemory) = (old.room.is_shut ≡ false) × (new ≡ old)
