-- What taking a view back makes of a room.
use Rattle.std.specs.Prelude.{◌≡◌, Some, None, slice_get, slice_set}
use Rattle.fine_model.specs.declared.law.RoomState.{RoomState}
use Rattle.fine_model.specs.Boards.{buffer_at}
use Rattle.log_disk.specs.Disk.{Closes}
use Rattle.partition_hold.specs.Views.{ViewValue, opened}
use Rattle.epoch_room.specs.Value.{RoomValue}
use Rattle.epoch_room.specs.Steps.{Steps}

-- the eye of a view stands on the board, in the view's buffer
abbrev pub IsPosted : RoomState → ViewValue → Type 0
IsPosted room view = slice_get room.board (buffer_at view.seat view.buffer) ≡ Some (Some (opened view.eye))

-- the eye was closed, which adds its count to the disk's, and the buffer is empty
pub record TakesBack (old new : RoomValue) (view : ViewValue) : Type 0 where
  pub closes : Closes view.eye old.disk new.disk
  pub room : Steps (record old.room { board = slice_set old.room.board (buffer_at view.seat view.buffer) None }) old.target old new
