-- A turn of a pass in which views are posted, and nothing is sealed.
use Rattle.std.specs.Prelude.{◌≡◌, ℕ, ◌<◌, true, false, Result, Ok, Err}
use Rattle.fine_model.specs.declared.law.RoomState.{RoomState}
use Rattle.epoch_room.specs.declared.answers.RoomFault.{RoomFault}
use Rattle.epoch_room.specs.declared.answers.RoomFault.TheVariants as room_fault
use Rattle.fine_hall.specs.declared.law.Beginning.{Beginning}
use Rattle.fine_hall.specs.Passes.{published}
use Rattle.hall_rooms.specs.Rooms.{RoomPass}
use Rattle.hall_rooms.specs.Views.{with_faults}
use Rattle.hall_rooms.specs.Turning.{DidInTurn, MeetsNone, MeetsSome, RenewsSeats, StaysIdle}

-- a state with the board, the eyes and the count of all faults of another
abbrev pub with_posted : RoomState → RoomState → RoomState
with_posted room other = record room { board = other.board; eyes = other.eyes; given = other.given; faults = other.faults }

-- Each of the first seats, so many, has a new view of all live parts. Nothing else changed but the eyes and the count of all faults: what waited waits
-- still.
pub record PostsAll (found room : RoomState) (seats : ℕ) : Type 0 where
  pub same : room ≡ with_posted found room
  pub board : RenewsSeats seats found.given room.parts found.board room.board

-- So it is of some first seats, and not of all: none could be made for the next one. Nothing else changed but the eyes, the counts of faults, and
-- whether the room is shut.
pub record PostsFirst (seats : ℕ) (old new : RoomState) : Type 0 where
  pub upto : ℕ
  pub not_all : upto < seats
  pub same : new ≡ with_faults old new
  pub board : RenewsSeats upto old.given new.parts old.board new.board

-- Views were posted to all seats and the sealed epoch was published, or it came so far; the pass met a fault after `Disk` alone.
abbrev pub PostsTurn : Beginning → RoomState → RoomState → RoomPass → RoomPass → Result ℕ RoomFault → Type 0
PostsTurn x found room p p' (Ok epoch) = (found.is_shut ≡ false) × (epoch ≡ room.sealed) × (published p' ≡ epoch) × PostsAll found room x.seats × MeetsNone x p p'
PostsTurn x found room p p' (Err room_fault.Disk) = (found.is_shut ≡ false) × (room.is_shut ≡ true) × PostsFirst x.seats found room × MeetsSome x p p'
PostsTurn x found room p p' (Err (room_fault.Shut epoch)) = (found.is_shut ≡ true) × (epoch ≡ found.sealed) × (room ≡ found) × MeetsNone x p p'
PostsTurn x found room p p' (Err room_fault.NoMemory) = (found.is_shut ≡ false) × (room.is_shut ≡ false) × PostsFirst x.seats found room × MeetsNone x p p'

-- one turn without an entry, in which views are posted to all seats, and nothing is sealed
abbrev pub ShowsViews : Beginning → RoomPass → RoomPass → Result ℕ RoomFault → Type 0
ShowsViews x p p' r = DidInTurn x p p' (λ found room. PostsTurn x found room p p' r)

-- a pass that holds nothing and has no merge out is such a pass after such a turn
abbrev pub ShowsIdle : Type 0
ShowsIdle = (r : Result ℕ RoomFault) → StaysIdle (λ x p p'. ShowsViews x p p' r)
