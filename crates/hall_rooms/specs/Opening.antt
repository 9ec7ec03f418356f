-- How a hall of rooms begins, and what comes back where it cannot.
use Rattle.std.specs.Prelude.{◌≡◌, ℕ, suc, ◌-◌, ◌*◌, ◌≤◌, true, false, List, [], ◌∷◌, ◌++◌, length, map, drop, replicate, reverse, Option, Some, None, Result, Ok, Err}
use Rattle.std.specs.List.{list_all}
use mathlib.Core.Option.{some}
use lib.ListN.{get_elem?}
use Rattle.fine_model.specs.declared.Row.{Row}
use Rattle.fine_model.specs.declared.law.OpenedEye.{OpenedEye}
use Rattle.fine_model.specs.declared.law.RoomState.{RoomState}
use Rattle.fine_model.specs.declared.law.ViewState.{ViewState}
use Rattle.fine_model.specs.Becomes.{Becomes}
use Rattle.fine_model.specs.Boards.{is_empty}
use Rattle.fine_model.specs.Buckets.{Began}
use Rattle.fine_model.specs.Faults.{HasRisen}
use Rattle.partition_hold.specs.Views.{ViewValue, state_of}
use Rattle.epoch_room.specs.Meaning.{Keeps, Stands, origin_of}
use Rattle.epoch_room.specs.Value.{RoomValue}
use Rattle.epoch_room.specs.declared.answers.RoomFault.{RoomFault}
use Rattle.epoch_room.specs.declared.answers.RoomFault.TheVariants as room_fault
use Rattle.fine_hall.specs.declared.law.Beginning.{Beginning}
use Rattle.fine_hall.specs.Laws.{beginning}
use Rattle.fine_hall.specs.Halls.{IsFreshView, first_board}
use Rattle.hall_rooms.specs.Rooms.{room_log}
use Rattle.hall_rooms.specs.Boards.{Names, faults_of}
use Rattle.hall_rooms.specs.Views.{with_eyes, with_faults}

-- The hall is one of so many seats on the log of this room, and its room at the beginning is this one, with views on its board, and is not shut.
pub record OpensHall (old : RoomValue) (seats : ℕ) (x : Beginning) : Type 0 where
  pub seats_are : x.seats ≡ seats
  pub log : x.log ≡ origin_of old.entry
  pub room : x.room ≡ with_eyes old.room x.room
  pub becomes : Becomes old.room x.room
  pub not_shut : x.room.is_shut ≡ false

-- why no hall was made: the disk failed as an eye was opened, and the room is shut; or it was shut before; or memory ran out
abbrev pub WhyNoHall : RoomState → RoomState → RoomFault → Type 0
WhyNoHall old new room_fault.Disk = (old.is_shut ≡ false) × (new.is_shut ≡ true) × HasRisen old.faults new.faults × HasRisen old.own_faults new.own_faults
WhyNoHall old new (room_fault.Shut epoch) = (old.is_shut ≡ true) × (epoch ≡ old.sealed) × (new ≡ with_eyes old new)
WhyNoHall old new room_fault.NoMemory = new ≡ with_eyes old new

-- No hall was made, and the room is as it was, with no view on its board, but for what the disk counts, and whether it is shut.
pub record HandsBack (old new : RoomValue) (fault : RoomFault) : Type 0 where
  pub board : list_all is_empty new.room.board ≡ true
  pub no_eyes : new.room.eyes ≡ []
  pub room : new.room ≡ with_faults old.room new.room
  pub target : new.target ≡ old.target
  pub entry : new.entry ≡ old.entry
  pub keeps : Keeps old new
  pub cause : WhyNoHall old.room new.room fault

-- ---- making the views

-- a room on which no hall stood
abbrev pub StandsAlone : RoomValue → Type 0
StandsAlone room = (e : ℕ) (first : List Row) → Began (origin_of room.entry) e first → Stands room first e []

-- the board of so many fronts, without middles
abbrev pub front_board : List ViewState → List (Option OpenedEye)
front_board [] = []
front_board (f ∷ fs) = Some f.eye ∷ None ∷ None ∷ front_board fs

-- each view is one of its seat, and shows the log at entry
abbrev pub AreFresh : RoomValue → ℕ → List ViewValue → Type 0
AreFresh old buffer views = (i : ℕ) (v : ViewValue) → get_elem? views i ≡ some v → IsFreshView (beginning 0 (room_log old) old.room state_of []) (suc i) buffer (state_of v)

-- The board names these views, the last one first, which met no fault; the room is as it was before they were made, but for the counts, and whether it is
-- shut.
pub record HasViews (old new : RoomValue) (views : List ViewValue) : Type 0 where
  pub names : Names new.room.board views
  pub clean : faults_of views ≡ 0
  pub room : new.room ≡ with_faults old.room new.room
  pub target : new.target ≡ old.target
  pub entry : new.entry ≡ old.entry
  pub keeps : Keeps old new

-- so many fronts were made
pub record MakesFronts (old new : RoomValue) (seats : ℕ) (fronts : List ViewValue) : Type 0 where
  pub out : HasViews old new (reverse fronts)
  pub same : new.room ≡ with_eyes old.room new.room
  pub board : new.room.board ≡ front_board (map state_of fronts) ++ replicate (3 * (seats - length fronts)) None
  pub fresh : AreFresh old 0 fronts
  pub is_open : 1 ≤ length fronts → old.room.is_shut ≡ false

-- and so many middles
pub record MakesMiddles (old new : RoomValue) (fronts middles : List ViewValue) : Type 0 where
  pub out : HasViews old new (reverse middles ++ reverse fronts)
  pub same : new.room ≡ with_eyes old.room new.room
  pub board : new.room.board ≡ first_board (map state_of fronts) (map state_of middles) ++ front_board (drop (length middles) (map state_of fronts))
  pub fresh_fronts : AreFresh old 0 fronts
  pub fresh_middles : AreFresh old 1 middles

-- not all views could be made
pub record LacksViews (old new : RoomValue) (views : List ViewValue) (fault : RoomFault) : Type 0 where
  pub out : HasViews old new views
  pub cause : WhyNoHall old.room new.room fault

abbrev pub MakesFrontsOr : RoomValue → RoomValue → ℕ → List ViewValue → Result (Unit {0}) RoomFault → Type 0
MakesFrontsOr old new seats fronts (Ok done) = (length fronts ≡ seats) × MakesFronts old new seats fronts
MakesFrontsOr old new seats fronts (Err fault) = LacksViews old new (reverse fronts) fault

abbrev pub MakesMiddlesOr : RoomValue → RoomValue → ℕ → List ViewValue → List ViewValue → Result (Unit {0}) RoomFault → Type 0
MakesMiddlesOr old new seats fronts middles (Ok done) = (length middles ≡ seats) × MakesMiddles old new fronts middles
MakesMiddlesOr old new seats fronts middles (Err fault) = LacksViews old new (reverse middles ++ reverse fronts) fault
