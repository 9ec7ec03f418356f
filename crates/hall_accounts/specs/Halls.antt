-- Rooms on which halls are opened.
use Rattle.std.specs.Prelude.{◌≡◌, ℕ, ◌+◌, true, None, List, []}
use Rattle.std.specs.List.{list_all}
use mathlib.Core.Option.{some}
use lib.ListN.{get_elem?}
use Rattle.fine_model.specs.Boards.{is_empty}
use Rattle.fine_model.specs.Buckets.{Began}
use Rattle.fine_hall.specs.Passes.{own_turns}
use Rattle.epoch_room.specs.Meaning.{origin_of}
use Rattle.epoch_room.specs.Value.{RoomValue}
use Rattle.hall_rooms.specs.Opening.{StandsAlone}
use Rattle.hall_rooms.specs.Rooms.{RoomPass}

-- a room on which no hall stood, with nothing out and no entry; its log was told, and has no rows
pub record IsNewRoom (room : RoomValue) : Type 0 where
  pub board : list_all is_empty room.room.board ≡ true
  pub job : room.room.job ≡ None
  pub places : room.room.places ≡ 0
  pub waiting : room.room.waiting ≡ 0
  pub stands : StandsAlone room
  pub new : Began (origin_of room.entry) 0 []

-- passes from the greatest number down, which had no turn yet
pub record AreFresh (seats : ℕ) (passes : List RoomPass) : Type 0 where
  pub numbers : (i : ℕ) (p : RoomPass) → get_elem? passes i ≡ some p → p.number + i ≡ seats
  pub none : (i : ℕ) (p : RoomPass) → get_elem? passes i ≡ some p → own_turns p ≡ []
