-- The laws of rooms, as statements.
use Rattle.std.specs.Prelude.{ℕ}
use Rattle.partition_hold.specs.Views.{ViewValue}
use Rattle.epoch_room.specs.Meaning.{Keeps}
use Rattle.epoch_room.specs.Returns.{IsPosted}
use Rattle.epoch_room.specs.Value.{RoomValue}
use Rattle.epoch_room.specs.Views.{Views}

-- what one call keeps and then another one, both keep
abbrev pub KeepsOn : Type 0
KeepsOn = (a b c : RoomValue) → Keeps a b → Keeps b c → Keeps a c

-- a view that was made is on the board
abbrev pub ViewsArePosted : Type 0
ViewsArePosted = (old new : RoomValue) (seat : ℕ) (view : ViewValue) → Views old new seat view → IsPosted new.room view
