-- What the live parts of a room are made of, as the youngest are gathered, neighbours are merged and epochs are sealed.
use Rattle.std.specs.Prelude.{◌≡◌, ℕ, List, ◌++◌, Some}
use Rattle.fine_model.specs.declared.NodeId.{NodeId}
use Rattle.fine_model.specs.declared.Part.{Part}
use Rattle.fine_model.specs.declared.Row.{Row}
use Rattle.fine_model.specs.Nodes.{rows_of}
use Rattle.fine_model.specs.Regions.{Image}
use Rattle.damage_laws.specs.Counts.{CountFrom}
use Rattle.damage_laws.specs.Made.{AreMadeOf, all_of}
use Rattle.damage_laws.specs.Places.{AreKeptOrGood}
use Rattle.epoch_room.specs.Value.{RoomValue}

-- of each node, rows have versions that go up by one, as rows that calls push have
abbrev pub AreCounted : List Row → Type 0
AreCounted rows = (id : NodeId) → (version : ℕ) × CountFrom version (rows_of id rows)

-- What the live parts were made of by the bytes of an earlier moment, that the live parts behind are made of, in the grammar or not, and of these lists of rows, which were sealed since.
abbrev pub MakesWith : List (List Row) → RoomValue → RoomValue → Type 0
MakesWith more old new =
    (entry first last : Image) (parts : List Part) (sealed : List (List Row)) → old.room.image ≡ Some first → new.room.image ≡ Some last
    → AreMadeOf old.room.region_len entry first parts sealed old.room.parts → AreMadeOf old.room.region_len entry last parts (sealed ++ more) new.room.parts

-- Where each live part was one of those at an earlier moment, with the bytes that it had then, or in the grammar, each live part behind is: what is sealed, gathered or merged is in the grammar.
abbrev pub KeepsGood : RoomValue → RoomValue → Type 0
KeepsGood old new =
    (entry first last : Image) (parts : List Part) → old.room.image ≡ Some first → new.room.image ≡ Some last
    → AreKeptOrGood old.room.region_len entry first parts old.room.parts → AreKeptOrGood old.room.region_len entry last parts new.room.parts

-- what becomes of the live parts, where these lists of rows were sealed
pub record LivesOn (more : List (List Row)) (old new : RoomValue) : Type 0 where
  pub makes : MakesWith more old new
  pub good : KeepsGood old new

-- The rows of the open epoch were sealed, epoch by epoch, or are open still. Where their versions count, the live parts are made of these epochs' rows too.
pub record MadeOn (old new : RoomValue) : Type 0 where
  pub more : List (List Row)
  pub rows : all_of more ++ new.room.open_rows ≡ old.room.open_rows
  pub lives : AreCounted old.room.open_rows → LivesOn more old new
