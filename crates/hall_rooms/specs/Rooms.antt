-- A store's rooms, buckets and views, as a hall reads them.
use Rattle.std.specs.Prelude.{ℕ}
use Rattle.fine_model.specs.declared.law.Origin.{Origin}
use Rattle.fine_model.specs.declared.law.RoomState.{RoomState}
use Rattle.node_cache.specs.Cache.{Cache}
use Rattle.partition_hold.specs.Views.{ViewValue, state_of}
use Rattle.epoch_room.specs.Meaning.{origin_of}
use Rattle.epoch_room.specs.Value.{RoomValue}
use Rattle.fine_hall.specs.declared.law.Beginning.{Beginning}
use Rattle.fine_hall.specs.declared.pass.Pass.{Pass}
use Rattle.fine_hall.specs.Passes.{HoldsNothing, LacksJob}
use Rattle.fine_hall.specs.Halls.{HallOf, IsPassOf, begun}

abbrev pub room_state : RoomValue → RoomState
room_state room = room.room

abbrev pub room_log : RoomValue → Origin
room_log room = origin_of room.entry

abbrev pub bucket_number : Cache → ℕ
bucket_number b = b.bucket

-- a pass by whose front nodes are read
abbrev pub RoomPass : Type 0
RoomPass = Pass ViewValue

-- how a hall of rooms began
abbrev pub beginning_of : {Q : Type 0} → HallOf RoomValue Cache ViewValue Q → Beginning
beginning_of hall = begun room_state room_log state_of hall

-- a pass of such a hall
abbrev pub IsRoomPass : {Q : Type 0} → HallOf RoomValue Cache ViewValue Q → RoomPass → Type 0
IsRoomPass hall p = IsPassOf room_state room_log state_of hall p

-- a pass of it that holds nothing, and has no merge out
abbrev pub IsIdle : {Q : Type 0} → HallOf RoomValue Cache ViewValue Q → RoomPass → Type 0
IsIdle hall p = IsRoomPass hall p × HoldsNothing p × LacksJob (beginning_of hall) p
