-- A pass at rest, and one in the midst of a transaction.
use Rattle.std.specs.Prelude.{◌≡◌, ◌≤◌, ℕ, List, [], ◌++◌}
use Rattle.fine_places.specs.History as places
use Rattle.node_cache.specs.Cache.{Cache}
use Rattle.partition_hold.specs.Views.{ViewValue}
use Rattle.epoch_room.specs.Value.{RoomValue}
use Rattle.fine_boxes.specs.declared.model.Mark.{Mark}
use Rattle.fine_hall.specs.declared.turn.Turn.{Turn}
use Rattle.fine_hall.specs.Halls.{HallOf}
use Rattle.fine_hall.specs.Passes.{marks, own_turns, LacksJob, LacksPlace}
use Rattle.hall_rooms.specs.Rooms.{IsIdle, IsRoomPass, RoomPass, beginning_of}
use Rattle.txn_engine.specs.Txns.{IsOpenTxn}
use Rattle.txn_engine.specs.declared.txn.Txn.{Txn}

-- a pass of a hall that holds nothing, and has no merge out
pub record IsAtRest {Q : Type 0} (hall : HallOf RoomValue Cache ViewValue Q) (p : RoomPass) : Type 0 where
  pub idle : IsIdle hall p

-- its transaction is open, and it holds neither the room nor a merge
pub record IsGoing {Q : Type 0} (hall : HallOf RoomValue Cache ViewValue Q) (t : Txn) (p : RoomPass) : Type 0 where
  pub pass : IsRoomPass hall p
  pub is_open : IsOpenTxn (beginning_of hall) t p
  pub room : LacksPlace p places.room
  pub job : LacksJob (beginning_of hall) p

-- so it is of both seats of a hall of two
pub record AreGoing {Q : Type 0} (hall : HallOf RoomValue Cache ViewValue Q) (t : Txn) (p : RoomPass) (u : Txn) (q : RoomPass) : Type 0 where
  pub one : IsGoing hall t p × (p.number ≡ 1)
  pub two : IsGoing hall u q × (q.number ≡ 2)

-- The passes of both seats of a hall of two, which are at rest, and the empty list that its end takes, with this capacity.
pub record AreTwo {Q : Type 0} (hall : HallOf RoomValue Cache ViewValue Q) (p q : RoomPass) (memory : List ViewValue) (capacity : ℕ) : Type 0 where
  pub seats : (beginning_of hall).seats ≡ 2
  pub one : IsAtRest hall p
  pub two : IsAtRest hall q
  pub numbers : (p.number ≡ 1) × (q.number ≡ 2)
  pub spare : (memory ≡ []) × (4 ≤ capacity)

-- it is a pass of the same seat, which had no turn since
abbrev pub StaysOwn : RoomPass → RoomPass → Type 0
StaysOwn p p' = (p'.number ≡ p.number) × (own_turns p' ≡ own_turns p)

-- the fronts that it had stay among its marks, behind those that it has since
abbrev pub KeepsMarks : RoomPass → RoomPass → Type 0
KeepsMarks p p' = (newer : List (Mark Turn)) × (marks p' ≡ newer ++ marks p)
