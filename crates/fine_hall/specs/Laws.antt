-- What the turns of a hall are, and what a room, a bucket and a view stand for after them.
use Rattle.std.specs.Prelude.{◌≡◌, ℕ, ◌+◌, ◌==◌, ◌<◌, ◌≤◌, List, [], ◌++◌, length, map, count_by, Option, Some, None, option_map, ⊤}
use Rattle.std.proofs.Common.{arith}
use Rattle.fine_model.specs.declared.Entry.{Entry}
use Rattle.fine_model.specs.declared.Row.{Row}
use Rattle.fine_model.specs.Nodes.{Content, Agrees}
use Rattle.fine_model.specs.History.{Commit, IsLegal, all_rows, upto}
use Rattle.fine_model.specs.Outcomes.{EpochsFollow}
use Rattle.fine_model.specs.Room.{IsSealedUpTo}
use Rattle.fine_model.specs.Buckets.{Began, IsBucketFor}
use Rattle.fine_model.proofs.Histories.Goings.{buckets_on}
use Rattle.fine_model.specs.declared.law.Origin.{Origin}
use Rattle.fine_model.specs.declared.law.RoomState.{RoomState}
use Rattle.fine_model.specs.declared.law.ViewState.{ViewState}
use Rattle.fine_model.specs.declared.law.OpenedEye.{OpenedEye}
use Rattle.fine_model.specs.Views.{TellsRows}
use Rattle.fine_places.specs.declared.model.Placed.{Placed}
use Rattle.fine_places.specs.History as places
use Rattle.fine_boxes.specs.declared.model.Reads.{Reads}
use Rattle.fine_boxes.specs.declared.model.TurnNote.{TurnNote}
use Rattle.fine_hall.specs.declared.turn.Turn.{Turn}
use Rattle.fine_hall.specs.declared.law.Beginning.{Beginning}
use Rattle.fine_hall.specs.declared.law.Load.{Load}
use Rattle.fine_hall.specs.declared.law.Load.TheVariants as load
use Rattle.fine_hall.specs.Turns.{commits, room_after, RoomsGoOn}

-- ---- at entry

-- how a hall of so many seats began, by the log, the room and the fronts
abbrev pub beginning : {V : Type 0} → ℕ → Origin → RoomState → (V → ViewState) → List V → Beginning
beginning seats log room view fronts = record { seats = seats; log = log; room = room; fronts = map view fronts }

-- ---- the history

-- Turns make a legal history where the log at entry was told and sound, the room goes on from one to the next, and counts the entries.
pub record AreTurns (x : Beginning) (turns : List (Placed Turn)) : Type 0 where
  pub legal : (e : ℕ) (first : List Row) → Began x.log e first → IsLegal first (commits turns)
  pub rooms : RoomsGoOn x.room turns
  pub places : (room_after x.room turns).places ≡ length (commits turns)

-- ---- the room

-- the epochs of a history behind the epoch at entry, up to which one it is sealed, and how many of it wait
pub record CountsEpochs (x : Beginning) (room : RoomState) (history : List Commit) : Type 0 where
  pub follow : EpochsFollow x.room.sealed history
  pub sealed : IsSealedUpTo x.room.sealed history room.sealed
  pub waiting : room.waiting ≡ count_by (λ c. c.epoch == room.sealed + 1) history

module _ {R : Type 0} (state : R → RoomState) (origin : R → Origin) (stands_for : R → List Row → ℕ → List Commit → Type 0) where
  -- The room is that of the log at entry, as it was given back last, and stands for the history, while this epoch is published.
  pub record IsRoomFor (x : Beginning) (published : ℕ) (room : R) (turns : List (Placed Turn)) : Type 0 where
    pub log : origin room ≡ x.log
    pub last : state room ≡ room_after x.room turns
    pub stands : (e : ℕ) (first : List Row) → Began x.log e first → stands_for room first e (commits turns)
    pub places : (state room).places ≡ length (commits turns)
    pub epochs : CountsEpochs x (state room) (commits turns)
    pub sealed : published ≤ (state room).sealed

-- ---- a view

-- A view on this log: where the log at entry was told and sound, it tells rows that agree with those of the log and of the history up to
-- its epoch, which is not below the one that was sealed at entry.
pub record IsViewFor (x : Beginning) (history : List Commit) (v : ViewState) : Type 0 where
  pub region_len : v.region_len ≡ x.room.region_len
  pub since : x.room.sealed ≤ v.upto
  pub tells : (e : ℕ) (first : List Row) → Began x.log e first → (rows : List Row) × TellsRows v rows × Agrees rows (first ++ all_rows (upto history v.upto))

-- so of the commits of turns
abbrev pub ShowsTurns : Beginning → List (Placed Turn) → ViewState → Type 0
ShowsTurns x turns v = IsViewFor x (commits turns) v

-- an entry of the turn is of a later epoch
abbrev pub IsAboveEpoch : ℕ → ℕ → Option Entry → Type 0
IsAboveEpoch u epoch None = ⊤
IsAboveEpoch u epoch (Some entry) = u < epoch

-- so of the turn with its own epoch
abbrev pub IsAbove : ℕ → Turn → Type 0
IsAbove u t = IsAboveEpoch u t.epoch t.entry

-- ---- what lies in a slot

module _ {R B V : Type 0} (state : R → RoomState) (origin : R → Origin) (stands_for : R → List Row → ℕ → List Commit → Type 0) (bucket : B → ℕ) (cached : B → ℕ → Option (Content × ℕ)) (is_settled : B → Type 0) where
  abbrev pub Stands : Beginning → ℕ → ℕ → Load R B V → List (Placed Turn) → Type 0
  Stands x k published (load.Room room entry epoch backs) turns = (k ≡ places.room) × IsRoomFor state origin stands_for x published room turns
  Stands x k published (load.Bucket b) turns = (k < places.room) × IsBucketFor bucket cached is_settled x.log k published b (commits turns)
  Stands x k published (load.View v) turns = ⊥

  pub grows : (x : Beginning) (k p q : ℕ) (thing : Load R B V) (turns : List (Placed Turn)) → k < places.room → p ≤ q → Stands x k p thing turns → Stands x k q thing turns
  grows x k p q (load.Room room entry epoch backs) turns near le s = absurd (not_itself k places.room near s.0)
    where
      not_itself : (a b : ℕ) → a < b → a ≡ b → ⊥
      not_itself a b near e = omega arith
  grows x k p q (load.View v) turns near le s = absurd s
  grows x k p q (load.Bucket b) turns near le s = (s.0, buckets_on bucket cached is_settled x.log k p q b (commits turns) le s.1)

-- the counts of the old middles that the holder of the room was handed
abbrev pub in_hand_of : Option TurnNote → ℕ
in_hand_of None = 0
in_hand_of (Some t) = t.in_hand

-- the turn that a load adds to the history: one of a room alone
abbrev pub adds : {R B V : Type 0} → (R → RoomState) → Reads Turn → Load R B V → Option Turn
adds state y (load.Room room entry epoch backs) = Some (record { entry = option_map (λ note. note.value) entry; epoch = epoch; room = state room; returned = in_hand_of y.turn })
adds state y (load.Bucket b) = None
adds state y (load.View v) = None

-- the view in a load
abbrev pub view_in : {R B V : Type 0} → (V → ViewState) → Load R B V → Option ViewState
view_in view (load.View v) = Some (view v)
view_in view _ = None

-- the board of the room in a load
abbrev pub board_in : {R B V : Type 0} → (R → RoomState) → Load R B V → List (Option OpenedEye)
board_in state (load.Room room entry epoch backs) = (state room).board
board_in state _ = []

-- the sealed epoch of the room in a load
abbrev pub sealed_in : {R B V : Type 0} → (R → RoomState) → Load R B V → ℕ
sealed_in state (load.Room room entry epoch backs) = (state room).sealed
sealed_in state _ = 0

-- the backs that the holder of a room keeps
abbrev pub backs_in : {R B V : Type 0} → Load R B V → List ℕ
backs_in (load.Room room entry epoch backs) = backs
backs_in _ = []
