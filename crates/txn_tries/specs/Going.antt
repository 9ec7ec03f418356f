-- A pass in the midst of a transaction, and what came to nothing.
use Rattle.std.specs.Prelude.{◌≡◌, ℕ, ◌<◌, false, List, [], length}
use Rattle.std.specs.List.{AllZip}
use Rattle.fine_model.specs.declared.Ending.TheVariants as ending
use Rattle.fine_model.specs.declared.Row.{Row}
use Rattle.fine_model.specs.declared.ScriptTxn.{ScriptTxn}
use Rattle.fine_model.specs.RowBytes.{greatest}
use Rattle.fine_model.specs.Store.{IsReplyTo}
use Rattle.txn_draft.specs.Drafts.{DraftValue}
use Rattle.fine_places.specs.History as places
use Rattle.node_cache.specs.Cache.{Cache}
use Rattle.partition_hold.specs.Views.{ViewValue}
use Rattle.epoch_room.specs.Value.{RoomValue}
use Rattle.fine_hall.specs.declared.law.Beginning.{Beginning}
use Rattle.fine_hall.specs.Halls.{HallOf, SeesMore}
use Rattle.fine_hall.specs.Passes.{LacksJob, LacksPlace, last_room, mine, seen, turns}
use Rattle.hall_rooms.specs.Rooms.{IsIdle, IsRoomPass, RoomPass, beginning_of}
use Rattle.hall_rooms.specs.Turning.{MeetsNone}
use Rattle.txn_engine.specs.declared.txn.Txn.{Txn}
use Rattle.txn_engine.specs.Txns.{IsBlankTxn, IsOpenTxn}
use Rattle.lane_laws.specs.Lanes.{InNeed, OfBegan, Owes}
use Rattle.lane_laws.specs.Quiet.{QuietBut}
use Rattle.txn_tries.specs.Turns.{AddsPlaced, MeetsNothing}

-- a transaction is open, and its pass holds neither the room nor a merge
pub record IsGoing {Q : Type 0} (hall : HallOf RoomValue Cache ViewValue Q) (t : Txn) (p : RoomPass) : Type 0 where
  pub pass : IsRoomPass hall p
  pub is_open : IsOpenTxn (beginning_of hall) t p
  pub room : LacksPlace p places.room
  pub job : LacksJob (beginning_of hall) p

-- no transaction is open, and its pass, which is of the seat with this number, has nothing
pub record IsAtRest {Q : Type 0} (hall : HallOf RoomValue Cache ViewValue Q) (number : ℕ) (t : Txn) (p : RoomPass) : Type 0 where
  pub idle : IsIdle hall p × (p.number ≡ number)
  pub blank : IsBlankTxn t

-- a draft may be committed: no call wanted memory, and each has its reply
pub record IsCommittable (d : DraftValue) : Type 0 where
  pub replied : AllZip IsReplyTo d.calls d.replies
  pub not_failed : d.failed ≡ false

-- the transaction of a script that commits a draft
abbrev pub txn_of : DraftValue → ScriptTxn
txn_of d = record { lane = d.lane; calls = d.calls; ending = ending.Commit }

-- the pass saw turns of others alone, and met nothing
pub record OnlySees (x : Beginning) (p p' : RoomPass) : Type 0 where
  pub number : p'.number ≡ p.number
  pub sees : SeesMore p p'
  pub meets : MeetsNone x p p'

-- Where no other seat adds or seals, what epochs were sealed for goes on: with P of the last one before, and with Q after.
abbrev pub NeedsOn : ℕ → Beginning → RoomPass → RoomPass → (List Row → Type 0) → (List Row → Type 0) → Type 0
NeedsOn group x p p' P Q = QuietBut p.number x.room (turns p') → length (seen p) < greatest → OfBegan x (λ before. InNeed group x p (P before) → InNeed group x p' (Q before))

-- The pass committed nothing, and what epochs were sealed for goes on to Q.
pub record AddsNone (group : ℕ) (txn : ScriptTxn) (x : Beginning) (p p' : RoomPass) (Q : List Row → Type 0) : Type 0 where
  pub number : p'.number ≡ p.number
  pub adds : AddsPlaced p p' []
  pub mine_same : mine p' ≡ mine p
  pub needs : NeedsOn group x p p' (Owes txn x p) Q

-- The transaction came to nothing so far: the pass committed nothing and met nothing, and sealed only what left too little room for it.
pub record Waits (group : ℕ) (txn : ScriptTxn) (x : Beginning) (p p' : RoomPass) : Type 0 where
  pub none : AddsNone group txn x p p' (Owes txn x p')
  pub open none use *
  pub meets : MeetsNothing x p p' adds.more
  pub same_seen : QuietBut p.number x.room (turns p') → seen p' ≡ seen p
