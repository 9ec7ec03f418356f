-- What transactions left, and what two threads did.
use Rattle.std.specs.Prelude.{◌≡◌, ◌<◌, ◌≤◌, List, [], ◌∷◌, ◌++◌, map, length, All}
use Rattle.fine_model.specs.History.{Commit, IsLegal}
use Rattle.fine_places.specs.declared.model.Placed.{Placed}
use Rattle.fine_places.specs.History.{by_seat}
use Rattle.node_cache.specs.Cache.{Cache}
use Rattle.partition_hold.specs.Views.{ViewValue}
use Rattle.epoch_room.specs.Meaning.{Stands}
use Rattle.epoch_room.specs.Value.{RoomValue}
use Rattle.fine_hall.specs.declared.turn.Turn.{Turn}
use Rattle.fine_hall.specs.Turns.{commits}
use Rattle.fine_hall.specs.Halls.{HallOf}
use Rattle.fine_hall.specs.Passes.{mine}
use Rattle.hall_rooms.specs.Rooms.{RoomPass}
use Rattle.txn_engine.specs.declared.txn.Committed.{Committed}
use Rattle.txn_engine.specs.declared.txn.Txn.{Txn}
use Rattle.txn_engine.specs.Txns.{IsBlankTxn}
use Rattle.hall_accounts.specs.Going.{IsAtRest}
use Rattle.hall_accounts.specs.declared.transfers.Ended.{Ended}
use Rattle.hall_accounts.specs.declared.transfers.Ended.TheVariants as ended

-- a commit that was handed out
abbrev pub commit_of : Committed → Commit
commit_of done = record { entry = done.entry; epoch = done.stamp.epoch }

abbrev pub commits_of : List Committed → List Commit
commits_of done = map commit_of done

-- a pass committed what the transaction that ended so handed out, and else nothing
abbrev pub Adds : RoomPass → RoomPass → Ended → Type 0
Adds p p' (ended.Committed done) = mine p' ≡ mine p ++ commit_of done ∷ []
Adds p p' (ended.Refused fault) = mine p' ≡ mine p
Adds p p' (ended.NoPlace cause) = mine p' ≡ mine p

-- A transaction ended so: the pass is at rest again, the transaction is free, and what it committed was added.
pub record EndsTxn {Q : Type 0} (hall : HallOf RoomValue Cache ViewValue Q) (t : Txn) (p p' : RoomPass) (end : Ended) : Type 0 where
  pub idle : IsAtRest hall p' × (p'.number ≡ p.number)
  pub free : IsBlankTxn t
  pub adds : Adds p p' end

-- and so a list keeps it
abbrev pub IsKept : List Committed → Ended → List Committed → Type 0
IsKept old (ended.Committed done) new = new ≡ old ++ done ∷ []
IsKept old (ended.Refused fault) new = new ≡ old
IsKept old (ended.NoPlace cause) new = new ≡ old

-- these are all commits of a pass, in their order
abbrev pub AreMine : RoomPass → List Committed → Type 0
AreMine p done = mine p ≡ commits_of done

-- a pass at rest, and all its commits in their order
pub record IsWorker {Q : Type 0} (hall : HallOf RoomValue Cache ViewValue Q) (p : RoomPass) (done : List Committed) : Type 0 where
  pub idle : IsAtRest hall p
  pub mine : AreMine p done

-- a pass at rest and a free transaction, and all commits of the pass, in their order
pub record KeepsAll {Q : Type 0} (hall : HallOf RoomValue Cache ViewValue Q) (t : Txn) (p : RoomPass) (done : List Committed) : Type 0 where
  pub idle : IsAtRest hall p
  pub free : IsBlankTxn t
  pub mine : AreMine p done

-- There is one history of two seats, in which each entry has the store's replies, on a log without rows. What each seat committed is what its thread was
-- handed, each once and in this order; nobody else committed, and the room stands for the history.
pub record IsRunOfTwo (first second : List Committed) (room : RoomValue) : Type 0 where
  pub all : List (Placed Turn)
  pub authors : All (λ t. (0 < t.seat) × (t.seat ≤ 2)) all
  pub legal : IsLegal [] (commits all)
  pub did_first : commits (by_seat 1 all) ≡ commits_of first
  pub did_second : commits (by_seat 2 all) ≡ commits_of second
  pub places : room.room.places ≡ length (commits all)
  pub stands : Stands room [] 0 (commits all)
