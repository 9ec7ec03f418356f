-- How a transaction whose calls were answered is committed, and how its group is sealed.
use Rattle.std.specs.Prelude.{◌≡◌, ◌⊎◌, ℕ, ◌+◌, ◌<◌, ◌≤◌, Bool, true, [], ◌∷◌, Contains, Option, Some, None, Result, Ok, Err}
use Rattle.fine_model.specs.declared.Ending.TheVariants as ending
use Rattle.fine_model.specs.declared.Outcome.{Outcome}
use Rattle.fine_model.specs.declared.Outcome.TheVariants as outcome
use Rattle.fine_model.specs.declared.RunFault.{RunFault}
use Rattle.fine_model.specs.declared.RunFault.TheVariants as run_fault
use Rattle.fine_model.specs.declared.ScriptTxn.{ScriptTxn}
use Rattle.fine_model.specs.Damages.{IsPlaceOrNode}
use Rattle.node_cache.specs.Cache.{Cache}
use Rattle.partition_hold.specs.Views.{ViewValue, state_of}
use Rattle.epoch_room.specs.Value.{RoomValue}
use Rattle.fine_places.specs.declared.model.Placed.{Placed}
use Rattle.fine_hall.specs.declared.law.Beginning.{Beginning}
use Rattle.fine_hall.specs.declared.turn.Turn.{Turn}
use Rattle.fine_hall.specs.Halls.{HallOf}
use Rattle.fine_hall.specs.Laws.{CountsEpochs}
use Rattle.fine_hall.specs.Passes.{last_room, mine, seen, troubles, turns}
use Rattle.hall_rooms.specs.Rooms.{RoomPass, beginning_of}
use Rattle.hall_rooms.specs.Turning.{NotBegan}
use Rattle.txn_engine.specs.declared.txn.Committed.{Committed}
use Rattle.txn_engine.specs.declared.txn.Txn.{Txn}
use Rattle.lane_laws.specs.Lanes.{InNeed, OfBegan, Owes, SawShut}
use Rattle.lane_laws.specs.Quiet.{QuietBut}
use Rattle.txn_tries.specs.declared.committing.CommitEnd.{CommitEnd}
use Rattle.txn_tries.specs.declared.committing.CommitEnd.TheVariants as commit_end
use Rattle.txn_tries.specs.declared.turn.TurnEnd.{TurnEnd}
use Rattle.txn_tries.specs.declared.turn.TurnEnd.TheVariants as turn_end
use Rattle.txn_tries.specs.Turns.{AddsPlaced, IsEndOf, IsFullFor, MeetsNothing, RefusesTurn, RunsTurn}
use Rattle.txn_tries.specs.Going.{AddsNone, IsAtRest, IsGoing, NeedsOn, OnlySees, Waits, txn_of}
use Rattle.txn_tries.specs.Answering.{EndsWithout}

-- ---- the group of the open epoch

-- The last epoch is sealed in need, and what waits is a group.
pub record IsGroupDue (group : ℕ) (x : Beginning) (p : RoomPass) : Type 0 where
  pub needed : InNeed group x p ⊥
  pub due : ((last_room x p).waiting ≡ 0) ⊎ (group ≤ (last_room x p).waiting)

-- The pass sealed what waited, once or more often, and committed nothing; then P, where no other seat adds or seals and a group was due before.
pub record SealsDue (group : ℕ) (x : Beginning) (p p' : RoomPass) (P : RoomPass → Type 0) : Type 0 where
  pub number : p'.number ≡ p.number
  pub adds : AddsPlaced p p' []
  pub mine_same : mine p' ≡ mine p
  pub needs : QuietBut p.number x.room (turns p') → IsGroupDue group x p → P p'

-- a fault of a seal, which is no damage
abbrev pub IsFaultOf : RoomPass → RunFault → Type 0
IsFaultOf p' run_fault.Disk = SawShut p'
IsFaultOf p' run_fault.Memory = Unit {0}
IsFaultOf p' (run_fault.Damaged what) = ⊥

-- so far a group is due still, and was met nothing
pub record SealsOn (group : ℕ) (x : Beginning) (p p' : RoomPass) : Type 0 where
  pub seals : SealsDue group x p p' (IsGroupDue group x)
  pub open seals use *
  pub meets : MeetsNothing x p p' adds.more

-- One seal: whether the epoch is sealed now, or what fault came.
abbrev pub SealsOnce : ℕ → Beginning → ℕ → RoomPass → RoomPass → Result Bool RunFault → Type 0
SealsOnce group x epoch p p' (Ok done) = SealsOn group x p p' × (done ≡ true → epoch ≤ (last_room x p').sealed)
SealsOnce group x epoch p p' (Err fault) = SealsDue group x p p' (λ q. InNeed group x q (Unit {0})) × IsFaultOf p' fault

-- an epoch is sealed, or a fault came
abbrev pub SealsUpTo : ℕ → Beginning → ℕ → RoomPass → RoomPass → Result (Unit {0}) RunFault → Type 0
SealsUpTo group x epoch p p' (Ok done) = SealsOn group x p p' × (epoch ≤ (last_room x p').sealed)
SealsUpTo group x epoch p p' (Err fault) = SealsDue group x p p' (λ q. InNeed group x q (Unit {0})) × IsFaultOf p' fault

-- ---- a commit

abbrev pub committed_as : Committed → Outcome
committed_as done = outcome.Committed done.stamp.place done.stamp.epoch done.entry

-- The transaction was committed, and what waits since is not sealed yet.
pub record IsPlaced (group : ℕ) (txn : ScriptTxn) (turn : ℕ) (x : Beginning) (p p' : RoomPass) (done : Committed) : Type 0 where
  pub number : p'.number ≡ p.number
  pub adds : AddsPlaced p p' ((done.stamp.place, record { entry = done.entry; epoch = done.stamp.epoch }) ∷ [])
  pub meets : MeetsNothing x p p' adds.more
  pub outcome_is : IsEndOf txn turn (committed_as done)
  pub counts : CountsEpochs x (last_room x p') (seen p')
  pub waits : done.waiting ≡ (last_room x p').waiting
  pub epoch : done.stamp.epoch ≡ (last_room x p').sealed + 1
  pub needs : NeedsOn group x p p' (Owes txn x p) (λ before. ⊥)

-- ---- an end without a commit

-- what each such end says: the pass committed nothing, and a refusal or a full log has its cause
abbrev pub Unplaced : ℕ → ScriptTxn → Beginning → RoomPass → RoomPass → TurnEnd → Type 0
Unplaced group txn x p p' (turn_end.Done o) = Waits group txn x p p' × EndsWithout x txn p p' o
Unplaced group txn x p p' turn_end.Tried = Waits group txn x p p'
Unplaced group txn x p p' turn_end.Full = Waits group txn x p p' × (QuietBut p.number x.room (turns p') → OfBegan x (IsFullFor txn.calls x p')) × (txn.ending ≡ ending.Commit)
Unplaced group txn x p p' (turn_end.Ended (Some o) fault) = ⊥
Unplaced group txn x p p' (turn_end.Ended None run_fault.Disk) = AddsNone group txn x p p' (λ before. Unit {0}) × ((0 < troubles state_of x p') ⊎ SawShut p')
Unplaced group txn x p p' (turn_end.Ended None run_fault.Memory) = AddsNone group txn x p p' (λ before. Unit {0})
Unplaced group txn x p p' (turn_end.Ended None (run_fault.Damaged what)) = Waits group txn x p p' × NotBegan x × IsPlaceOrNode what

-- the last turn that a pass saw
pub record HasLast (x : Beginning) (p : RoomPass) : Type 0 where
  pub turn : Placed Turn
  pub there : Contains (turns p) turn
  pub is : turn.item.room ≡ last_room x p

-- after a refusal of the room the epoch was sealed to make place, or the transaction, which is open still, is to end so
abbrev pub MakesPlace : {Q : Type 0} → HallOf RoomValue Cache ViewValue Q → ℕ → Txn → RoomPass → RoomPass → Option TurnEnd → Type 0
MakesPlace hall group t p p' None = IsGoing hall t p' × Waits group (txn_of t.draft) (beginning_of hall) p p'
MakesPlace hall group t p p' (Some end) = IsGoing hall t p' × (p'.number ≡ p.number) × Unplaced group (txn_of t.draft) (beginning_of hall) p p' end

-- what one try to commit comes to: the epoch was sealed to make place, the transaction was committed, or it came to an end without
abbrev pub TriesToCommit : {Q : Type 0} → HallOf RoomValue Cache ViewValue Q → ℕ → Txn → Txn → RoomPass → RoomPass → Option CommitEnd → Type 0
TriesToCommit hall group t t' p p' None = IsGoing hall t' p' × (t'.draft ≡ t.draft) × Waits group (txn_of t.draft) (beginning_of hall) p p'
TriesToCommit hall group t t' p p' (Some (commit_end.Placed done)) = IsAtRest hall p.number t' p' × IsPlaced group (txn_of t.draft) t.draft.turn (beginning_of hall) p p' done
TriesToCommit hall group t t' p p' (Some (commit_end.Over end)) = IsAtRest hall p.number t' p' × Unplaced group (txn_of t.draft) (beginning_of hall) p p' end

-- what all of them come to
abbrev pub CommitsAtLast : {Q : Type 0} → HallOf RoomValue Cache ViewValue Q → ℕ → Txn → Txn → RoomPass → RoomPass → CommitEnd → Type 0
CommitsAtLast hall group t t' p p' end = TriesToCommit hall group t t' p p' (Some end)

-- ---- a transaction, tried once or more often

-- it came to this end
pub record FinishesTurn {Q : Type 0} (hall : HallOf RoomValue Cache ViewValue Q) (group : ℕ) (txn : ScriptTxn) (turn : ℕ) (t : Txn) (p p' : RoomPass) (end : TurnEnd) : Type 0 where
  pub rest : IsAtRest hall p.number t p'
  pub runs : RunsTurn (beginning_of hall) group txn turn p p' end

-- A try met a bucket that another seat held, and is undone, or it came to an end.
abbrev pub TriesTurn : {Q : Type 0} → HallOf RoomValue Cache ViewValue Q → ℕ → ScriptTxn → ℕ → Txn → RoomPass → RoomPass → Option TurnEnd → Type 0
TriesTurn hall group txn turn t p p' None = IsAtRest hall p.number t p' × Waits group txn (beginning_of hall) p p'
TriesTurn hall group txn turn t p p' (Some end) = FinishesTurn hall group txn turn t p p' end

-- so where the log is known to be full
pub record RefusesOnFull {Q : Type 0} (hall : HallOf RoomValue Cache ViewValue Q) (txn : ScriptTxn) (t : Txn) (p p' : RoomPass) (end : TurnEnd) : Type 0 where
  pub rest : IsAtRest hall p.number t p'
  pub refuses : RefusesTurn (beginning_of hall) txn p p' end

abbrev pub TriesOnFull : {Q : Type 0} → HallOf RoomValue Cache ViewValue Q → ScriptTxn → Txn → RoomPass → RoomPass → Option TurnEnd → Type 0
TriesOnFull hall txn t p p' None = IsAtRest hall p.number t p' × OnlySees (beginning_of hall) p p'
TriesOnFull hall txn t p p' (Some end) = RefusesOnFull hall txn t p p' end
