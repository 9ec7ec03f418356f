-- What becomes of one transaction of a script, which a pass tries to run.
use Rattle.std.specs.Prelude.{◌≡◌, ◌≢◌, ◌⊎◌, ℕ, ◌+◌, ◌<◌, ◌≤◌, ◌==◌, true, List, [], ◌∷◌, ◌++◌, length, take, count_by, Option, Some, None, Ok, ⊤}
use Rattle.std.specs.List.{AllByRecursion}
use Rattle.fine_model.specs.declared.Call.{Call}
use Rattle.fine_model.specs.declared.Ending.TheVariants as ending
use Rattle.fine_model.specs.declared.Outcome.{Outcome}
use Rattle.fine_model.specs.declared.Outcome.TheVariants as outcome
use Rattle.fine_model.specs.declared.Row.{Row}
use Rattle.fine_model.specs.declared.RunFault.{RunFault}
use Rattle.fine_model.specs.declared.RunFault.TheVariants as run_fault
use Rattle.fine_model.specs.declared.ScriptTxn.{ScriptTxn}
use Rattle.fine_model.specs.declared.Why.{Why}
use Rattle.fine_model.specs.declared.Why.TheVariants as why
use Rattle.fine_model.specs.Damages.{IsPlaceOrNode}
use Rattle.fine_model.specs.History.{Commit, all_rows}
use Rattle.fine_model.specs.Merge.{cost}
use Rattle.fine_model.specs.Outcomes.{HasRun, IsOutcomeOf, is_committed}
use Rattle.fine_model.specs.Pushed.{all_pushed}
use Rattle.fine_model.specs.RowBytes.{greatest, short_header}
use Rattle.fine_places.specs.declared.model.Placed.{Placed}
use Rattle.fine_hall.specs.declared.law.Beginning.{Beginning}
use Rattle.fine_hall.specs.declared.turn.Turn.{Turn}
use Rattle.fine_hall.specs.Passes.{turns, seen, mine, troubles, last_room}
use Rattle.fine_hall.specs.Halls.{SeesMore}
use Rattle.hall_rooms.specs.Rooms.{RoomPass}
use Rattle.hall_rooms.specs.Turning.{MeetsNone, NotBegan}
use Rattle.partition_hold.specs.Views.{state_of}
use Rattle.run_laws.specs.Runs.{IsReplied}
use Rattle.lane_laws.specs.Lanes.{CauseAt, InNeed, OfBegan, Owes, SawShut}
use Rattle.lane_laws.specs.Placing.{placed_by}
use Rattle.lane_laws.specs.Quiet.{OpenOf, QuietBut}
use Rattle.lane_laws.specs.Works.{placed_of}
use Rattle.txn_tries.specs.declared.turn.TurnEnd.{TurnEnd}
use Rattle.txn_tries.specs.declared.turn.TurnEnd.TheVariants as turn_end

-- ---- what a pass's turns did

-- The pass saw more turns, of which its own committed these, each at its place.
pub record AddsPlaced (p p' : RoomPass) (placed : List (ℕ × Commit)) : Type 0 where
  pub more : List (Placed Turn)
  pub turns_more : turns p' ≡ turns p ++ more
  pub placed_is : placed_by p.number (length (seen p)) more ≡ placed

-- no call of the pass failed, and no turn of its own shut the room
pub record MeetsNothing (x : Beginning) (p p' : RoomPass) (more : List (Placed Turn)) : Type 0 where
  pub meets : MeetsNone x p p'
  pub opened : OpenOf p.number (last_room x p) more

-- ---- how it ended

-- the outcome that it came to: that of its end, or that which stands though a fault came after its commit
abbrev pub outcomes_of : TurnEnd → List Outcome
outcomes_of (turn_end.Done o) = o ∷ []
outcomes_of (turn_end.Ended (Some o) fault) = o ∷ []
outcomes_of _ = []

-- an outcome of the transaction with this number, which was run; a commit has this number and the replies of some map
abbrev pub IsCommitOf : ℕ → Outcome → Type 0
IsCommitOf turn (outcome.Committed place epoch entry) = (entry.turn ≡ turn) × IsReplied (record { entry = entry; epoch = epoch })
IsCommitOf turn _ = ⊤

pub record IsEndOf (txn : ScriptTxn) (turn : ℕ) (o : Outcome) : Type 0 where
  pub of : IsOutcomeOf txn o
  pub run : HasRun o
  pub commit : IsCommitOf turn o
  pub not_full : o ≢ outcome.Refused why.Full

-- It was refused after k commits of those that the pass then saw, none of which is behind those that it saw before.
pub record RefusedNow (x : Beginning) (p p' : RoomPass) (calls : List Call) (word : Why) : Type 0 where
  pub k : ℕ
  pub low : length (seen p) ≤ k
  pub within : k ≤ length (seen p')
  pub holds : OfBegan x (λ rows. CauseAt x.room.region_len (rows ++ all_rows (take k (seen p'))) (turns p') calls word)

-- fewer own commits than a group are in the epoch that is open as far as the pass saw
abbrev pub StaysFew : ℕ → Beginning → RoomPass → Type 0
StaysFew group x p = count_by (λ c. c.epoch == (last_room x p).sealed + 1) (mine p) < group

-- where no other seat adds or seals: the rows of the calls fit a region alone, nothing waits, and some number is left
pub record IsFullFor (calls : List Call) (x : Beginning) (p : RoomPass) (before : List Row) : Type 0 where
  pub rows : List Row
  pub pushed : all_pushed (before ++ all_rows (seen p)) calls ≡ Ok rows
  pub alone : short_header + cost rows ≤ x.room.region_len
  pub none_waits : (last_room x p).waiting ≡ 0
  pub left : (last_room x p).sealed < greatest

-- what the last epoch may have been sealed for beside its group, where the next transaction is another one, the same one, or none
abbrev pub NextOwes : TurnEnd → ScriptTxn → Beginning → RoomPass → List Row → Type 0
NextOwes (turn_end.Done o) txn x p before = ⊥
NextOwes turn_end.Tried txn x p before = Owes txn x p before
NextOwes turn_end.Full txn x p before = Owes txn x p before
NextOwes (turn_end.Ended kept fault) txn x p before = ⊤

-- Where no other seat adds or seals, what epochs were sealed for goes on. The premise on places is that of a history whose places are not at their limit.
abbrev pub NeedsGoOn : ℕ → ScriptTxn → Beginning → RoomPass → RoomPass → TurnEnd → Type 0
NeedsGoOn group txn x p p' end = QuietBut p.number x.room (turns p') → length (seen p) < greatest
    → OfBegan x (λ before. InNeed group x p (Owes txn x p before) → InNeed group x p' (NextOwes end txn x p' before))

-- what each end says beside
abbrev pub EndsSo : Beginning → List Call → RoomPass → RoomPass → List (Placed Turn) → TurnEnd → Type 0
EndsSo x calls p p' more (turn_end.Done o) = MeetsNothing x p p' more × ((word : Why) → o ≡ outcome.Refused word → RefusedNow x p p' calls word)
EndsSo x calls p p' more turn_end.Tried = MeetsNothing x p p' more
EndsSo x calls p p' more turn_end.Full = MeetsNothing x p p' more × (QuietBut p.number x.room (turns p') → OfBegan x (λ before. IsFullFor calls x p' before))
EndsSo x calls p p' more (turn_end.Ended kept run_fault.Disk) = (0 < troubles state_of x p') ⊎ SawShut p'
EndsSo x calls p p' more (turn_end.Ended kept run_fault.Memory) = ⊤
EndsSo x calls p p' more (turn_end.Ended kept (run_fault.Damaged what)) = MeetsNothing x p p' more × NotBegan x × IsPlaceOrNode what

-- A transaction with its number was tried: the pass added its commit, if it was committed, and nothing else.
pub record RunsTurn (x : Beginning) (group : ℕ) (txn : ScriptTxn) (turn : ℕ) (p p' : RoomPass) (end : TurnEnd) : Type 0 where
  pub adds : AddsPlaced p p' (placed_of (outcomes_of end))
  pub outcomes : AllByRecursion (IsEndOf txn turn) (outcomes_of end)
  pub ends : EndsSo x txn.calls p p' adds.more end
  pub few : (o : Outcome) → end ≡ turn_end.Done o → StaysFew group x p' ⊎ (mine p' ≡ mine p)
  pub needs : NeedsGoOn group txn x p p' end
  -- an outcome beside a fault is a commit, and a full log is met by a transaction that the script commits
  pub kept : (o : Outcome) (fault : RunFault) → end ≡ turn_end.Ended (Some o) fault → is_committed o ≡ true
  pub commits : end ≡ turn_end.Full → txn.ending ≡ ending.Commit

-- ---- where the log is known to be full

-- an outcome without a commit: an abort, or a refusal; one for a full log has no cause here
abbrev pub RefusedOrFull : Beginning → List Call → RoomPass → RoomPass → Outcome → Type 0
RefusedOrFull x calls p p' (outcome.Refused why.Full) = ⊤
RefusedOrFull x calls p p' (outcome.Refused word) = RefusedNow x p p' calls word
RefusedOrFull x calls p p' outcome.Aborted = ⊤
RefusedOrFull x calls p p' _ = ⊥

-- what each end says: no transaction is committed, and no fault comes after a commit
abbrev pub RefusesSo : Beginning → ScriptTxn → RoomPass → RoomPass → TurnEnd → Type 0
RefusesSo x txn p p' (turn_end.Done o) = MeetsNone x p p' × IsOutcomeOf txn o × RefusedOrFull x txn.calls p p' o
RefusesSo x txn p p' turn_end.Tried = MeetsNone x p p'
RefusesSo x txn p p' turn_end.Full = ⊥
RefusesSo x txn p p' (turn_end.Ended (Some o) fault) = ⊥
RefusesSo x txn p p' (turn_end.Ended None run_fault.Disk) = 0 < troubles state_of x p'
RefusesSo x txn p p' (turn_end.Ended None run_fault.Memory) = ⊤
RefusesSo x txn p p' (turn_end.Ended None (run_fault.Damaged what)) = MeetsNone x p p' × NotBegan x × IsPlaceOrNode what

-- A transaction was answered and undone, without a turn of the room.
pub record RefusesTurn (x : Beginning) (txn : ScriptTxn) (p p' : RoomPass) (end : TurnEnd) : Type 0 where
  pub sees : SeesMore p p'
  pub ends : RefusesSo x txn p p' end
