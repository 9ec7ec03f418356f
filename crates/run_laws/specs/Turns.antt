-- Outcomes in the order of a script.
use Rattle.std.specs.Prelude.{◌≡◌, ◌⊎◌, ℕ, ◌+◌, ◌<◌, ◌≤◌, ◌==◌, List, [], ◌∷◌, ◌++◌, take, count_by, Option, Some, None, Ok, Err, ⊤, slice_get}
use Rattle.std.specs.List.{AllZip, filter_map}
use Rattle.fine_model.specs.declared.Call.{Call}
use Rattle.fine_model.specs.declared.Outcome.{Outcome}
use Rattle.fine_model.specs.declared.Outcome.TheVariants as outcome
use Rattle.fine_model.specs.declared.Row.{Row}
use Rattle.fine_model.specs.declared.ScriptTxn.{ScriptTxn}
use Rattle.fine_model.specs.declared.Why.{Why}
use Rattle.fine_model.specs.declared.Why.TheVariants as why
use Rattle.fine_model.specs.declared.law.RoomState.{RoomState}
use Rattle.fine_model.specs.Becomes.{Becomes, IsStuck}
use Rattle.fine_model.specs.Causes.{HaveCauses}
use Rattle.fine_model.specs.History.{Commit, all_rows, upto}
use Rattle.fine_model.specs.Merge.{cost}
use Rattle.fine_model.specs.Outcomes.{AreOutcomes, EpochsFollow, InLaneOrder, IsCommittedAt, IsOutcomeOf}
use Rattle.fine_model.specs.Pushed.{all_pushed}
use Rattle.fine_model.specs.Regions.{Image}
use Rattle.fine_model.specs.Room.{HoldsLive, IsSealedUpTo}
use Rattle.fine_model.specs.RowBytes.{greatest, short_header}

-- the commit of an outcome, and those of outcomes in their order
abbrev pub commit_of : Outcome → Option Commit
commit_of (outcome.Committed place epoch entry) = Some (record { entry = entry; epoch = epoch })
commit_of _ = None

abbrev pub commits_of : List Outcome → List Commit
commits_of outcomes = filter_map commit_of outcomes

-- The committed transactions have the places behind a number, in their order, and their turns are those behind another.
abbrev pub AreNumbered : ℕ → ℕ → List Outcome → Type 0
AreNumbered turn place [] = ⊤
AreNumbered turn place (outcome.Committed at epoch entry ∷ outcomes) = (at ≡ place + 1) × (entry.turn ≡ turn + 1) × AreNumbered (turn + 1) (place + 1) outcomes
AreNumbered turn place (_ ∷ outcomes) = AreNumbered (turn + 1) place outcomes

-- what a lane did not run are its last transactions
abbrev pub EndsLanes : List ScriptTxn → List Outcome → Type 0
EndsLanes script outcomes = (i j : ℕ) → InLaneOrder script i j → slice_get outcomes i ≡ Some outcome.NotRun → slice_get outcomes j ≡ Some outcome.NotRun

-- nothing is committed after a transaction that is refused as full
abbrev pub NoneBehindFull : List Outcome → Type 0
NoneBehindFull outcomes = (i j place : ℕ) (c : Commit) → i < j → slice_get outcomes i ≡ Some (outcome.Refused why.Full) → IsCommittedAt outcomes j place c → ⊥

-- Where transactions are run one after another, in the order of the script, their outcomes are those of the history of their commits.
abbrev pub InTurnLaw : Type 0
InTurnLaw =
    (script : List ScriptTxn) (e : ℕ) (outcomes : List Outcome) → AllZip IsOutcomeOf script outcomes → AreNumbered 0 0 outcomes → EndsLanes script outcomes → EpochsFollow e (commits_of outcomes)
    → AreOutcomes script e outcomes (commits_of outcomes)

-- ---- why transactions were refused

-- A transaction was refused after some rows, by a room: that it is stuck, or has sealed the last epoch, stays so as it goes on.
abbrev pub RefusesBehind : RoomState → List Row → List Call → Why → Type 0
RefusesBehind room before calls why.Large = (rows : List Row) × (all_pushed before calls ≡ Ok rows) × (room.region_len < short_header + cost rows)
RefusesBehind room before calls why.Bucket = all_pushed before calls ≡ Err why.Bucket
RefusesBehind room before calls why.Number = (all_pushed before calls ≡ Err why.Number) ⊎ (room.sealed ≡ greatest)
RefusesBehind room before calls why.Full = IsStuck room

abbrev pub StaysRefused : Type 0
StaysRefused = (old new : RoomState) (before : List Row) (calls : List Call) (word : Why) → Becomes old new → new.sealed ≤ greatest → RefusesBehind old before calls word → RefusesBehind new before calls word

-- each refused transaction was refused after the commits before it
pub record AreRefused (script : List ScriptTxn) (outcomes : List Outcome) (room : RoomState) (first : List Row) : Type 0 where
  pub each : (i : ℕ) (txn : ScriptTxn) (word : Why) → slice_get script i ≡ Some txn → slice_get outcomes i ≡ Some (outcome.Refused word)
      → RefusesBehind room (first ++ all_rows (commits_of (take i outcomes))) txn.calls word

-- Then each has its cause, by what a read of the disk of a room gives that holds the log of their commits.
abbrev pub CausesLaw : Type 0
CausesLaw =
    (script : List ScriptTxn) (outcomes : List Outcome) (room : RoomState) (image : Image) (first : List Row) (e : ℕ) → AreNumbered 0 0 outcomes → AreRefused script outcomes room first
    → NoneBehindFull outcomes → EpochsFollow e (commits_of outcomes) → IsSealedUpTo e (commits_of outcomes) room.sealed → room.waiting ≡ count_by (λ c. c.epoch == room.sealed + 1) (commits_of outcomes)
    → room.image ≡ Some image → HoldsLive room image (first ++ all_rows (upto (commits_of outcomes) room.sealed))
    → HaveCauses room.region_len first image script outcomes (commits_of outcomes) room.sealed
