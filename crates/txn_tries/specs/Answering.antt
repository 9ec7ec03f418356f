-- How the calls of a transaction are answered, and what an end without a commit says.
use Rattle.std.specs.Prelude.{◌≡◌, ◌≢◌, ℕ, ◌<◌, false, List, ◌++◌, Some, None, Result, Ok, Err}
use Rattle.std.specs.List.{AllZip}
use Rattle.fine_model.specs.declared.Call.{Call}
use Rattle.fine_model.specs.declared.Outcome.{Outcome}
use Rattle.fine_model.specs.declared.Outcome.TheVariants as outcome
use Rattle.fine_model.specs.declared.Reply.{Reply}
use Rattle.fine_model.specs.declared.Row.{Row}
use Rattle.fine_model.specs.declared.RunFault.TheVariants as run_fault
use Rattle.fine_model.specs.declared.ScriptTxn.{ScriptTxn}
use Rattle.fine_model.specs.declared.Why.{Why}
use Rattle.fine_model.specs.declared.Why.TheVariants as why
use Rattle.fine_model.specs.Damages.{IsPlaceOrNode}
use Rattle.fine_model.specs.History.{all_rows}
use Rattle.fine_model.specs.Outcomes.{HasRun, IsOutcomeOf}
use Rattle.fine_model.specs.Pushed.{all_pushed}
use Rattle.fine_model.specs.Store.{IsReplyTo}
use Rattle.node_cache.specs.Cache.{Cache}
use Rattle.partition_hold.specs.Views.{ViewValue, state_of}
use Rattle.epoch_room.specs.Value.{RoomValue}
use Rattle.txn_draft.specs.Drafts.{DraftValue}
use Rattle.fine_hall.specs.declared.law.Beginning.{Beginning}
use Rattle.fine_hall.specs.Halls.{HallOf, SeesMore}
use Rattle.fine_hall.specs.Passes.{seen, troubles}
use Rattle.hall_rooms.specs.Rooms.{RoomPass, beginning_of}
use Rattle.hall_rooms.specs.Turning.{MeetsNone, NotBegan}
use Rattle.txn_engine.specs.declared.txn.Txn.{Txn}
use Rattle.txn_engine.specs.declared.txn.TxnFault.{TxnFault}
use Rattle.txn_engine.specs.declared.txn.TxnFault.TheVariants as fault
use Rattle.lane_laws.specs.Lanes.{OfBegan}
use Rattle.txn_tries.specs.declared.attempt.Answered.{Answered}
use Rattle.txn_tries.specs.declared.attempt.Answered.TheVariants as answered
use Rattle.txn_tries.specs.declared.turn.TurnEnd.{TurnEnd}
use Rattle.txn_tries.specs.declared.turn.TurnEnd.TheVariants as turn_end
use Rattle.txn_tries.specs.Turns.{RefusedNow}
use Rattle.txn_tries.specs.Going.{IsAtRest, IsCommittable, IsGoing, OnlySees}

-- ---- calls, one after another

-- replies stand after others, one for each of some calls
pub record AddsReplies (calls : List Call) (old new : List Reply) : Type 0 where
  pub replies : List Reply
  pub after : new ≡ old ++ replies
  pub each : AllZip IsReplyTo calls replies

-- calls were answered after those of a draft
pub record AddsCalls (calls : List Call) (d d' : DraftValue) : Type 0 where
  pub lane : d'.lane ≡ d.lane
  pub turn : d'.turn ≡ d.turn
  pub calls_more : d'.calls ≡ d.calls ++ calls
  pub replied : AddsReplies calls d.replies d'.replies
  pub not_failed : d'.failed ≡ false

-- the definitions refuse these calls so, after all that a pass saw
abbrev pub RefusesCalls : Beginning → List Call → RoomPass → Why → Type 0
RefusesCalls x calls p word = OfBegan x (λ first. all_pushed (first ++ all_rows (seen p)) calls ≡ Err word)

-- what a refusal of one of some calls says
abbrev pub StopsCalls : Beginning → List Call → RoomPass → RoomPass → TxnFault → Type 0
StopsCalls x calls p p' (fault.Conflict bucket owner) = MeetsNone x p p'
StopsCalls x calls p p' fault.Disk = 0 < troubles state_of x p'
StopsCalls x calls p p' (fault.BadRow region at) = MeetsNone x p p' × NotBegan x
StopsCalls x calls p p' (fault.BadIndex region at) = MeetsNone x p p' × NotBegan x
StopsCalls x calls p p' (fault.Unfit id) = MeetsNone x p p' × NotBegan x
StopsCalls x calls p p' (fault.BucketFull next depth) = MeetsNone x p p' × RefusesCalls x calls p' why.Bucket
StopsCalls x calls p p' (fault.Number id) = MeetsNone x p p' × RefusesCalls x calls p' why.Number
StopsCalls x calls p p' fault.NoMemory = Unit {0}

-- calls were answered up to the first that was refused
abbrev pub AnswersAll : Beginning → List Call → Txn → Txn → RoomPass → RoomPass → Result (Unit {0}) TxnFault → Type 0
AnswersAll x calls t t' p p' (Ok done) = AddsCalls calls t.draft t'.draft × MeetsNone x p p'
AnswersAll x calls t t' p p' (Err fault) = StopsCalls x (t.draft.calls ++ calls) p p' fault

-- ---- a transaction that is answered

-- all calls of a transaction with its number were answered
pub record IsAnswer (txn : ScriptTxn) (turn : ℕ) (d : DraftValue) : Type 0 where
  pub lane : d.lane ≡ txn.lane
  pub turn_is : d.turn ≡ turn
  pub calls : d.calls ≡ txn.calls
  pub may : IsCommittable d

-- a transaction ended without a commit
abbrev pub IsUncommitted : Outcome → Type 0
IsUncommitted (outcome.Committed place epoch entry) = ⊥
IsUncommitted _ = Unit {0}

-- an outcome without a commit, each refusal with its cause
pub record EndsWithout (x : Beginning) (txn : ScriptTxn) (p p' : RoomPass) (o : Outcome) : Type 0 where
  pub of : IsOutcomeOf txn o
  pub run : HasRun o
  pub none : IsUncommitted o
  pub not_full : o ≢ outcome.Refused why.Full
  pub cause : (word : Why) → o ≡ outcome.Refused word → RefusedNow x p p' txn.calls word

-- what an end after a refused call says: no transaction was committed, and the room was not asked
abbrev pub StopsTurn : Beginning → ScriptTxn → RoomPass → RoomPass → TurnEnd → Type 0
StopsTurn x txn p p' (turn_end.Done o) = MeetsNone x p p' × EndsWithout x txn p p' o
StopsTurn x txn p p' turn_end.Tried = ⊥
StopsTurn x txn p p' turn_end.Full = ⊥
StopsTurn x txn p p' (turn_end.Ended (Some o) fault) = ⊥
StopsTurn x txn p p' (turn_end.Ended None run_fault.Disk) = 0 < troubles state_of x p'
StopsTurn x txn p p' (turn_end.Ended None run_fault.Memory) = Unit {0}
StopsTurn x txn p p' (turn_end.Ended None (run_fault.Damaged what)) = MeetsNone x p p' × NotBegan x × IsPlaceOrNode what

-- it is undone
pub record IsUndone {Q : Type 0} (hall : HallOf RoomValue Cache ViewValue Q) (t : Txn) (p p' : RoomPass) : Type 0 where
  pub rest : IsAtRest hall p.number t p'
  pub sees : SeesMore p p'

-- All calls of a transaction were answered, which is then open, or it is undone.
abbrev pub AnswersTxn : {Q : Type 0} → HallOf RoomValue Cache ViewValue Q → ScriptTxn → ℕ → Txn → RoomPass → RoomPass → Answered → Type 0
AnswersTxn hall txn turn t p p' answered.All = IsGoing hall t p' × OnlySees (beginning_of hall) p p' × IsAnswer txn turn t.draft
AnswersTxn hall txn turn t p p' answered.Conflict = IsUndone hall t p p' × MeetsNone (beginning_of hall) p p'
AnswersTxn hall txn turn t p p' (answered.Over end) = IsUndone hall t p p' × StopsTurn (beginning_of hall) txn p p' end
