-- What the text of a report says of each transaction.
use Rattle.std.specs.Prelude.{◌≡◌, ◌≢◌, ℕ, ◌<◌, ◌≤◌, ◌^◌, List, map, take, Ok, ⊤}
use Rattle.std.specs.List.{AllByRecursion}
use Rattle.fine_model.specs.declared.Call.{Call}
use Rattle.fine_model.specs.declared.Reply.{Reply}
use Rattle.fine_model.specs.declared.Row.{Row}
use Rattle.fine_model.specs.declared.ScriptTxn.{ScriptTxn}
use Rattle.fine_model.specs.declared.Why.{Why}
use Rattle.fine_model.specs.declared.Outcome.{Outcome}
use Rattle.fine_model.specs.declared.Ran.{Ran}
use Rattle.fine_model.specs.declared.Call.TheVariants as call
use Rattle.fine_model.specs.declared.Reply.TheVariants as reply
use Rattle.fine_model.specs.declared.Outcome.TheVariants as outcome
use Rattle.fine_model.specs.Map.{Pair}
use Rattle.fine_model.specs.RowBytes.{greatest}
use Rattle.fine_model.specs.Trees.{map_of}
use Rattle.fine_model.specs.History.{Commit, IsLegal, map_at}
use Rattle.fine_model.specs.Outcomes.{AreOutcomes}
use Rattle.fine_model.specs.Script.{script_of}
use Rattle.fine_model.specs.Report.{report, all_outcomes}

-- what a report says of a transaction: committed at a place in an epoch, aborted, refused with a word, or not run
pub data TxnMark : Type 0 where
  committed : ℕ → ℕ → TxnMark
  aborted : TxnMark
  refused : Why → TxnMark
  not_run : TxnMark

abbrev pub mark_of : Outcome → TxnMark
mark_of (outcome.Committed place epoch entry) = committed place epoch
mark_of outcome.Aborted = aborted
mark_of (outcome.Refused why) = refused why
mark_of outcome.NotRun = not_run

-- what a report says of a script's transactions, in their order
abbrev pub marks : List ScriptTxn → Ran → List TxnMark
marks script ran = map mark_of (all_outcomes script ran.outcomes)

-- no line feed is among the bytes
abbrev pub HasNoFeed : List ℕ → Type 0
HasNoFeed bytes = AllByRecursion (λ b. b ≢ 10) bytes

-- a pair whose key and value hold no line feed
abbrev pub PairHasNoFeed : Pair → Type 0
PairHasNoFeed pair = HasNoFeed pair.0 × HasNoFeed pair.1

-- a call whose keys and value hold none
abbrev pub CallHasNoFeed : Call → Type 0
CallHasNoFeed (call.Get key) = HasNoFeed key
CallHasNoFeed (call.Put key value) = HasNoFeed key × HasNoFeed value
CallHasNoFeed (call.Del key) = HasNoFeed key
CallHasNoFeed (call.Add key by) = HasNoFeed key
CallHasNoFeed (call.Scan low high limit) = HasNoFeed low × HasNoFeed high

-- a reply whose value or pairs hold none
abbrev pub ReplyHasNoFeed : Reply → Type 0
ReplyHasNoFeed (reply.Value value) = HasNoFeed value
ReplyHasNoFeed (reply.Found pairs) = AllByRecursion PairHasNoFeed pairs
ReplyHasNoFeed _ = ⊤

-- an outcome whose calls and replies hold none
abbrev pub OutcomeHasNoFeed : Outcome → Type 0
OutcomeHasNoFeed (outcome.Committed place epoch entry) = AllByRecursion CallHasNoFeed entry.calls × AllByRecursion ReplyHasNoFeed entry.replies
OutcomeHasNoFeed _ = ⊤

-- a place and an epoch of 64 bits
abbrev pub FitsMark : TxnMark → Type 0
FitsMark (committed place epoch) = (place < 2 ^ 64) × (epoch < 2 ^ 64)
FitsMark _ = ⊤

-- an outcome that its lines tell
abbrev pub IsTold : Outcome → Type 0
IsTold o = OutcomeHasNoFeed o × FitsMark (mark_of o)

-- Where no key or value holds a line feed, reports of the same text say the same of each transaction, of whatever scripts and runs they are.
abbrev pub TextTells : Type 0
TextTells = (one other : List ScriptTxn) (r s : Ran) → AllByRecursion IsTold r.outcomes → AllByRecursion IsTold s.outcomes
    → report one r ≡ report other s → marks one r ≡ marks other s

-- A run of a script that some bytes spell: its outcomes have a legal history behind an epoch of the format, and behind rows of
-- whose map no key or value holds a line feed.
pub record IsPlainRun (script : List ScriptTxn) (ran : Ran) : Type 0 where
  pub bytes : List ℕ
  pub spelled : script_of bytes ≡ Ok script
  pub rows : List Row
  pub plain : AllByRecursion PairHasNoFeed (map_of rows)
  pub e : ℕ
  pub epoch : e ≤ greatest
  pub history : List Commit
  pub outcomes : AreOutcomes script e (all_outcomes script ran.outcomes) history
  pub legal : IsLegal rows history

-- Where no key or value of the maps at entry holds a line feed, reports of the same text say the same of each transaction.
abbrev pub RunTells : Type 0
RunTells = (one other : List ScriptTxn) (r s : Ran) → IsPlainRun one r → IsPlainRun other s → report one r ≡ report other s → marks one r ≡ marks other s

-- after any number of such a run's commits the map still holds none
abbrev pub MapsStay : Type 0
MapsStay = (script : List ScriptTxn) (ran : Ran) (run : IsPlainRun script ran) (k : ℕ) → AllByRecursion PairHasNoFeed (map_at run.rows (take k run.history))
