-- What an open transaction makes of the buckets, and what its end leaves.
use Rattle.std.specs.Prelude.{◌≡◌, ℕ, ◌≤◌, Bool, false, if◌then◌else◌, List, [], ◌∷◌, ◌++◌, slice_get, All, Option, Some, Err, ◌⊎◌, true}
use Rattle.std.specs.List.{AllZip, list_any}
use Rattle.fine_model.specs.declared.Call.{Call}
use Rattle.fine_model.specs.declared.Row.{Row}
use Rattle.fine_model.specs.declared.Why.TheVariants as why
use Rattle.fine_model.specs.declared.law.Origin.{Origin}
use Rattle.fine_model.specs.Buckets.{Began}
use Rattle.fine_model.specs.History.{Commit, IsLegal, IsNext, all_rows, upto}
use Rattle.fine_model.specs.Nodes.{Agrees}
use Rattle.fine_model.specs.Pushed.{all_pushed}
use Rattle.fine_model.specs.Store.{IsReplyTo}
use Rattle.node_cache.specs.declared.cached.Cached.{Cached}
use Rattle.node_cache.specs.Cache.{Cache}
use Rattle.btree_nodes.specs.declared.fault.TreeFault.{TreeFault}
use Rattle.btree_nodes.specs.declared.fault.TreeFault.TheVariants.{Source, Unfit, BucketFull, Number, NoMemory}
use Rattle.txn_draft.specs.Drafts.{DraftValue, FitsDraft, IsAnswered, entry_of, is_here}
use Rattle.txn_draft.specs.Standing.{IsLeft}
use Rattle.txn_draft.specs.Uses.{IsUsed, Undoes}
use Rattle.open_txn.specs.Buckets.{BucketsValue, EachPair, HoldAll, RestoreAll, StandAll, none_touched}

-- ---- before its calls

-- A history is legal on some rows, and a source tells rows that agree with it up to the source's last epoch.
pub record TellsHistory (tells : List Row → Type 0) (upper : ℕ) (first : List Row) (history : List Commit) : Type 0 where
  pub legal : IsLegal first history
  pub known : List Row
  pub is_told : tells known
  pub agrees : Agrees known (first ++ all_rows (upto history upper))

-- The buckets stand for a history, and the source tells it, as far as it is published and wherever the log at entry was told.
pub record IsReady (tells : List Row → Type 0) (upper : ℕ) (log : Origin) (low : ℕ) (v : BucketsValue) (history : List Commit) : Type 0 where
  pub stand : StandAll log low v history
  pub most : low ≤ upper
  pub told : (e : ℕ) (first : List Row) → Began log e first → TellsHistory tells upper first history

-- ---- behind its calls

-- P of each bucket as it was taken and as it is now
abbrev pub EachChange : (Cache → Cache → Type 0) → BucketsValue → BucketsValue → Type 0
EachChange P taken now = (k : ℕ) (t b : Cache) → slice_get taken.buckets k ≡ Some t → slice_get now.buckets k ≡ Some b → P t b

-- each bucket that is not touched is as it was taken
abbrev pub KeepsUntouched : BucketsValue → BucketsValue → Type 0
KeepsUntouched taken now = (k : ℕ) (t b : Cache) → slice_get taken.buckets k ≡ Some t → slice_get now.buckets k ≡ Some b → slice_get now.touched k ≡ Some false → b ≡ t

-- the transaction used the buckets, and has these rows
pub record UseAll (low : ℕ) (taken now : BucketsValue) (rows : List Row) : Type 0 where
  pub each : EachChange (λ t b. IsUsed low t b rows) taken now
  pub untouched : KeepsUntouched taken now

-- undoing leaves what was taken, and what was loaded since
pub record UndoAll (low : ℕ) (taken now : BucketsValue) : Type 0 where
  pub each : EachChange (λ t b. Undoes low t b) taken now
  pub untouched : KeepsUntouched taken now

-- All calls were answered on buckets that stood for a history. Where the log at entry was told the draft is answered behind this history, and
-- each bucket holds what the history and then the draft leave.
pub record IsOpen (log : Origin) (low : ℕ) (history : List Commit) (taken now : BucketsValue) (d : DraftValue) : Type 0 where
  pub stand : StandAll log low taken history
  pub uses : UseAll low taken now d.rows
  pub holds : (e : ℕ) (first : List Row) → Began log e first → HoldAll (first ++ all_rows history) d.rows now
  pub answered : (e : ℕ) (first : List Row) → Began log e first → IsAnswered (first ++ all_rows history) d

-- A call was refused, or the transaction is given up: undoing restores what the history leaves.
pub record IsToUndo (log : Origin) (low : ℕ) (history : List Commit) (taken now : BucketsValue) : Type 0 where
  pub stand : StandAll log low taken history
  pub undoes : UndoAll low taken now
  pub restores : (e : ℕ) (first : List Row) → Began log e first → RestoreAll (first ++ all_rows history) now

-- Why calls are refused behind some rows: a full bucket and a version past its limit are refusals of these calls by the definitions. On rows that are
-- sound no node is unfit.
abbrev pub HasCause : List Row → List Call → TreeFault → Type 0
HasCause rows calls (BucketFull next depth) = all_pushed rows calls ≡ Err why.Bucket
HasCause rows calls (Number id) = all_pushed rows calls ≡ Err why.Number
HasCause rows calls (Unfit id) = ⊥
HasCause rows calls (Source fault) = Unit {0}
HasCause rows calls NoMemory = Unit {0}

-- What a refusal leaves, and its cause wherever the log at entry was told.
pub record IsRefusal (log : Origin) (low : ℕ) (history : List Commit) (taken now : BucketsValue) (calls : List Call) (fault : TreeFault) : Type 0 where
  pub to_undo : IsToUndo log low history taken now
  pub cause : (e : ℕ) (first : List Row) → Began log e first → HasCause (first ++ all_rows history) calls fault

-- each bucket that is touched was so before, or is one of the calls'
abbrev pub TouchesOf : List Call → BucketsValue → BucketsValue → Type 0
TouchesOf calls old new = (k : ℕ) → slice_get new.touched k ≡ Some true → (slice_get old.touched k ≡ Some true) ⊎ (list_any (is_here k) calls ≡ true)

-- What a draft keeps of calls that were all answered, on every disk: each reply is that of the store on some map, whose keys ascend.
pub record AnswersCalls (calls : List Call) (d : DraftValue) : Type 0 where
  pub not_failed : d.failed ≡ false
  pub same : d.calls ≡ calls
  pub replied : AllZip IsReplyTo d.calls d.replies
  pub fits : FitsDraft d

-- ---- its end

-- each bucket that was touched is made into another, the others stay, and none is touched
pub record EndsTouched (f : Cache → Cache) (old new : BucketsValue) : Type 0 where
  pub each : (k : ℕ) (b : Cache) (t : Bool) → slice_get old.buckets k ≡ Some b → slice_get old.touched k ≡ Some t → slice_get new.buckets k ≡ Some (if t then f b else b)
  pub untouched : new.touched ≡ none_touched

-- Each bucket that was touched is left with what it was once it ended so, but for nodes that were evicted; each other one is as it was.
abbrev pub LeavesEach : ℕ → (Cache → ℕ → Option Cached) → BucketsValue → BucketsValue → Type 0
LeavesEach evicted was old new =
    EachPair (λ k b b'. ((slice_get old.touched k ≡ Some true) × IsLeft evicted (was b) b b') ⊎ ((slice_get old.touched k ≡ Some false) × (b' ≡ b))) old new

-- settled under the epoch of a commit of the draft's rows, the buckets stand for the history with this commit
abbrev pub SettlesAll : ℕ → ℕ → BucketsValue → BucketsValue → Type 0
SettlesAll epoch evicted old new =
    (log : Origin) (low published : ℕ) (history : List Commit) (taken : BucketsValue) (d : DraftValue) (c : Commit) → IsOpen log low history taken old d
    → c.entry.rows ≡ d.rows → c.epoch ≡ epoch → All (λ b. b.epoch ≤ epoch) history → low ≤ published → evicted ≤ published → StandAll log published new (history ++ c ∷ [])

-- taken back, they stand for the history as before
abbrev pub UndoesAll : ℕ → BucketsValue → BucketsValue → Type 0
UndoesAll evicted old new =
    (log : Origin) (low published : ℕ) (history : List Commit) (taken : BucketsValue) → IsToUndo log low history taken old → low ≤ published → evicted ≤ published → StandAll log published new history

-- ---- laws

-- a transaction all of whose calls were answered may be taken back
abbrev pub AbortLaw : Type 0
AbortLaw = (log : Origin) (low : ℕ) (history : List Commit) (taken now : BucketsValue) (d : DraftValue) → IsOpen log low history taken now d → IsToUndo log low history taken now

-- its commit may follow on the history, under an epoch that is not below those of the history, and then the longer history is legal
pub record Follows (first : List Row) (history : List Commit) (c : Commit) : Type 0 where
  pub next : IsNext first history c
  pub legal : IsLegal first (history ++ c ∷ [])

abbrev pub FollowsLaw : Type 0
FollowsLaw =
    (log : Origin) (low e epoch : ℕ) (first : List Row) (history : List Commit) (taken now : BucketsValue) (d : DraftValue) → IsOpen log low history taken now d → Began log e first → IsLegal first history
    → All (λ b. b.epoch ≤ epoch) history → Follows first history (record { entry = entry_of d; epoch = epoch })
