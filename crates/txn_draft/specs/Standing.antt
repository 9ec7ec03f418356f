-- What a bucket stands for from one transaction to the next. Each law is the contract of a function.
use Rattle.std.specs.Prelude.{◌≡◌, ℕ, ◌<◌, ◌≤◌, ◌==◌, Bool, false, List, [], ◌∷◌, ◌++◌, filter, Option, Some, IfSome, All}
use Rattle.std.specs.List.{AllByRecursion, list_any}
use Rattle.fine_model.specs.declared.Row.{Row}
use Rattle.fine_model.specs.declared.law.Origin.{Origin}
use Rattle.fine_model.specs.Buckets.{Began, IsBucketFor}
use Rattle.fine_model.specs.History.{Commit, IsLegal, all_rows, upto}
use Rattle.fine_model.specs.Nodes.{Agrees}
use Rattle.node_cache.specs.declared.cached.Cached.{Cached}
use Rattle.node_cache.specs.Cache.{Cache, IsResting, after, before, cached, kept_at}
use Rattle.btree_nodes.specs.Trees.{Holds, Restores, Serves}
use Rattle.txn_draft.specs.Drafts.{DraftValue, FitsDraft, is_here}
use Rattle.txn_draft.specs.Laws.{AreElsewhere}
use Rattle.txn_draft.specs.Uses.{IsUsed, Undoes}

-- a bucket stands for a history on a log, while an epoch is published
abbrev pub StandsFor : Origin → ℕ → ℕ → Cache → List Commit → Type 0
StandsFor log k published b history = IsBucketFor (λ (c : Cache). c.bucket) kept_at IsResting log k published b history

-- a new bucket stands for the history that has not begun
abbrev pub NewLaw : Type 0
NewLaw = (log : Origin) (k published : ℕ) → StandsFor log k published (record { bucket = k; nodes = []; saved = [] }) []

-- ---- at the start of a transaction

-- a bucket that stands for a history holds what the rows at entry and then the history leave
abbrev pub HoldsLaw : Type 0
HoldsLaw = (log : Origin) (k published e : ℕ) (b : Cache) (first : List Row) (history : List Commit) → Began log e first → StandsFor log k published b history → Holds b (first ++ all_rows history) []

-- A source serves it, from the first call to the last, where it tells rows that agree with the log up to an epoch which is not below the one that
-- was published when the bucket was taken.
abbrev pub ServesLaw : {S : Type 0} → (S → List Row → Type 0) → Type 0
ServesLaw tells =
    (source : _) (log : Origin) (k low upper e : ℕ) (taken b : Cache) (own first known : List Row) (history : List Commit) → Began log e first → IsLegal first history → StandsFor log k low taken history
    → IsUsed low taken b own → low ≤ upper → tells source known → Agrees known (first ++ all_rows (upto history upper)) → Serves (tells source) b (first ++ all_rows history)

-- ---- at its end

-- What is left of nodes once those that are published were evicted: the bucket rests, each node that is left is what it was, and each node of
-- a later epoch is left.
pub record IsLeft (published : ℕ) (was : ℕ → Option Cached) (old new : Cache) : Type 0 where
  pub bucket : new.bucket ≡ old.bucket
  pub resting : IsResting new
  pub same : (n : ℕ) → IfSome (cached new n) (λ kept. was n ≡ Some kept)
  pub kept : (n : ℕ) → IfSome (was n) (λ kept. published < kept.epoch → cached new n ≡ Some kept)

-- Settled under the epoch of a commit with the transaction's rows, it stands for the history with this commit. The epoch up to which is evicted
-- may be below the published one.
abbrev pub SettleLaw : Type 0
SettleLaw =
    (log : Origin) (k low published evicted : ℕ) (taken b new : Cache) (history : List Commit) (c : Commit) → low ≤ published → evicted ≤ published → All (λ d. d.epoch ≤ c.epoch) history
    → StandsFor log k low taken history → IsUsed low taken b c.entry.rows → ((e : ℕ) (first : List Row) → Began log e first → Holds b (first ++ all_rows history) c.entry.rows)
    → IsLeft evicted (after b c.epoch) b new → StandsFor log k published new (history ++ c ∷ [])

-- taken back, it stands for the history as before
abbrev pub UndoLaw : Type 0
UndoLaw =
    (log : Origin) (k low published evicted : ℕ) (taken b new : Cache) (history : List Commit) → low ≤ published → evicted ≤ published
    → StandsFor log k low taken history → Undoes low taken b → ((e : ℕ) (first : List Row) → Began log e first → Restores b (first ++ all_rows history))
    → IsLeft evicted (before b) b new → StandsFor log k published new history

-- ---- between transactions

-- it stands for the history also once published nodes were evicted
abbrev pub EvictLaw : Type 0
EvictLaw = (log : Origin) (k published evicted : ℕ) (b new : Cache) (history : List Commit) → evicted ≤ published → StandsFor log k published b history → IsLeft evicted (cached b) b new → StandsFor log k published new history

-- a commit has a row in a bucket
abbrev pub has_row_in : ℕ → Commit → Bool
has_row_in k c = list_any (λ row. row.node.bucket == k) c.entry.rows

-- those of a history that have one, in their order
abbrev pub commits_in : ℕ → List Commit → List Commit
commits_in k history = filter (has_row_in k) history

-- and for each other history that has the same commits in it, whatever it has in other buckets, and wherever
abbrev pub SameLaw : Type 0
SameLaw = (log : Origin) (k published : ℕ) (b : Cache) (history other : List Commit) → commits_in k other ≡ commits_in k history → StandsFor log k published b history → StandsFor log k published b other

-- so for the history with commits more behind it that have no row in it
abbrev pub BesideLaw : Type 0
BesideLaw = (log : Origin) (k published : ℕ) (b : Cache) (history more : List Commit) → StandsFor log k published b history → AllByRecursion (λ c. AreElsewhere b c.entry.rows) more → StandsFor log k published b (history ++ more)

-- a draft of which no call is in a bucket has no row there
abbrev pub UntouchedLaw : Type 0
UntouchedLaw = (d : DraftValue) (b : Cache) → FitsDraft d → list_any (is_here b.bucket) d.calls ≡ false → AreElsewhere b d.rows
