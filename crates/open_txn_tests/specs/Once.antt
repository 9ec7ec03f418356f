-- What one transaction leaves that is committed or taken back.
use Rattle.std.specs.Prelude.{ℕ, ◌≤◌, List, ◌++◌, All, Option, Result}
use Rattle.fine_model.specs.declared.Entry.{Entry}
use Rattle.fine_model.specs.declared.Row.{Row}
use Rattle.fine_model.specs.declared.law.Origin.{Origin}
use Rattle.fine_model.specs.Buckets.{Began}
use Rattle.fine_model.specs.History.{Commit, IsLegal, IsNext, all_rows, upto}
use Rattle.fine_model.specs.Laws.{AreSmall}
use Rattle.fine_model.specs.Nodes.{Agrees}
use Rattle.node_cache.specs.Cache.{Cache}
use Rattle.btree_nodes.specs.declared.fault.TreeFault.{TreeFault}
use Rattle.txn_draft.specs.Standing.{StandsFor}
use Rattle.open_txn_tests.specs.Committed.{IfCommitted, longer}

-- a history is legal on some rows, and a source tells rows that agree with it up to an epoch
pub record TellsHistory (tells : List Row → Type 0) (upper : ℕ) (first : List Row) (history : List Commit) : Type 0 where
  pub small : AreSmall first
  pub legal : IsLegal first history
  pub known : List Row
  pub is_told : tells known
  pub agrees : Agrees known (first ++ all_rows (upto history upper))

-- a bucket stands for a history whose epochs are none above the next commit's, and the source tells it where the log at entry was told
pub record IsReady (log : Origin) (published epoch : ℕ) (tells : List Row → Type 0) (upper : ℕ) (b : Cache) (history : List Commit) : Type 0 where
  pub stands : StandsFor log b.bucket published b history
  pub epochs : All (λ c. c.epoch ≤ epoch) history
  pub told : (e : ℕ) (first : List Row) → Began log e first → TellsHistory tells upper first history

-- it stands for the history with what was committed, and this may follow on the history
pub record IsRun (log : Origin) (k published epoch : ℕ) (b : Cache) (history : List Commit) (r : Result (Option Entry) TreeFault) : Type 0 where
  pub stands : StandsFor log k published b (longer history epoch r)
  pub follows : (e : ℕ) (first : List Row) → Began log e first → IfCommitted (IsNext first history) epoch r
