-- What a transaction leaves of all buckets that is committed or taken back.
use Rattle.std.specs.Prelude.{ℕ, List, Option, Result}
use Rattle.fine_model.specs.declared.Entry.{Entry}
use Rattle.fine_model.specs.declared.Row.{Row}
use Rattle.fine_model.specs.declared.law.Origin.{Origin}
use Rattle.fine_model.specs.Buckets.{Began}
use Rattle.fine_model.specs.History.{Commit, IsLegal}
use Rattle.btree_nodes.specs.declared.fault.TreeFault.{TreeFault}
use Rattle.open_txn.specs.Buckets.{BucketsValue, StandAll}
use Rattle.open_txn.specs.Opened.{Follows}
use Rattle.open_txn_tests.specs.Committed.{IfCommitted, longer}

-- the buckets stand for the history with what was committed, and this may follow on the history
pub record IsRun (log : Origin) (published epoch : ℕ) (v : BucketsValue) (history : List Commit) (r : Result (Option Entry) TreeFault) : Type 0 where
  pub stand : StandAll log published v (longer history epoch r)
  pub follows : (e : ℕ) (first : List Row) → Began log e first → IsLegal first history → IfCommitted (Follows first history) epoch r
