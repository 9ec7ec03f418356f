-- What two transactions leave, of which the first one commits and the second one is taken back.
use Rattle.std.specs.Prelude.{◌≡◌, [], ◌∷◌, List, ◌++◌, Result, Ok, Err}
use Rattle.fine_model.specs.declared.Call.{Call}
use Rattle.fine_model.specs.declared.Entry.{Entry}
use Rattle.fine_model.specs.declared.Row.{Row}
use Rattle.fine_model.specs.Pushed.{all_pushed}
use Rattle.fine_model.specs.Store.{replies_to}
use Rattle.fine_model.specs.Trees.{map_of}
use Rattle.node_cache.specs.Cache.{Cache}
use Rattle.btree_nodes.specs.declared.fault.TreeFault.{TreeFault}
use Rattle.btree_nodes.specs.Trees.{Holds}
use Rattle.txn_draft.specs.Drafts.{DraftValue, IsAnswered}

-- with Ok a draft is answered
abbrev pub AnsweredOr : {A : Type 0} → Result A TreeFault → Type 0 → Type 0
AnsweredOr (Ok done) P = P
AnsweredOr (Err fault) P = Unit {0}

-- the second one is answered on what the first one left, and the bucket holds just that then
pub record IsTwice (rows : List Row) (c c' : Call) (entry : Entry) (d d' : DraftValue) (b : Cache) (r : Result (Unit {0}) TreeFault) : Type 0 where
  pub replies : entry.replies ≡ replies_to (map_of rows) (c ∷ [])
  pub pushes : all_pushed rows (c ∷ []) ≡ Ok entry.rows
  pub answered : AnsweredOr r (IsAnswered (rows ++ entry.rows) d')
  pub holds : Holds b (rows ++ entry.rows) []
