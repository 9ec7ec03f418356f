-- What undoing leaves after any answer.
use Rattle.std.specs.Prelude.{ℕ, List, Result}
use Rattle.fine_model.specs.declared.Call.{Call}
use Rattle.fine_model.specs.declared.Row.{Row}
use Rattle.node_cache.specs.Cache.{Cache}
use Rattle.btree_nodes.specs.declared.fault.TreeFault.{TreeFault}
use Rattle.btree_nodes.specs.Trees.{Restores}
use Rattle.txn_draft.specs.Answers.{AnswersSoundly}
use Rattle.txn_draft.specs.Drafts.{DraftValue}
use Rattle.txn_draft.specs.Uses.{Undoes, UsedAfter}

-- whatever a call answered on some rows, what undoing restores is what they leave
abbrev pub RestoresLaw : Type 0
RestoresLaw = (rows : List Row) (c : Call) (d d' : DraftValue) (b : Cache) (r : Result (Unit {0}) TreeFault) → AnswersSoundly rows c d d' b r → Restores b rows

-- and on every disk it is what was cached when the bucket was taken, and what was loaded since
abbrev pub UndoesLaw : Type 0
UndoesLaw = (low : ℕ) (taken b : Cache) (rows : List Row) (r : Result (Unit {0}) TreeFault) → UsedAfter low taken b rows r → Undoes low taken b
