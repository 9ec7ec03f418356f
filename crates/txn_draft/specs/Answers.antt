-- What the answer to a call says.
use Rattle.std.specs.Prelude.{◌≡◌, List, ◌++◌, Some, Result, Ok, Err}
use Rattle.fine_model.specs.declared.Call.{Call}
use Rattle.fine_model.specs.declared.FetchFault.{FetchFault}
use Rattle.fine_model.specs.declared.Row.{Row}
use Rattle.fine_model.specs.declared.Why.TheVariants as why
use Rattle.fine_model.specs.Map.{Pair}
use Rattle.fine_model.specs.Pushed.{pushed, push_of, key_of}
use Rattle.fine_model.specs.Store.{answer}
use Rattle.fine_model.specs.Trees.{nodes_of, bucket_of}
use Rattle.node_cache.specs.Cache.{Cache}
use Rattle.btree_nodes.specs.declared.fault.TreeFault.{TreeFault}
use Rattle.btree_nodes.specs.declared.fault.TreeFault.TheVariants.{Source, Unfit, BucketFull, Number, NoMemory}
use Rattle.btree_nodes.specs.Trees.{Holds, Restores, HeadSays, first_over}
use Rattle.txn_draft.specs.Drafts.{DraftValue, IsAnswered, IsLost, noted}

-- The answer to one call, on sound rows for which the source serves the bucket. A refusal has its cause; what the bucket holds for the
-- transaction it still holds, with every answer but want of memory, and then undoing restores it.
abbrev pub AnswersSoundly : {A : Type 0} → List Row → Call → DraftValue → DraftValue → Cache → Result A TreeFault → Type 0
AnswersSoundly rows c old new b (Ok done) = IsAnswered rows new × Holds b rows new.rows
AnswersSoundly rows c old new b (Err (Source fault)) = Holds b rows old.rows
AnswersSoundly rows c old new b (Err (Unfit id)) = ⊥
AnswersSoundly rows c old new b (Err (BucketFull next depth)) =
    (pushed (rows ++ old.rows) c ≡ Err why.Bucket) × HeadSays (nodes_of (rows ++ old.rows) (bucket_of (key_of c)) 0).0 next depth × Holds b rows old.rows
AnswersSoundly rows c old new b (Err (Number id)) =
    (pushed (rows ++ old.rows) c ≡ Err why.Number) × (first_over (push_of (rows ++ old.rows) c).rows ≡ Some id) × Holds b rows old.rows
AnswersSoundly rows c old new b (Err NoMemory) = Restores b rows

-- a call is kept behind the others, with the reply and the writes that it has on some pairs
abbrev pub KeepsBy : List Pair → Call → DraftValue → DraftValue → Type 0
KeepsBy pairs c old new = new ≡ noted (record old { rows = new.rows }) c (answer pairs c).0 (answer pairs c).1

-- every refusal but want of memory leaves a draft as it was; want of memory leaves it failed, with its lane and turn
abbrev pub LeavesDraft : DraftValue → DraftValue → TreeFault → Type 0
LeavesDraft old new NoMemory = IsLost old new
LeavesDraft old new _ = new ≡ old

-- what holds with a fault of the source
abbrev pub FailsBy : (FetchFault → Type 0) → TreeFault → Type 0
FailsBy S (Source fault) = S fault
FailsBy S _ = Unit {0}
