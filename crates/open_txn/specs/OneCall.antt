-- What answering one call does, over all buckets.
use Rattle.std.specs.Prelude.{◌≡◌, ℕ, List, [], ◌∷◌, Result, IfErr, OnOk}
use Rattle.fine_model.specs.declared.Call.{Call}
use Rattle.fine_model.specs.declared.FetchFault.{FetchFault}
use Rattle.fine_model.specs.declared.Row.{Row}
use Rattle.node_cache.specs.Given.{Finds}
use Rattle.btree_nodes.specs.declared.fault.TreeFault.{TreeFault}
use Rattle.btree_nodes.specs.Calls.{OnCleanAnswer}
use Rattle.txn_draft.specs.Answers.{FailsBy}
use Rattle.txn_draft.specs.Drafts.{DraftValue}
use Rattle.open_txn.specs.Buckets.{BucketsValue}
use Rattle.open_txn.specs.Steps.{Advances, Refuses}
use Rattle.open_txn.specs.Traces.{AddsDone, StopsAt}

-- The call was answered, or it was refused, whatever calls were to come behind it. `Later`, `Clean` and `Failed` are what the source says of its own two states.
pub record AnswersOne (Later Clean : Type 0) (Failed : FetchFault → Type 0) (tells tells' : List Row → Type 0) (finds : Finds) (upper : ℕ) (c : Call) (old new : BucketsValue) (d d' : DraftValue) (r : Result (Unit {0}) TreeFault) : Type 0 where
  pub later : Later
  pub clean : OnCleanAnswer r Clean
  pub fails : IfErr r (FailsBy Failed)
  pub place : (d'.lane ≡ d.lane) × (d'.turn ≡ d.turn)
  pub advances : OnOk r (Advances tells tells' upper old new d d' (c ∷ []))
  pub refuses : IfErr r (λ fault. (more : List Call) → Refuses tells upper old new d (c ∷ more) fault)
  pub does : OnOk r (AddsDone tells finds upper (c ∷ []) d.rows d'.rows old new)
  pub stops : IfErr r (λ fault. (more : List Call) → StopsAt tells finds upper (c ∷ more) fault old new)
