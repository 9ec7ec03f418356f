use Rattle.txn_engine.proofs.Held.{answered_on}
use Rattle.txn_engine.proofs.laws.local_law.Goals as goal

pub returns : goal.returns
returns c = λ x p p' d e first sees before after began held answered. answered_on x p p' sees before after.legal d e first began held answered
