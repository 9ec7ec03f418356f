use Rattle.txn_engine.proofs.Failing.{replies_law}
use Rattle.txn_engine.proofs.laws.replies_law.Goals as goal

pub returns : goal.returns
returns c = λ x t p o ok e first began. replies_law x t p o ok e first began
