use Rattle.open_txn.proofs.Ended.{abort_law}
use Rattle.open_txn.proofs.laws.abort_law.Goals as goal

pub returns : goal.returns
returns c = abort_law
