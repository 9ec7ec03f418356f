use Rattle.open_txn.proofs.Ended.{follows_law}
use Rattle.open_txn.proofs.laws.follows_law.Goals as goal

pub returns : goal.returns
returns c = follows_law
