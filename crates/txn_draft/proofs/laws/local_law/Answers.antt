use Rattle.txn_draft.proofs.Local.{local_law}
use Rattle.txn_draft.proofs.laws.local_law.Goals as goal

pub returns : goal.returns
returns c = local_law
