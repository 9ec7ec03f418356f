use Rattle.txn_draft.proofs.Lawful.{next_law}
use Rattle.txn_draft.proofs.laws.next_law.Goals as goal

pub returns : goal.returns
returns c = next_law
