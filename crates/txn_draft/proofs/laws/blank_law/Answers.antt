use Rattle.txn_draft.proofs.Lawful.{blank_law}
use Rattle.txn_draft.proofs.laws.blank_law.Goals as goal

pub returns : goal.returns
returns c = blank_law
