use Rattle.txn_draft.proofs.Lasting.{serves_law}
use Rattle.txn_draft.proofs.standing.serves_law.Goals as goal

pub returns : goal.returns
returns g c = serves_law g.S.NodeSource.tells
