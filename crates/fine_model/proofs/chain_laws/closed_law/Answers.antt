use Rattle.fine_model.proofs.Chain.Closed.{closed_law}
use Rattle.fine_model.proofs.chain_laws.closed_law.Goals as goal

pub returns : goal.returns
returns c = closed_law
