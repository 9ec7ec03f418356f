use Rattle.fine_model.proofs.Chain.Closed.{behind_law}
use Rattle.fine_model.proofs.chain_laws.behind_law.Goals as goal

pub returns : goal.returns
returns c = behind_law
