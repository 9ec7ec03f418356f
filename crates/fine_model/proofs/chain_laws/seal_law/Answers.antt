use Rattle.fine_model.proofs.Chain.Longer.{seal_law}
use Rattle.fine_model.proofs.chain_laws.seal_law.Goals as goal

pub returns : goal.returns
returns c = seal_law
