use Rattle.fine_model.proofs.Chain.ChainFacts.{chain_law}
use Rattle.fine_model.proofs.chain_laws.chain_law.Goals as goal

pub returns : goal.returns
returns c = chain_law
