use Rattle.fine_model.proofs.Chain.Freed.{erased_law}
use Rattle.fine_model.proofs.chain_laws.erased_law.Goals as goal

pub returns : goal.returns
returns c = erased_law
