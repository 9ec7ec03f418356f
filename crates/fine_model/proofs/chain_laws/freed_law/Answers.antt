use Rattle.fine_model.proofs.Chain.Freed.{freed_law}
use Rattle.fine_model.proofs.chain_laws.freed_law.Goals as goal

pub returns : goal.returns
returns c = freed_law
