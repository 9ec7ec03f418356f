use Rattle.fine_model.proofs.Chain.Replaced.{replace_law}
use Rattle.fine_model.proofs.chain_laws.replace_law.Goals as goal

pub returns : goal.returns
returns c = replace_law
