use Rattle.run_laws.proofs.Nothing.{nothing_law}
use Rattle.run_laws.proofs.laws.nothing_law.Goals as goal

pub returns : goal.returns
returns c = nothing_law
