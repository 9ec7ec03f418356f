use Rattle.run_laws.proofs.Runs.{behind_law}
use Rattle.run_laws.proofs.laws.behind_law.Goals as goal

pub returns : goal.returns
returns c = behind_law
