use Rattle.run_laws.proofs.Runs.{status_law}
use Rattle.run_laws.proofs.laws.status_law.Goals as goal

pub returns : goal.returns
returns c = status_law
