use Rattle.run_laws.proofs.Runs.{ready_law}
use Rattle.run_laws.proofs.laws.ready_law.Goals as goal

pub returns : goal.returns
returns c = ready_law
