use Rattle.run_laws.proofs.Finish.{finished_law}
use Rattle.run_laws.proofs.laws.finished_law.Goals as goal

pub returns : goal.returns
returns c = finished_law
