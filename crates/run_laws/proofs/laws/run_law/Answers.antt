use Rattle.run_laws.proofs.Runs.{done_law, run_law}
use Rattle.run_laws.proofs.laws.run_law.Goals as goal

pub returns : goal.returns
returns c = record { run = run_law; done = done_law }
