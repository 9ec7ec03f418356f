use Rattle.run_laws.proofs.Caused.{causes_law, stays_refused}
use Rattle.run_laws.proofs.laws.causes_law.Goals as goal

pub returns : goal.returns
returns c = record { stays = stays_refused; causes = causes_law }
