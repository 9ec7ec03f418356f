use Rattle.run_laws.proofs.Turns.{in_turn_law}
use Rattle.run_laws.proofs.laws.in_turn_law.Goals as goal

pub returns : goal.returns
returns c = in_turn_law
