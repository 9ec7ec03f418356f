use Rattle.fine_model.proofs.Chain.Grammar.{sealed_not_bad}
use Rattle.fine_model.proofs.laws.sealed_law.Goals as goal

pub returns : goal.returns
returns c = sealed_not_bad
