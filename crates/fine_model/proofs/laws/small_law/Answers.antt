use Rattle.fine_model.proofs.Histories.Stated.{small_law}
use Rattle.fine_model.proofs.laws.small_law.Goals as goal

pub returns : goal.returns
returns c = small_law
