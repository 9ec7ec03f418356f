use Rattle.fine_model.proofs.Histories.Stated.{leaf_law}
use Rattle.fine_model.proofs.laws.leaf_law.Goals as goal

pub returns : goal.returns
returns c = leaf_law
