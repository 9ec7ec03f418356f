use Rattle.fine_model.proofs.Histories.Stated.{whole_law}
use Rattle.fine_model.proofs.laws.whole_law.Goals as goal

pub returns : goal.returns
returns c = whole_law
