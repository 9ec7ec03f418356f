use Rattle.fine_model.proofs.Histories.Stated.{row_law}
use Rattle.fine_model.proofs.laws.row_law.Goals as goal

pub returns : goal.returns
returns c = row_law
