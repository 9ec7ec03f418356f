use Rattle.fine_model.proofs.Trees.SetLaw.{pushed_law}
use Rattle.fine_model.proofs.Histories.Legal.{all_pushed_law}
use Rattle.fine_model.proofs.laws.pushed_law.Goals as goal

pub returns : goal.returns
returns c = record { one = pushed_law; all = all_pushed_law }
