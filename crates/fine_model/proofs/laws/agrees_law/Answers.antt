use Rattle.fine_model.proofs.Trees.NodeLaws.{Agrees-refl, Agrees-trans, Agrees-append}
use Rattle.fine_model.proofs.laws.agrees_law.Goals as goal

pub returns : goal.returns
returns c = record { itself = Agrees-refl; on = Agrees-trans; behind = Agrees-append }
