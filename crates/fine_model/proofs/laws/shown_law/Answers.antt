use Rattle.fine_model.proofs.Chain.Unique.{Shows-unique}
use Rattle.fine_model.proofs.laws.shown_law.Goals as goal

pub returns : goal.returns
returns c = Shows-unique
