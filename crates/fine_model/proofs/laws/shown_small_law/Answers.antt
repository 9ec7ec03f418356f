use Rattle.fine_model.proofs.Histories.Stated.{shown_small}
use Rattle.fine_model.proofs.laws.shown_small_law.Goals as goal

pub returns : goal.returns
returns c = shown_small
