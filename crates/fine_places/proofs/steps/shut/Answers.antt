use Rattle.fine_places.proofs.Closing.{ends}
use Rattle.fine_places.proofs.steps.shut.Goals as goal

pub returns-clause-ended : goal.returns-clause-ended
returns-clause-ended g c = ends _ _ _ _ _ _ _ _ _ _ c.requires.empty c.requires.all c.close_with.ensures.values.2
