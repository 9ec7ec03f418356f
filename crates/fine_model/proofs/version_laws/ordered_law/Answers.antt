use Rattle.fine_model.proofs.Ordered.Arranged.{ordered_law}
use Rattle.fine_model.proofs.version_laws.ordered_law.Goals as goal

pub returns : goal.returns
returns c = ordered_law
