use Rattle.fine_model.proofs.Ordered.Gathered.{range_law}
use Rattle.fine_model.proofs.laws.range_law.Goals as goal

pub returns : goal.returns
returns c = range_law
