use Rattle.fine_hall.proofs.Troubles.{troubles_law}
use Rattle.fine_hall.proofs.laws.troubles_law.Goals as goal

pub returns : goal.returns
returns g c = record { law = troubles_law g.V.ViewLaw.state }
