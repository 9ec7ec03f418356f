use Rattle.fine_hall.proofs.Troubles.{sees_law}
use Rattle.fine_hall.proofs.laws.sees_law.Goals as goal

pub returns : goal.returns
returns g c = record { law = sees_law g.V.ViewLaw.state }
