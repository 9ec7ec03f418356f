use Rattle.fine_hall.proofs.Handed.{handed_law, handed_idle}
use Rattle.fine_hall.proofs.laws.handed_law.Goals as goal

pub returns : goal.returns
returns g c = record { all = handed_law g.V.ViewLaw.state; idle = handed_idle g.V.ViewLaw.state }
