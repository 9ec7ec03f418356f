use Rattle.fine_hall.proofs.Fronts.{front_goes_on, used_stays, used_itself, used_on}
use Rattle.fine_hall.proofs.laws.front_law.Goals as goal

pub returns : goal.returns
returns g c = record { law = front_goes_on g.V.ViewLaw.state; stays = used_stays g.V.ViewLaw.state; itself = used_itself g.V.ViewLaw.state; on = used_on g.V.ViewLaw.state }
