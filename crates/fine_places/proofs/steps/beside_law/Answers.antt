use Rattle.fine_places.proofs.Behind.{beside_allows}
use Rattle.fine_places.proofs.steps.beside_law.Goals as goal

pub returns : goal.returns
returns g c = record { law = λ x slots id me i f st far behind step. beside_allows _ _ _ _ g.L.PlaceLaw.grows g.E.BesideLaw.keeps x slots id me i f (g.P.Play.then st me) far behind step }
