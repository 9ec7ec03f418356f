use Rattle.fine_hall.proofs.Loading.{load_law}
use Rattle.fine_hall.proofs.laws.load_law.Goals as goal

pub returns : goal.returns
returns g c = load_law g.B.BucketLaw.bucket g.B.BucketLaw.cached g.B.BucketLaw.is_settled g.V.ViewLaw.state
