use Rattle.fine_hall.proofs.Holding.{adds_elsewhere, held_stands, beside_stands}
use Rattle.fine_hall.proofs.laws.held_law.Goals as goal

pub returns : goal.returns
returns g c = record { rows = adds_elsewhere; stands = held_stands g.B.BucketLaw.bucket g.B.BucketLaw.cached g.B.BucketLaw.is_settled; beside = beside_stands g.B.BucketLaw.bucket g.B.BucketLaw.cached g.B.BucketLaw.is_settled }
