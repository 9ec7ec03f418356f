use Rattle.key_locks.proofs.Gathered.{stand_on}
use Rattle.key_locks.proofs.laws.stand_law.Goals as goal

pub returns : goal.returns
returns g c = stand_on g.B.BucketLaw.bucket g.B.BucketLaw.cached g.B.BucketLaw.is_settled
