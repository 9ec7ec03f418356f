use Rattle.fine_hall.proofs.Counting.{epochs_later, nodes_later, buckets_later}
use Rattle.fine_hall.proofs.laws.later_law.Goals as goal

pub returns : goal.returns
returns g c = record { epochs = epochs_later; nodes = nodes_later; buckets = buckets_later g.B.BucketLaw.bucket g.B.BucketLaw.cached g.B.BucketLaw.is_settled }
