use Rattle.run_laws.proofs.Begin.{begins}
use Rattle.run_laws.proofs.Stepping.{ends, steps}
use Rattle.run_laws.proofs.laws.body_law.Goals as goal

pub returns : goal.returns
returns g c = record {
  begins = λ script options entry buckets ready group stand. begins g.B.BucketsLaw.stand_for script options entry buckets ready group stand;
  steps = λ script options entry. steps g.B.BucketsLaw.stand_for script options entry;
  ends = λ script options entry. ends g.B.BucketsLaw.stand_for script options entry;
}
