use Rattle.lane_laws.proofs.Works.{few_law, works_law}
use Rattle.lane_laws.proofs.laws.works_law.Goals as goal

pub returns-clause-works : goal.returns-clause-works
returns-clause-works c = works_law

pub returns-clause-few : goal.returns-clause-few
returns-clause-few c = few_law
