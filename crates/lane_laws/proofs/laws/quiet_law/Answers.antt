use Rattle.lane_laws.proofs.Quiet.{open_stays, open_together, quiet_first, quiet_stays, quiet_together}
use Rattle.lane_laws.proofs.laws.quiet_law.Goals as goal

pub returns-clause-stays : goal.returns-clause-stays
returns-clause-stays c = quiet_stays

pub returns-clause-first : goal.returns-clause-first
returns-clause-first c = quiet_first

pub returns-clause-together : goal.returns-clause-together
returns-clause-together c = quiet_together

pub returns-clause-open_stays : goal.returns-clause-open_stays
returns-clause-open_stays c = open_stays

pub returns-clause-open_together : goal.returns-clause-open_together
returns-clause-open_together c = open_together
