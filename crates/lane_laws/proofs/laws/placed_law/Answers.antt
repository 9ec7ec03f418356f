use Rattle.lane_laws.proofs.Placing.{placed_at, placed_commits, placed_on, placed_only, placed_others, placed_rise, placed_stays}
use Rattle.lane_laws.proofs.laws.placed_law.Goals as goal

pub returns-clause-on : goal.returns-clause-on
returns-clause-on c = placed_on

pub returns-clause-others : goal.returns-clause-others
returns-clause-others c = placed_others

pub returns-clause-stays : goal.returns-clause-stays
returns-clause-stays c = placed_stays

pub returns-clause-at : goal.returns-clause-at
returns-clause-at c = placed_at

pub returns-clause-only : goal.returns-clause-only
returns-clause-only c = placed_only

pub returns-clause-rise : goal.returns-clause-rise
returns-clause-rise c = placed_rise

pub returns-clause-commits : goal.returns-clause-commits
returns-clause-commits c = placed_commits
