use Rattle.lane_runs.proofs.Stays.{runs_stay}
use Rattle.lane_runs.proofs.laws.stay_law.Goals as goal

pub returns : goal.returns
returns c = runs_stay
