use Rattle.run_laws.proofs.Tellings.{more_beside, more_by_lane, told_more, told_stays}
use Rattle.run_laws.proofs.laws.told_law.Goals as goal

pub returns : goal.returns
returns c = record { stays = told_stays; more = told_more; by_lane = more_by_lane; beside = more_beside }
