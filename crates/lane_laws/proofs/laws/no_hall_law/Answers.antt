use Rattle.lane_laws.proofs.NoHall.{no_hall_law}
use Rattle.lane_laws.proofs.laws.no_hall_law.Goals as goal

pub returns : goal.returns
returns c = no_hall_law
