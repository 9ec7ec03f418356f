use Rattle.damage_laws.proofs.Counted.{counted}
use Rattle.damage_laws.proofs.laws.counted_law.Goals as goal

pub returns : goal.returns
returns c = counted
