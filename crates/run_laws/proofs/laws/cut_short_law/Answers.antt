use Rattle.run_laws.proofs.CutShort.{cut_short_law}
use Rattle.run_laws.proofs.laws.cut_short_law.Goals as goal

pub returns : goal.returns
returns c = cut_short_law
