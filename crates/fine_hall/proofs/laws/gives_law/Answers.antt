use Rattle.fine_hall.proofs.Since.{gives_law}
use Rattle.fine_hall.proofs.laws.gives_law.Goals as goal

pub returns : goal.returns
returns g c = gives_law
