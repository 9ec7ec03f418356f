use Rattle.fine_model.proofs.Ordered.Permuted.{permuted_law}
use Rattle.fine_model.proofs.version_laws.permuted_law.Goals as goal

pub returns : goal.returns
returns c = permuted_law
