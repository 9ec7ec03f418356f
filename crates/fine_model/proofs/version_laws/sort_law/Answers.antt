use Rattle.fine_model.proofs.Ordered.Arranged.{stable_law, lower_law}
use Rattle.fine_model.proofs.Merging.Unstable.{are_orders, unstable_law}
use Rattle.fine_model.proofs.version_laws.sort_law.Goals as goal

pub returns : goal.returns
returns c = record { orders = are_orders; stable = stable_law; unstable = unstable_law; lower = lower_law }
