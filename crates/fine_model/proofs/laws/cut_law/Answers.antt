use Rattle.fine_model.proofs.Ordered.Gathered.{order_law, cut_law}
use Rattle.fine_model.proofs.laws.cut_law.Goals as goal

pub returns : goal.returns
returns c = record { order = order_law; cut = cut_law }
