use Rattle.fine_model.proofs.Ordered.Pairs.{get-set_same}
use Rattle.fine_model.proofs.Trees.Joined.{get-set_other}
use Rattle.fine_model.proofs.laws.map_law.Goals as goal

pub returns : goal.returns
returns c = record { same = get-set_same; other = λ m key other value is. get-set_other m key other value is }
