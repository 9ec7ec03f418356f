use Rattle.fine_model.proofs.Ordered.FewPairs.{few_pairs}
use Rattle.fine_model.proofs.Ordered.KeptPairs.{pairs_fit, whole_range}
use Rattle.fine_model.proofs.laws.keys_law.Goals as goal

pub returns : goal.returns
returns c = record { fit = pairs_fit; few = few_pairs; whole = whole_range }
