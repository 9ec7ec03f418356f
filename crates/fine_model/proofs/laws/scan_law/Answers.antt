use Rattle.fine_model.proofs.Ordered.KeptPairs.{kept_first, kept_more, kept_cut, kept_all}
use Rattle.fine_model.proofs.laws.scan_law.Goals as goal

pub returns : goal.returns
returns c = record { first = kept_first; more = kept_more; cut = kept_cut; all = kept_all }
