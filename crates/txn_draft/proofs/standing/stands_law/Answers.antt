use Rattle.txn_draft.proofs.Lasting.{new_law, holds_law, evict_law, same_law, beside_law, untouched_law}
use Rattle.txn_draft.proofs.standing.stands_law.Goals as goal

pub returns : goal.returns
returns c = record { new = new_law; holds = holds_law; evict = evict_law; same = same_law; beside = beside_law; untouched = untouched_law }
