use Rattle.txn_draft.proofs.Lawful.{taken_law, others_law, between_law, restored_law, used_law}
use Rattle.txn_draft.proofs.laws.bucket_law.Goals as goal

pub returns : goal.returns
returns c = record { taken = taken_law; others = others_law; between = between_law; restored = restored_law; used = used_law }
