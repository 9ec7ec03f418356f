use Rattle.txn_draft.proofs.Lasting.{settle_law, undo_law}
use Rattle.txn_draft.proofs.standing.ends_law.Goals as goal

pub returns : goal.returns
returns c = record { settle = settle_law; undo = undo_law }
