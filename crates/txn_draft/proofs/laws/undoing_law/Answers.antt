use Rattle.txn_draft.proofs.Undoing.{restored, undone}
use Rattle.txn_draft.proofs.laws.undoing_law.Goals as goal

pub returns : goal.returns
returns c = record { restores = restored; undoes = undone }
