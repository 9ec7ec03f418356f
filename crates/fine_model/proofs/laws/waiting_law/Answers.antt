use Rattle.fine_model.proofs.Histories.Epochs.{waiting_push, seals, none_wait, all_upto}
use Rattle.fine_model.proofs.laws.waiting_law.Goals as goal

pub returns : goal.returns
returns c = record { more = waiting_push; seals = seals; none = none_wait; all = all_upto }
