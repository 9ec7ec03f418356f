use Rattle.fine_model.proofs.Histories.Epochs.{follows_on, below_law, split_law}
use Rattle.fine_model.proofs.laws.epochs_law.Goals as goal

pub returns : goal.returns
returns c = record { on = follows_on; below = below_law; split = split_law }
