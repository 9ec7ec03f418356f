use Rattle.fine_model.proofs.Histories.HistoryLaws.{upto-last}
use Rattle.fine_model.proofs.Histories.Legal.{front_law, growth_law}
use Rattle.fine_model.proofs.laws.upto_law.Goals as goal

pub returns : goal.returns
returns c = record { front = front_law; grows = growth_law; whole = upto-last }
