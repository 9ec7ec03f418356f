use Rattle.fine_model.proofs.Histories.HistoryLaws.{IsLegal-push}
use Rattle.fine_model.proofs.Histories.Legal.{legal_front, legal_map}
use Rattle.fine_model.proofs.laws.legal_law.Goals as goal

pub returns : goal.returns
returns c = record { front = legal_front; next = IsLegal-push; map = legal_map }
