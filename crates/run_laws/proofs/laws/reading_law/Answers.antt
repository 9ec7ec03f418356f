use Rattle.run_laws.proofs.Readings.{legal_law, sees_law, unsound_law}
use Rattle.run_laws.proofs.laws.reading_law.Goals as goal

pub returns : goal.returns
returns c = record { sees = sees_law; legal = legal_law; unsound = unsound_law }
