use Rattle.fine_model.proofs.Trees.FitPaths.{fit_law, scan_law}
use Rattle.fine_model.proofs.laws.fit_law.Goals as goal

pub returns : goal.returns
returns c = record { key = fit_law; scan = scan_law }
