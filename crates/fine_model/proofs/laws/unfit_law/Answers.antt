use Rattle.fine_model.proofs.Trees.FoundUnfit.{found_unfit, soundly_fit, unfit_law}
use Rattle.fine_model.proofs.laws.unfit_law.Goals as goal

pub returns : goal.returns
returns c = record { found = found_unfit; sound = soundly_fit; finds = unfit_law }
