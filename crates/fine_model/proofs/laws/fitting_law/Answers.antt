use Rattle.fine_model.proofs.Chain.Fitting.{free_fits, fits_of_test}
use Rattle.fine_model.proofs.laws.fitting_law.Goals as goal

pub returns : goal.returns
returns c = record { test = free_fits; of_test = fits_of_test }
