use Rattle.fine_model.proofs.Merging.MergedRuns.{merged_run_len, merged_run_order, merged_run_fits, merged_run_agrees}
use Rattle.fine_model.proofs.laws.merged_run_law.Goals as goal

pub returns : goal.returns
returns c = record { len = merged_run_len; order = merged_run_order; fits = merged_run_fits; agrees = merged_run_agrees }
