use Rattle.fine_model.proofs.Merging.MergedLen.{merged_len}
use Rattle.fine_model.proofs.Merging.MergedOrder.{merged_order}
use Rattle.fine_model.proofs.Merging.MergedRuns.{merged_agrees}
use Rattle.fine_model.proofs.laws.merged_law.Goals as goal

pub returns : goal.returns
returns c = record { len = merged_len; order = merged_order; agrees = merged_agrees }
