use Rattle.fine_model.proofs.Trees.NodeBounds.{node_fits}
use Rattle.fine_model.proofs.Merging.FitMerged.{merged_fits}
use Rattle.fine_model.proofs.Trees.FitPushed.{pushed_fits}
use Rattle.fine_model.proofs.Histories.FitHistory.{legal_fits}
use Rattle.fine_model.proofs.bound_laws.bounds_law.Goals as goal

pub returns : goal.returns
returns c = record { nodes = node_fits; pushed = pushed_fits; legal = legal_fits; merged = merged_fits }
