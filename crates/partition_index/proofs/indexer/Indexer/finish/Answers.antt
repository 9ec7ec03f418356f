use Rattle.std.proofs.Common.{◌∙◌, sym, subst}
use Rattle.partition_index.specs.Indexer.{Indexes}
use Rattle.partition_index.proofs.Fed.{closed_bytes}
use Rattle.partition_index.proofs.indexer.Indexer.finish.Goals as goal

pub returns : goal.returns
returns c before rows so_far = c.close.ensures.bytes ∙ closed_bytes before rows _ (subst (Indexes before rows) (sym c.self.view_is) so_far)
