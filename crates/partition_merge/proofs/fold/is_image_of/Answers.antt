use Rattle.std.proofs.Common.{◌∙◌, sym}
use Rattle.partition_merge.proofs.Folding.{stay_image}
use Rattle.partition_merge.proofs.Sources.{nodes_same}
use Rattle.partition_merge.proofs.fold.is_image_of.Goals as goal

pub returns : goal.returns
returns c = λ yes. stay_image c.args.node c.args.row.now (nodes_same c.args.row.now.node c.args.node c.if-ne.ensures) (sym c.is_image.ensures ∙ yes)
