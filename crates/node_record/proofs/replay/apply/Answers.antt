use Rattle.std.proofs.Common.{subst, sym}
use Rattle.node_record.specs.Bounds.{FitsNode}
use Rattle.fine_model.proofs.Trees.NodeBounds.{step_fits}
use Rattle.node_record.proofs.replay.apply.Goals as goal

pub returns-clause-fits : goal.returns-clause-fits
returns-clause-fits c = subst FitsNode (sym c.in_ok-step_node.ensures.ok) (step_fits (c.args.node.now, c.args.version.now) c.args.row.now.version c.args.row.now.rec c.requires.node c.requires.row)
