use Rattle.std.proofs.Common.{length, map}
use Rattle.fine_model.specs.declared.Mark.{Mark}
use Rattle.fine_model.specs.declared.Row.{Row}
use Rattle.fine_model.specs.Nodes.{Content}
use Rattle.std.specs.Prelude.{List}
use Rattle.partition_merge.specs.Leaves.{LeadsTo}
use Rattle.partition_merge.proofs.leaf.change_all.Given as goal

abbrev pub invariant-loop-left : goal.invariant-loop-left
invariant-loop-left l = (mark : Mark) (content : Content) (more : List Row) → LeadsTo mark content (map (λ t. t.now) l.fn.pairs) l.fn.version l.fn.rows more → LeadsTo mark content (map (λ t. t.now) l.pairs) l.version l.left more

abbrev pub decreases-loop-left : goal.decreases-loop-left
decreases-loop-left l = length l.left
