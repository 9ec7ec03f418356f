use Rattle.std.proofs.Common.{length}
use Rattle.btree_nodes.proofs.insertion.+first_over.Given as goal

abbrev pub decreases-first_over : goal.decreases-first_over
decreases-first_over l = length l.rows.now
