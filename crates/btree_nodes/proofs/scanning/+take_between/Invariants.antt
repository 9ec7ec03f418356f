use Rattle.std.proofs.Common.{length}
use Rattle.btree_nodes.proofs.scanning.+take_between.Given as goal

abbrev pub decreases-take_between : goal.decreases-take_between
decreases-take_between l = length l.pairs.now
