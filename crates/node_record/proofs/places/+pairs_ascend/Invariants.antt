use Rattle.std.proofs.Common.{length}
use Rattle.node_record.proofs.places.+pairs_ascend.Given as goal

abbrev pub decreases-pairs_ascend : goal.decreases-pairs_ascend
decreases-pairs_ascend l = length l.pairs.now
