use Rattle.std.proofs.Common.{length}
use Rattle.node_record.proofs.places.+keys_ascend.Given as goal

abbrev pub decreases-keys_ascend : goal.decreases-keys_ascend
decreases-keys_ascend l = length l.keys.now
