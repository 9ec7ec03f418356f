use Rattle.std.proofs.Common.{length}
use Rattle.node_fetch.proofs.rebuild.+rebuilt.Given as goal

abbrev pub decreases-rebuilt : goal.decreases-rebuilt
decreases-rebuilt g l = length l.parts.now
