-- The parts of the lanes so far.
use Rattle.lane_threads.proofs.LanesBelow.{HasLanesBelow}
use Rattle.lane_threads.proofs.means.make_parts.Given as goal

abbrev pub invariant-loop-lane : goal.invariant-loop-lane
invariant-loop-lane l = HasLanesBelow l.script l.lane l.parts.items
