use Rattle.lane_threads.proofs.Gathered.{GathersAfter}
use Rattle.lane_threads.proofs.gathering.gather.Given as goal

abbrev pub invariant-loop-part : goal.invariant-loop-part
invariant-loop-part l = record {
  gathers : GathersAfter l._script l.initial.parts.items l.parts.items l.outcomes;
}

abbrev pub decreases-loop-part : goal.decreases-loop-part
decreases-loop-part l = goal.left-loop-part l
