use Rattle.lane_threads.specs.Resting.{RestedSoFar}
use Rattle.lane_threads.proofs.resting.finish_parts.Given as goal

abbrev pub invariant-loop-at : goal.invariant-loop-at
invariant-loop-at g l = record { so_far : RestedSoFar l.hall l.script l.options.group l.at l.first l.others l.parts }
