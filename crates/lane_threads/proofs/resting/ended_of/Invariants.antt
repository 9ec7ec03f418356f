use Rattle.lane_threads.specs.Resting.{EndedSoFar}
use Rattle.lane_threads.proofs.resting.ended_of.Given as goal

abbrev pub invariant-loop-k : goal.invariant-loop-k
invariant-loop-k l = record { so_far : EndedSoFar l.k l.parts l.ended }
