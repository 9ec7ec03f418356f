use Rattle.node_fetch.specs.Spans.{FramedSoFar}
use Rattle.node_fetch.proofs.span.frames_in.Given as goal

abbrev pub invariant-loop : goal.invariant-loop
invariant-loop l = FramedSoFar l.mark l.bytes l.node l.counter l.at l.frames
