use Rattle.epoch_room.proofs.Erasures.GateSteps.{Begun}
use Rattle.epoch_room.proofs.closing.write_gates.Given as goal

-- the gates before the next one are closed
abbrev pub invariant-loop-begun : goal.invariant-loop-begun
invariant-loop-begun g l = Begun l.leads l.begun (g.D.LogDisk.state l.fn.disk) (g.D.LogDisk.state l.disk)
