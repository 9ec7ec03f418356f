use Rattle.epoch_room.proofs.Erasures.GateSteps.{closes_failed, closes_ok}
use Rattle.epoch_room.proofs.closing.close_gates.Goals as goal

pub returns-in-Ok : goal.returns-in-Ok
returns-in-Ok g c =
    closes_ok c.args.leads.now c.write_gates-begun.result.0 c.write_gates-begun.result.1 (g.D.LogDisk.state c.args.disk.now) (g.D.LogDisk.state c.write_gates-begun.new.disk) (g.D.LogDisk.state c.sync.new.self) c.write_gates-begun.ensures
    c.if-begun-eq0.false c.in-Ok.ensures.ok (c.has_failed.ensures.no c.if-has_failed.false)

pub returns-in-Err : goal.returns-in-Err
returns-in-Err g c =
    closes_failed c.args.leads.now c.write_gates-begun.result.0 c.write_gates-begun.result.1 (g.D.LogDisk.state c.args.disk.now) (g.D.LogDisk.state c.write_gates-begun.new.disk) (g.D.LogDisk.state c.sync.new.self) c.write_gates-begun.ensures
    c.if-begun-eq0.false c.in-Err.ensures.err
