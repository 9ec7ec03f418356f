-- A run on the log that was opened, or a call that ends before anything is run.
use Rattle.log_disk.specs.Disk.{HasRisen}
use Rattle.fine_top.proofs.Doing.{early_run, ready_to_run, run_does}
use Rattle.fine_top.proofs.Theorem.{ends_run}
use Rattle.fine_top.proofs.running.run_and_print.Goals as goal

pub run_opened-requires-clause-ready : goal.run_opened-requires-clause-ready
run_opened-requires-clause-ready g c κs within =
    ready_to_run c.in-Ok.opened.script (g.D.LogDisk.state c.args.disk) (g.D.LogDisk.state c.open_run.new.disk) c.in-Ok.opened.chain c.in-Ok.ensures.same c.requires.begins.idle c.in-Ok.ensures.ok.sees c.in-Ok.ensures.ok.fits

pub run_opened-requires-clause-group : goal.run_opened-requires-clause-group
run_opened-requires-clause-group g c κs within = c.requires.begins.within.group.0

pub returns-in-Ok : goal.returns-in-Ok
returns-in-Ok g c =
    run_does c.args.options.now (g.S.Source.left c.args.script.now) (g.S.Source.faults c.args.script.now, g.S.Source.faults c.open_run.new.source) (g.K.Sink.faults c.args.out.now, g.K.Sink.faults c.run_opened.new.out)
    (g.D.LogDisk.state c.args.disk) (g.D.LogDisk.state c.run_opened.result.disk) c.run_opened.result.status (g.K.Sink.written c.args.out.now) (g.K.Sink.written c.run_opened.new.out)
    c.requires.begins.idle c.regions-regions.ensures.sound c.run_opened.ensures.failed
    (ends_run c.args.options.now (HasRisen (g.S.Source.faults c.args.script.now) (g.S.Source.faults c.open_run.new.source)) (g.S.Source.left c.args.script.now) c.in-Ok.opened.script (g.D.LogDisk.state c.args.disk) (g.D.LogDisk.state c.open_run.new.disk)
    (g.D.LogDisk.state c.run_opened.result.disk) c.run_opened.result.status (g.K.Sink.written c.args.out.now) (g.K.Sink.written c.run_opened.new.out) c.in-Ok.ensures.same c.in-Ok.ensures.ok.spelled c.run_opened.ensures.ends)

pub returns-in-Err : goal.returns-in-Err
returns-in-Err g c =
    rw c.number.ensures (
    run_does c.args.options.now (g.S.Source.left c.args.script.now) (g.S.Source.faults c.args.script.now, g.S.Source.faults c.open_run.new.source) (g.K.Sink.faults c.args.out.now, g.K.Sink.faults c.print_reason.new.out)
    (g.D.LogDisk.state c.args.disk) (g.D.LogDisk.state c.open_run.new.disk) c.print_reason.result (g.K.Sink.written c.args.out.now) (g.K.Sink.written c.print_reason.new.out)
    c.requires.begins.idle c.regions-regions.ensures.sound c.print_reason.ensures.failed
    (early_run c.args.options.now (HasRisen (g.S.Source.faults c.args.script.now) (g.S.Source.faults c.open_run.new.source)) (g.S.Source.left c.args.script.now) (g.D.LogDisk.state c.args.disk) (g.D.LogDisk.state c.open_run.new.disk)
    c.print_reason.result (g.K.Sink.written c.args.out.now) (g.K.Sink.written c.print_reason.new.out) c.in-Err.reason c.in-Err.ensures.reason c.in-Err.ensures.early c.print_reason.ensures.status c.print_reason.ensures.puts))
