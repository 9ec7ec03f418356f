-- A run of the generated script, or a call that ends before.
use Rattle.fine_top.specs.Generating.{numbers}
use Rattle.fine_top.proofs.Counting.{early_ends, gen_ends}
use Rattle.fine_top.proofs.Doing.{gen_does, ready_to_run}
use Rattle.fine_top.proofs.generating.generate_and_print.Goals as goal

pub run_generated-requires-clause-ready : goal.run_generated-requires-clause-ready
run_generated-requires-clause-ready g c κs within =
    ready_to_run c.in-Ok.opened.script (g.D.LogDisk.state c.args.disk) (g.D.LogDisk.state c.open_generated.new.disk) c.in-Ok.opened.chain c.in-Ok.ensures.ok.1 c.requires.begins.idle c.in-Ok.ensures.ok.0.sees c.in-Ok.ensures.ok.0.fits

pub returns-in-Ok : goal.returns-in-Ok
returns-in-Ok g c = λ left source.
    gen_does c.args.start c.args.count c.args.lanes left source (g.K.Sink.faults c.args.out.now, g.K.Sink.faults c.run_generated.new.out) (g.D.LogDisk.state c.args.disk) (g.D.LogDisk.state c.run_generated.result.disk) c.run_generated.result.status
    (g.K.Sink.written c.args.out.now) (g.K.Sink.written c.run_generated.new.out) c.requires.begins.idle c.regions-regions.ensures.sound c.run_generated.ensures.failed
    (gen_ends c.args.start c.args.count c.args.lanes c.in-Ok.opened (g.D.LogDisk.state c.args.disk) (g.D.LogDisk.state c.open_generated.new.disk) (g.D.LogDisk.state c.run_generated.result.disk) c.run_generated.result.status (g.K.Sink.written c.args.out.now)
    (g.K.Sink.written c.run_generated.new.out) c.in-Ok.ensures.ok.0 c.in-Ok.ensures.ok.1 c.run_generated.ensures.counts)

pub returns-in-Err : goal.returns-in-Err
returns-in-Err g c = λ left source.
    rw c.number.ensures (
    gen_does c.args.start c.args.count c.args.lanes left source (g.K.Sink.faults c.args.out.now, g.K.Sink.faults c.print_reason.new.out) (g.D.LogDisk.state c.args.disk) (g.D.LogDisk.state c.open_generated.new.disk) c.print_reason.result
    (g.K.Sink.written c.args.out.now) (g.K.Sink.written c.print_reason.new.out) c.requires.begins.idle c.regions-regions.ensures.sound c.print_reason.ensures.failed
    (early_ends (numbers c.args.start c.args.count c.args.lanes) (g.D.LogDisk.state c.args.disk) (g.D.LogDisk.state c.open_generated.new.disk) c.print_reason.result (g.K.Sink.written c.args.out.now) (g.K.Sink.written c.print_reason.new.out) c.in-Err.fault
    c.in-Err.ensures.err c.print_reason.ensures.status c.print_reason.ensures.puts))
