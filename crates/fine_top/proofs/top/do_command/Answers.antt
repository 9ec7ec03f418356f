-- What each command does.
use Rattle.std.proofs.Common.{subst}
use Rattle.command_words.specs.declared.command.Command.TheVariants as command
use Rattle.fine_top.specs.Commands.{seen}
use Rattle.fine_top.specs.Starting.{MayBegin}
use Rattle.fine_top.proofs.Listing.{as_meant, dump_does, merge_does}
use Rattle.fine_top.proofs.top.do_command.Goals as goal

pub run_and_print-requires-clause-begins : goal.run_and_print-requires-clause-begins
run_and_print-requires-clause-begins g c κs within = subst (λ k. MayBegin k (g.D.LogDisk.state c.args.disk)) c.in-Run.is c.requires.begins

pub generate_and_print-requires-clause-begins : goal.generate_and_print-requires-clause-begins
generate_and_print-requires-clause-begins g c κs within = subst (λ k. MayBegin k (g.D.LogDisk.state c.args.disk)) c.in-Gen.is c.requires.begins

pub returns-in-Run : goal.returns-in-Run
returns-in-Run g c =
    as_meant c.args.command (command.Run c.in-Run.options)
    (seen (g.S.Source.left c.args.script.now) (g.S.Source.faults c.args.script.now, g.S.Source.faults c.run_and_print.new.script) (g.K.Sink.faults c.args.out.now, g.K.Sink.faults c.run_and_print.new.out)
    (g.D.LogDisk.state c.args.disk) (g.D.LogDisk.state c.run_and_print.result.disk) c.run_and_print.result.status (g.K.Sink.written c.args.out.now) (g.K.Sink.written c.run_and_print.new.out)) c.in-Run.is
    c.run_and_print.ensures

pub returns-in-Dump : goal.returns-in-Dump
returns-in-Dump g c =
    rw c.number.ensures (
    as_meant c.args.command command.Dump
    (seen (g.S.Source.left c.args.script.now) (g.S.Source.faults c.args.script.now, g.S.Source.faults c.args.script.now) (g.K.Sink.faults c.args.out.now, g.K.Sink.faults c.dump_and_print-status.new.out)
    (g.D.LogDisk.state c.args.disk) (g.D.LogDisk.state c.dump_and_print-status.result.1) c.dump_and_print-status.result.0 (g.K.Sink.written c.args.out.now) (g.K.Sink.written c.dump_and_print-status.new.out)) c.in-Dump.is
    (dump_does (g.S.Source.left c.args.script.now) (g.S.Source.faults c.args.script.now, g.S.Source.faults c.args.script.now) (g.K.Sink.faults c.args.out.now, g.K.Sink.faults c.dump_and_print-status.new.out)
    (g.D.LogDisk.state c.args.disk) (g.D.LogDisk.state c.dump_and_print-status.result.1) c.dump_and_print-status.result.0 (g.K.Sink.written c.args.out.now) (g.K.Sink.written c.dump_and_print-status.new.out)
    c.dump_and_print-status.ensures.output_failed c.dump_and_print-status.ensures.known c.dump_and_print-status.ensures.ends c.dump_and_print-status.ensures.sound c.dump_and_print-status.ensures.any c.dump_and_print-status.ensures.disk_failed c.dump_and_print-status.ensures.disk_told c.dump_and_print-status.ensures.damaged c.dump_and_print-status.ensures.still_told c.dump_and_print-status.ensures.beside))

pub returns-in-Merge : goal.returns-in-Merge
returns-in-Merge g c =
    as_meant c.args.command command.Merge
    (seen (g.S.Source.left c.args.script.now) (g.S.Source.faults c.args.script.now, g.S.Source.faults c.args.script.now) (g.K.Sink.faults c.args.out.now, g.K.Sink.faults c.merge_and_print.new.out)
    (g.D.LogDisk.state c.args.disk) (g.D.LogDisk.state c.merge_and_print.result.disk) c.merge_and_print.result.status (g.K.Sink.written c.args.out.now) (g.K.Sink.written c.merge_and_print.new.out)) c.in-Merge.is
    (merge_does (g.S.Source.left c.args.script.now) (g.S.Source.faults c.args.script.now, g.S.Source.faults c.args.script.now) (g.K.Sink.faults c.args.out.now, g.K.Sink.faults c.merge_and_print.new.out)
    (g.D.LogDisk.state c.args.disk) (g.D.LogDisk.state c.merge_and_print.result.disk) c.merge_and_print.result.status (g.K.Sink.written c.args.out.now) (g.K.Sink.written c.merge_and_print.new.out)
    c.merge_and_print.ensures.output_failed c.merge_and_print.ensures.known c.merge_and_print.ensures.disk_told c.merge_and_print.ensures.ends c.merge_and_print.ensures.merge c.merge_and_print.ensures.any c.merge_and_print.ensures.disk_failed c.merge_and_print.ensures.damaged c.merge_and_print.ensures.keeps)

pub returns-in-Gen : goal.returns-in-Gen
returns-in-Gen g c =
    as_meant c.args.command (command.Gen c.in-Gen.start c.in-Gen.count c.in-Gen.lanes)
    (seen (g.S.Source.left c.args.script.now) (g.S.Source.faults c.args.script.now, g.S.Source.faults c.args.script.now) (g.K.Sink.faults c.args.out.now, g.K.Sink.faults c.generate_and_print.new.out)
    (g.D.LogDisk.state c.args.disk) (g.D.LogDisk.state c.generate_and_print.result.disk) c.generate_and_print.result.status (g.K.Sink.written c.args.out.now) (g.K.Sink.written c.generate_and_print.new.out)) c.in-Gen.is
    (c.generate_and_print.ensures (g.S.Source.left c.args.script.now) (g.S.Source.faults c.args.script.now, g.S.Source.faults c.args.script.now))
