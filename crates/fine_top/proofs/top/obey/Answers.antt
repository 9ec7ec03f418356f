-- A call that ends before its command is begun.
use Rattle.std.proofs.Common.{None}
use Rattle.command_words.specs.Words.{command_in}
use Rattle.fine_model.specs.Report.{reason_bytes}
use Rattle.fine_top.specs.Commands.{seen}
use Rattle.fine_top.proofs.Listing.{as_read}
use Rattle.fine_top.proofs.Unread.{lacks_memory, refuses_words}
use Rattle.fine_top.proofs.top.obey.Goals as goal

pub returns-in-None : goal.returns-in-None
returns-in-None g c =
    rw c.number.ensures (
    as_read c.in-Ok.command None (command_in c.args.words.now)
    (seen (g.S.Source.left c.args.script.now) (g.S.Source.faults c.args.script.now, g.S.Source.faults c.args.script.now) (g.K.Sink.faults c.args.out.now, g.K.Sink.faults c.print_reason.new.out)
    (g.D.LogDisk.state c.args.disk) (g.D.LogDisk.state c.args.disk) c.print_reason.result (g.K.Sink.written c.args.out.now) (g.K.Sink.written c.print_reason.new.out)) c.in-Ok.ensures.is c.in-None.is
    (refuses_words (g.S.Source.left c.args.script.now) (g.S.Source.faults c.args.script.now, g.S.Source.faults c.args.script.now) (g.K.Sink.faults c.args.out.now, g.K.Sink.faults c.print_reason.new.out)
    (g.D.LogDisk.state c.args.disk) c.print_reason.result (g.K.Sink.written c.args.out.now) (g.K.Sink.written c.print_reason.new.out)
    c.requires.idle.no_eyes c.print_reason.ensures.failed c.print_reason.ensures.status c.print_reason.ensures.puts))

pub returns-in-Err : goal.returns-in-Err
unfolding reason_bytes
returns-in-Err g c =
    rw c.number-in-Err.ensures (
    lacks_memory (g.S.Source.left c.args.script.now) (g.S.Source.faults c.args.script.now, g.S.Source.faults c.args.script.now) (g.K.Sink.faults c.args.out.now, g.K.Sink.faults c.print_no_memory.new.out)
    (g.D.LogDisk.state c.args.disk) c.print_no_memory.result (g.K.Sink.written c.args.out.now) (g.K.Sink.written c.print_no_memory.new.out)
    c.requires.idle.no_eyes c.print_no_memory.ensures.failed c.requires.idle c.regions-regions.ensures.sound c.print_no_memory.ensures.status c.print_no_memory.ensures.puts (command_in c.args.words.now))
