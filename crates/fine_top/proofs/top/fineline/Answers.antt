-- Where nothing fails, a command is done.
use Rattle.command_words.specs.Words.{command_in}
use Rattle.fine_top.specs.Commands.{seen}
use Rattle.fine_top.proofs.Complete.{complete}
use Rattle.fine_top.proofs.top.fineline.Goals as goal

pub returns-clause-complete : goal.returns-clause-complete
returns-clause-complete g c = λ script sound none.
    complete (seen (g.S.Source.left c.args.script.now) (g.S.Source.faults c.args.script.now, g.S.Source.faults c.obey.new.script) (g.K.Sink.faults c.args.out.now, g.K.Sink.faults c.obey.new.out)
    (g.D.LogDisk.state c.args.disk) (g.D.LogDisk.state c.obey.result.disk) c.obey.result.status (g.K.Sink.written c.args.out.now) (g.K.Sink.written c.obey.new.out)) sound none (command_in c.args.words.now) c.obey.ensures script
