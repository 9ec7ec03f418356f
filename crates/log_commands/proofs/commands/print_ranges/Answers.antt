-- The theorem follows from how the command ended.
use Rattle.log_commands.proofs.Ranges.{left_alone, ranges_well}
use Rattle.log_commands.proofs.commands.print_ranges.Goals as goal

pub returns-clause-ranges : goal.returns-clause-ranges
returns-clause-ranges g c =
    ranges_well (g.K.Sink.faults c.args.out.now, g.K.Sink.faults c.print_found.new.out) (g.D.LogDisk.state c.args.disk) (g.D.LogDisk.state c.print_found.result.disk) c.print_found.result.status
    (g.K.Sink.written c.args.out.now) (g.K.Sink.written c.print_found.new.out) c.print_found.ensures.failed c.print_found.ensures.ends

pub returns-clause-untouched : goal.returns-clause-untouched
returns-clause-untouched g c = left_alone (g.D.LogDisk.state c.args.disk) (g.D.LogDisk.state c.print_found.result.disk) c.print_found.ensures.ends.found c.print_found.ensures.ends.is_found
