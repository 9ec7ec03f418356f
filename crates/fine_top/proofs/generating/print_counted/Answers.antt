-- The text of a summary, with the map or with a fault.
use Rattle.std.proofs.Common.{◌∙◌, ap, sym, Ok}
use Rattle.fine_top.proofs.Counting.{prints_fault, prints_map}
use Rattle.fine_top.proofs.generating.print_counted.Goals as goal

pub returns-in-Ok-clause-prints : goal.returns-in-Ok-clause-prints
returns-in-Ok-clause-prints g c =
    prints_map c.args.start c.args.lanes c.args.script.now c.args.outcomes.now c.args.all_durable c.args.found.now c.print_run.result (g.K.Sink.written c.args.out.now) (g.K.Sink.written c.print_run.new.out) c.as_slice.result.now (c.in-Ok.is ∙ ap (λ pairs. Ok pairs) (sym c.as_slice.ensures))
    c.print_run.ensures.status c.print_run.ensures.puts

pub returns-in-Err-clause-prints : goal.returns-in-Err-clause-prints
returns-in-Err-clause-prints g c =
    prints_fault c.args.start c.args.lanes c.args.script.now c.args.outcomes.now c.args.all_durable c.args.found.now c.print_run-in-Err.result (g.K.Sink.written c.args.out.now) (g.K.Sink.written c.print_run-in-Err.new.out) c.in-Err.fault c.in-Err.is
    c.print_run-in-Err.ensures.status c.print_run-in-Err.ensures.puts
