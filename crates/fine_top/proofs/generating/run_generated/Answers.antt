-- A run that was counted, or want of memory for its room.
use Rattle.std.proofs.Common.{inr, length}
use Rattle.fine_top.specs.Generating.{numbers}
use Rattle.fine_top.proofs.Counting.{generated_runs, lacks_memory}
use Rattle.fine_top.proofs.generating.run_generated.Goals as goal

pub returns-in-Ok-clause-counts : goal.returns-in-Ok-clause-counts
returns-in-Ok-clause-counts g c =
    generated_runs (numbers c.args.start (length c.args.opened.script) c.args.lanes) c.args.opened (g.D.LogDisk.state c.args.disk) (g.D.LogDisk.state c.count_run.result.disk) c.count_run.result.status (g.K.Sink.written c.args.out.now)
    (g.K.Sink.written c.count_run.new.out) c.default_options.result c.in-Ok.ran c.in-Ok.room c.default_options.ensures c.in-Ok.ensures.ok c.count_run.ensures.counts

pub returns-clause-counts : goal.returns-clause-counts
returns-clause-counts g c =
    rw c.number.ensures (
    inr (lacks_memory (g.D.LogDisk.state c.args.disk) (g.D.LogDisk.state c.in-Err.disk) c.print_no_memory.result (g.K.Sink.written c.args.out.now) (g.K.Sink.written c.print_no_memory.new.out) c.in-Err.ensures.err c.print_no_memory.ensures.status c.print_no_memory.ensures.puts))
