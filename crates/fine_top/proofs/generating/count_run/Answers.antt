-- What is left of a room whose map was read, and what was printed.
use Rattle.std.proofs.Common.{ap, length}
use Rattle.epoch_room.specs.Fitting.{counts_of}
use Rattle.epoch_room.specs.declared.answers.Counts.{Counts}
use Rattle.fine_top.specs.Generating.{numbers}
use Rattle.fine_top.proofs.Counting.{read_board, read_job, run_counted}
use Rattle.fine_top.proofs.generating.count_run.Goals as goal

pub into_disk-requires-clause-board : goal.into_disk-requires-clause-board
into_disk-requires-clause-board g c κs within = read_board c.args.ran.fault c.args.room c.read_end-found.new.room c.read_end-found.result c.requires.board c.read_end-found.ensures

pub into_disk-requires-clause-no_job : goal.into_disk-requires-clause-no_job
into_disk-requires-clause-no_job g c κs within = read_job c.args.ran.fault c.args.room c.read_end-found.new.room c.read_end-found.result c.requires.no_job c.read_end-found.ensures

pub returns-clause-counts : goal.returns-clause-counts
unfolding counts_of
returns-clause-counts g c =
    rw c.number.ensures (
    run_counted (numbers c.args.start (length c.args.script.now) c.args.lanes) c.args.script.now c.args.ran c.args.room c.read_end-found.new.room (g.D.LogDisk.state c.into_disk.result) c.print_counted-status.result (g.K.Sink.written c.args.out.now)
    (g.K.Sink.written c.print_counted-status.new.out) c.read_end-found.result c.counts-all_durable.result.waiting c.as_slice.result.now c.counts-left.ensures.whole c.into_disk.ensures.disk c.read_end-found.ensures
    (ap (λ (n : Counts). n.waiting) c.counts-all_durable.ensures.counts) c.as_slice.ensures c.print_counted-status.ensures.prints)
