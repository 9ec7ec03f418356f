-- The theorem follows from how the command ended.
use Rattle.log_commands.proofs.AnyTheorem.{merges_any}
use Rattle.log_commands.proofs.MergeTheorem.{damaged, keeps_log, merges_well}
use Rattle.log_commands.proofs.commands.merge_and_print.Goals as goal

pub returns-clause-merge : goal.returns-clause-merge
returns-clause-merge g c =
    merges_well (g.D.LogDisk.state c.args.disk) (g.D.LogDisk.state c.merge_found-finish.result.disk) c.merge_found-finish.result.status (g.K.Sink.written c.args.out.now) (g.K.Sink.written c.merge_found-finish.new.out)
    c.merge_found-finish.ensures.ends (g.K.Sink.faults c.args.out.now, g.K.Sink.faults c.merge_found-finish.new.out) c.merge_found-finish.ensures.failed c.regions-regions.ensures.sound

pub returns-clause-any : goal.returns-clause-any
returns-clause-any g c =
    merges_any (g.D.LogDisk.state c.args.disk) (g.D.LogDisk.state c.merge_found-finish.result.disk) c.merge_found-finish.result.status (g.K.Sink.written c.args.out.now) (g.K.Sink.written c.merge_found-finish.new.out)
    c.merge_found-finish.ensures.ends (g.K.Sink.faults c.args.out.now, g.K.Sink.faults c.merge_found-finish.new.out) c.merge_found-finish.ensures.failed

pub returns-clause-damaged : goal.returns-clause-damaged
returns-clause-damaged g c =
    damaged (g.D.LogDisk.state c.args.disk) (g.D.LogDisk.state c.merge_found-finish.result.disk) c.merge_found-finish.result.status (g.K.Sink.written c.args.out.now) (g.K.Sink.written c.merge_found-finish.new.out)
    c.merge_found-finish.ensures.ends

pub returns-clause-keeps : goal.returns-clause-keeps
returns-clause-keeps g c =
    keeps_log (g.D.LogDisk.state c.args.disk) (g.D.LogDisk.state c.merge_found-finish.result.disk) c.merge_found-finish.result.status (g.K.Sink.written c.args.out.now) (g.K.Sink.written c.merge_found-finish.new.out)
    c.merge_found-finish.ensures.ends
