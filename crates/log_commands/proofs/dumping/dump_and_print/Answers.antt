-- All follows from how the command ended.
use Rattle.log_commands.proofs.Dumped.{beside, disk_failed, disk_told, dumps_any, dumps_well, known, still_told, unsound_log}
use Rattle.log_commands.proofs.dumping.dump_and_print.Goals as goal

pub returns-clause-sound : goal.returns-clause-sound
returns-clause-sound g c =
    dumps_well (g.K.Sink.faults c.args.out.now, g.K.Sink.faults c.dump_log.new.out) (g.D.LogDisk.state c.args.disk) (g.D.LogDisk.state c.dump_log.result.1) c.dump_log.result.0 (g.K.Sink.written c.args.out.now)
    (g.K.Sink.written c.dump_log.new.out) c.dump_log.ensures.failed c.dump_log.ensures.ends

pub returns-clause-any : goal.returns-clause-any
returns-clause-any g c =
    dumps_any (g.K.Sink.faults c.args.out.now, g.K.Sink.faults c.dump_log.new.out) (g.D.LogDisk.state c.args.disk) (g.D.LogDisk.state c.dump_log.result.1) c.dump_log.result.0 (g.K.Sink.written c.args.out.now)
    (g.K.Sink.written c.dump_log.new.out) c.dump_log.ensures.failed c.dump_log.ensures.ends

pub returns-clause-disk_failed : goal.returns-clause-disk_failed
returns-clause-disk_failed g c = disk_failed (g.D.LogDisk.state c.args.disk) (g.D.LogDisk.state c.dump_log.result.1) c.dump_log.result.0 (g.K.Sink.written c.args.out.now) (g.K.Sink.written c.dump_log.new.out) c.dump_log.ensures.ends

pub returns-clause-disk_told : goal.returns-clause-disk_told
returns-clause-disk_told g c = disk_told (g.D.LogDisk.state c.args.disk) (g.D.LogDisk.state c.dump_log.result.1) c.dump_log.result.0 (g.K.Sink.written c.args.out.now) (g.K.Sink.written c.dump_log.new.out) c.dump_log.ensures.ends

pub returns-clause-known : goal.returns-clause-known
returns-clause-known g c = known (g.D.LogDisk.state c.args.disk) (g.D.LogDisk.state c.dump_log.result.1) c.dump_log.result.0 (g.K.Sink.written c.args.out.now) (g.K.Sink.written c.dump_log.new.out) c.dump_log.ensures.ends

pub returns-clause-damaged : goal.returns-clause-damaged
returns-clause-damaged g c = unsound_log (g.D.LogDisk.state c.args.disk) (g.D.LogDisk.state c.dump_log.result.1) c.dump_log.result.0 (g.K.Sink.written c.args.out.now) (g.K.Sink.written c.dump_log.new.out) c.dump_log.ensures.ends

pub returns-clause-still_told : goal.returns-clause-still_told
returns-clause-still_told g c = still_told (g.D.LogDisk.state c.args.disk) (g.D.LogDisk.state c.dump_log.result.1) c.dump_log.result.0 (g.K.Sink.written c.args.out.now) (g.K.Sink.written c.dump_log.new.out) c.dump_log.ensures.ends

pub returns-clause-beside : goal.returns-clause-beside
returns-clause-beside g c =
    beside (g.D.LogDisk.state c.args.disk) (g.D.LogDisk.state c.dump_log.result.1) c.dump_log.result.0 (g.K.Sink.written c.args.out.now) (g.K.Sink.written c.dump_log.new.out) c.requires.idle c.dump_log.ensures.ends
