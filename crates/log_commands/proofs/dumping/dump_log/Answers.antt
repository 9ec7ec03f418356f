use Rattle.std.proofs.Common.{Err, ap, subst}
use Rattle.std.specs.List.{list_all}
use Rattle.fine_model.specs.Boards.{is_empty}
use Rattle.fine_model.specs.declared.RunFault.{RunFault}
use Rattle.epoch_room.specs.Value.{RoomValue}
use Rattle.log_commands.specs.Dumps.{Prints}
use Rattle.log_commands.proofs.Dumped.{ends_read, ends_unopened, unopened}
use Rattle.log_commands.proofs.dumping.dump_log.Goals as goal

pub dump_room-requires-clause-no_job : goal.dump_room-requires-clause-no_job
dump_room-requires-clause-no_job g c κs within = ap (λ (r : RoomValue). r.room.job) c.in-Ok.ensures.room.is_made

pub dump_room-requires-clause-board : goal.dump_room-requires-clause-board
dump_room-requires-clause-board g c κs within = ap (λ (r : RoomValue). list_all is_empty r.room.board) c.in-Ok.ensures.room.is_made

pub returns-in-Ok-clause-ends : goal.returns-in-Ok-clause-ends
returns-in-Ok-clause-ends g c =
    ends_read (g.D.LogDisk.state c.args.disk) (g.D.LogDisk.state c.dump_room.result.1) c.in-Ok.room c.dump_room.result.0 (g.K.Sink.written c.args.out.now) (g.K.Sink.written c.dump_room.new.out)
    c.in-Ok.ensures.room c.in-Ok.ensures.stands c.sealed-made.ensures.whole c.dump_room.ensures.ends

pub returns-in-Err-clause-ends : goal.returns-in-Err-clause-ends
returns-in-Err-clause-ends g c =
    ends_unopened (g.D.LogDisk.state c.args.disk) (g.D.LogDisk.state c.in-Err.disk) c.in-Err.fault c.print_fault.result (g.K.Sink.written c.args.out.now) (g.K.Sink.written c.print_fault.new.out)
    (unopened (g.D.LogDisk.state c.args.disk) (g.D.LogDisk.state c.in-Err.disk) c.in-Err.fault c.in-Err.ensures.damage c.in-Err.ensures.failed c.in-Err.ensures.same)
    (subst (λ (fault : RunFault). Prints (Err fault) c.print_fault.result (g.K.Sink.written c.args.out.now) (g.K.Sink.written c.print_fault.new.out)) c.open_fault.ensures
    (record { status_is = c.print_fault.ensures.status; puts = c.print_fault.ensures.puts }))
