-- A room that was merged, or a log that was not opened.
use Rattle.std.proofs.Common.{Err, ap, subst, sym}
use Rattle.fine_model.specs.declared.RunFault.{RunFault}
use Rattle.std.specs.List.{list_all}
use Rattle.fine_model.specs.Boards.{is_empty}
use Rattle.epoch_room.specs.Value.{RoomValue}
use Rattle.log_commands.specs.Merged.{MergesLog}
use Rattle.log_commands.proofs.Logs.{ends_log, unopened}
use Rattle.log_commands.proofs.commands.merge_found.Goals as goal

pub merge_room-requires-clause-no_job : goal.merge_room-requires-clause-no_job
merge_room-requires-clause-no_job g c κs within = ap (λ (r : RoomValue). r.room.job) c.in-Ok.ensures.room.is_made

pub merge_room-requires-clause-board : goal.merge_room-requires-clause-board
merge_room-requires-clause-board g c κs within = ap (λ (r : RoomValue). list_all is_empty r.room.board) c.in-Ok.ensures.room.is_made

pub merge_room-requires-clause-opened : goal.merge_room-requires-clause-opened
merge_room-requires-clause-opened g c κs within = ap (λ (r : RoomValue). r.room.is_shut) c.in-Ok.ensures.room.is_made

pub returns-in-Ok-clause-ends : goal.returns-in-Ok-clause-ends
returns-in-Ok-clause-ends g c =
    ends_log (g.D.LogDisk.state c.args.disk) c.in-Ok.room c.in-Ok.ensures.room c.in-Ok.ensures.stands (g.D.LogDisk.state c.merge_room.result.disk) c.merge_room.result.status
    (g.K.Sink.written c.args.out.now) (g.K.Sink.written c.merge_room.new.out) c.merge_room.ensures.ends

pub returns-in-Err-clause-ends : goal.returns-in-Err-clause-ends
returns-in-Err-clause-ends g c = rw c.number.ensures (record {
  found = Err c.open_fault.result;
  is_found = subst (λ (f : RunFault). MergesLog (g.D.LogDisk.state c.args.disk) (g.D.LogDisk.state c.in-Err.disk) (Err f)) (sym c.open_fault.ensures)
      (unopened (g.D.LogDisk.state c.args.disk) (g.D.LogDisk.state c.in-Err.disk) c.requires.idle c.regions-regions.ensures.sound c.in-Err.fault c.in-Err.ensures.damage c.in-Err.ensures.failed c.in-Err.ensures.same);
  status_is = c.print_fault.ensures.status;
  printed = c.print_fault.ensures.puts;
})
