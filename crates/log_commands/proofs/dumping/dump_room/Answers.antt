use Rattle.std.proofs.Common.{ap, ◌∙◌}
use Rattle.fine_model.specs.declared.law.RoomState.{RoomState}
use Rattle.log_commands.proofs.dumping.dump_room.Goals as goal

pub into_disk-requires-clause-board : goal.into_disk-requires-clause-board
into_disk-requires-clause-board g c κs within = c.read_map-found.ensures.reads.board

pub into_disk-requires-clause-no_job : goal.into_disk-requires-clause-no_job
into_disk-requires-clause-no_job g c κs within = ap (λ (r : RoomState). r.job) c.read_map-found.ensures.reads.later.room ∙ c.requires.no_job

pub returns-clause-ends : goal.returns-clause-ends
returns-clause-ends g c = record {
  behind = c.read_map-found.new.room;
  of_disk = c.into_disk.ensures.disk;
  whole = c.into_disk.ensures.whole;
  found = c.read_map-found.result;
  reads = c.read_map-found.ensures.reads;
  map = c.read_map-found.ensures.map;
  prints = c.print_found-status.ensures.prints;
}
