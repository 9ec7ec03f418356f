-- What was merged and printed, of the room as it is given back.
use Rattle.log_commands.proofs.commands.merge_room.Goals as goal

pub returns-clause-ends : goal.returns-clause-ends
returns-clause-ends g c = rw c.number.ensures (record {
  new = c.merge_all-merged.new.room;
  of_disk = c.into_disk.ensures.disk;
  merged = c.merge_all-merged.result;
  merges = c.merge_all-merged.ensures;
  prints = c.print_merged-status.ensures.ends;
})
