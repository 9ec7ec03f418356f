use Rattle.room_steps.proofs.Merges.{space_by}
use Rattle.room_steps.proofs.merging.space_of.Goals as goal

pub returns-clause-is : goal.returns-clause-is
returns-clause-is g c = space_by c.args.room.now.room c.region_len.result c.counts-counts.result c.pressed.result c.region_len.ensures c.counts-counts.ensures.counts c.pressed.ensures
