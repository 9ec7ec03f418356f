use Rattle.epoch_room.proofs.Merges.Picking.{header_made}
use Rattle.epoch_room.proofs.room.merging.take_regions.Goals as goal

pub returns-clause-job : goal.returns-clause-job
returns-clause-job c =
    header_made c.args.job.now c.args.measure c.args.regions c.from.result c.args.free.now c.take_lowest.new.self c.take_into.new.out c.mark_for.result c.unwrap_or-target.result c.take_lowest.result
    c.requires.most c.requires.enough c.requires.some c.mark_for.ensures c.from.ensures c.take_lowest.ensures.lowest c.unwrap_or-target.ensures c.take_lowest.ensures.left c.take_into.ensures.taken
