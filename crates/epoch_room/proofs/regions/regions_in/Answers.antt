use Rattle.std.proofs.Common.{◌∙◌, arith}
use Rattle.epoch_room.proofs.RegionSets.Beside.{regions_sum}
use Rattle.epoch_room.proofs.regions.regions_in.Goals as goal

pub told_regions-requires : goal.told_regions-requires
told_regions-requires c = omega (arith, regions_sum c.args.parts.now c.requires.each, c.requires.few)

pub returns : goal.returns
returns c = c.told_regions.ensures ∙ regions_sum c.args.parts.now c.requires.each
