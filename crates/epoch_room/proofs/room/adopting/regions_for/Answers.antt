use Rattle.std.proofs.Common.{◌∙◌, arith}
use Rattle.epoch_room.proofs.Adopting.AdoptedSizes.{none_needed, some_needed}
use Rattle.epoch_room.proofs.room.adopting.regions_for.Goals as goal

pub returns-then-len-ge-TOO_MANY : goal.returns-then-len-ge-TOO_MANY
returns-then-len-ge-TOO_MANY c rows is = none_needed c.args.region_len c.args.len rows c.requires.long (omega arith) is

pub returns : goal.returns
returns c rows is = c.regions_needed.ensures ∙ some_needed c.args.region_len c.args.len rows (omega arith) is
