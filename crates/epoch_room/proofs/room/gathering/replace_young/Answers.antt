use Rattle.std.proofs.Common.{◌+◌, take, ap, ◌∙◌}
use Rattle.epoch_room.proofs.Young.YoungParts.{replaced_at}
use Rattle.epoch_room.proofs.room.gathering.replace_young.Goals as goal

pub returns-clause-parts : goal.returns-clause-parts
returns-clause-parts c = c.truncate.ensures ∙ ap (take (c.args.at + 1)) c.replace-oldest.ensures.items ∙ replaced_at c.args.parts.now c.args.at c.args.part c.requires.some
