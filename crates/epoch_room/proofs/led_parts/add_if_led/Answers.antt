use Rattle.std.proofs.Common.{◌++◌, ◌∙◌, ap, sym}
use Rattle.fine_model.specs.Boards.{set_of}
use Rattle.fine_model.specs.Chain.{regions_of}
use Rattle.epoch_room.proofs.RegionSets.Added.{set_again}
use Rattle.epoch_room.proofs.led_parts.add_if_led.Goals as goal

pub returns-then-is_lead-clause-ordered : goal.returns-then-is_lead-clause-ordered
returns-then-is_lead-clause-ordered c = ap set_of c.add_part.ensures ∙ set_again (c.args.set.now ++ regions_of c.args.part.now) ∙ sym c.add_part.ensures
