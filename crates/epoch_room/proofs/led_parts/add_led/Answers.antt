use Rattle.std.proofs.Common.{◌<◌}
use Rattle.std.specs.List.{AllByRecursion}
use Rattle.fine_model.specs.Chain.{regions_of}
use Rattle.epoch_room.specs.Whole.{HasRegions}
use Rattle.epoch_room.proofs.RegionSets.Added.{added_more, drop_next}
use Rattle.epoch_room.proofs.led_parts.add_led.Goals as goal

pub loop-part-preserved : goal.loop-part-preserved
loop-part-preserved c = record {
  has = drop_next HasRegions c.args.parts.now c.loop-part.part-index c.loop-part-test.true c.loop-part.invariant.has;
  small = drop_next (λ p. AllByRecursion (λ region. region < 64) (regions_of p)) c.args.parts.now c.loop-part.part-index c.loop-part-test.true c.loop-part.invariant.small;
  ordered = c.add_if_led.ensures.ordered;
  added = added_more c.args.leads.now c.args.parts.now c.loop-part.part-index _ c.args.set.now c.loop-part.set c.add_if_led.new.set c.loop-part-test.true c.loop-part.invariant.added c.add_if_led.ensures.added;
}
