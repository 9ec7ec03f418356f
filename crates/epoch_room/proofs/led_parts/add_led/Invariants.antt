use Rattle.std.proofs.Common.{◌≡◌, ◌<◌, ◌++◌, drop, take}
use Rattle.std.specs.List.{AllByRecursion}
use Rattle.fine_model.specs.Boards.{set_of}
use Rattle.fine_model.specs.Chain.{regions_of}
use Rattle.epoch_room.specs.Erasing.{led_by}
use Rattle.epoch_room.specs.Value.{all_regions}
use Rattle.epoch_room.specs.Whole.{HasRegions}
use Rattle.epoch_room.proofs.led_parts.add_led.Given as goal

-- the regions of the parts so far, and what holds of those that are left
abbrev pub invariant-loop-part : goal.invariant-loop-part
invariant-loop-part l = record {
  has : AllByRecursion HasRegions (drop l.part-index l.parts);
  small : AllByRecursion (λ p. AllByRecursion (λ region. region < 64) (regions_of p)) (drop l.part-index l.parts);
  ordered : set_of l.set ≡ l.set;
  added : l.set ≡ set_of (l.fn.set ++ all_regions (led_by l.leads (take l.part-index l.parts)));
}
