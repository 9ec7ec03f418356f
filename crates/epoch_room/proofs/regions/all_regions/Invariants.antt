use Rattle.std.proofs.Common.{◌≡◌, drop, take}
use Rattle.std.specs.List.{AllByRecursion}
use Rattle.epoch_room.specs.Value.{all_regions}
use Rattle.epoch_room.specs.Whole.{HasRegions}
use Rattle.epoch_room.proofs.regions.all_regions.Given as goal

-- the regions of the parts so far, and what holds of those that are left
abbrev pub invariant-loop-part : goal.invariant-loop-part
invariant-loop-part l = record { has : AllByRecursion HasRegions (drop l.part-index l.slice); regions : l.regions.items ≡ all_regions (take l.part-index l.slice) }
