use Rattle.std.proofs.Common.{◌<◌, List, length, subst, sym}
use Rattle.std.specs.List.{AllByRecursion}
use Rattle.fine_model.specs.declared.Part.{Part}
use Rattle.epoch_room.specs.Value.{all_regions}
use Rattle.epoch_room.specs.Whole.{HasRegions}
use Rattle.epoch_room.proofs.Counting.{live_have, retired_have, live_few, retired_few}
use Rattle.epoch_room.proofs.room.Room.counts.Goals as goal

pub regions_in-requires-clause-each : goal.regions_in-requires-clause-each
regions_in-requires-clause-each g c = subst (AllByRecursion HasRegions) (sym c.as_slice.ensures) (live_have _ c.self.invariant.0)

pub regions_in-requires-clause-few : goal.regions_in-requires-clause-few
regions_in-requires-clause-few g c = subst (λ (ps : List Part). length (all_regions ps) < 4294967296) (sym c.as_slice.ensures) (live_few _ c.self.invariant.0)

pub regions_in-requires-2-clause-each : goal.regions_in-requires-2-clause-each
regions_in-requires-2-clause-each g c = subst (AllByRecursion HasRegions) (sym c.as_slice-2.ensures.value) (retired_have _ c.self.invariant.0)

pub regions_in-requires-2-clause-few : goal.regions_in-requires-2-clause-few
regions_in-requires-2-clause-few g c = subst (λ (ps : List Part). length (all_regions ps) < 4294967296) (sym c.as_slice-2.ensures.value) (retired_few _ c.self.invariant.0)
