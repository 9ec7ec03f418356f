use Rattle.std.proofs.Common.{◌<◌, List, length, arith, subst, sym}
use Rattle.std.specs.List.{AllByRecursion}
use Rattle.fine_model.specs.declared.Part.{Part}
use Rattle.epoch_room.specs.Value.{all_regions}
use Rattle.epoch_room.specs.Whole.{HasRegions}
use Rattle.epoch_room.proofs.Counting.{sealed_most, live_have, retired_have, live_few, retired_few}
use Rattle.epoch_room.proofs.room.Room.fit.Goals as goal

pub overflow_add-result : goal.overflow_add-result
overflow_add-result g c = omega (arith, sealed_most _ c.self.invariant.0)

pub regions_in-requires-clause-each : goal.regions_in-requires-clause-each
regions_in-requires-clause-each g c = subst (AllByRecursion HasRegions) (sym c.as_slice.ensures) (live_have _ c.self.invariant.0)

pub regions_in-requires-clause-few : goal.regions_in-requires-clause-few
regions_in-requires-clause-few g c = subst (λ (ps : List Part). length (all_regions ps) < 4294967296) (sym c.as_slice.ensures) (live_few _ c.self.invariant.0)

pub regions_in-requires-then-len-from-lt-FREE-clause-each : goal.regions_in-requires-then-len-from-lt-FREE-clause-each
regions_in-requires-then-len-from-lt-FREE-clause-each g c = subst (AllByRecursion HasRegions) (sym c.as_slice-then-len-from-lt-FREE.ensures.value) (retired_have _ c.self.invariant.0)

pub regions_in-requires-then-len-from-lt-FREE-clause-few : goal.regions_in-requires-then-len-from-lt-FREE-clause-few
regions_in-requires-then-len-from-lt-FREE-clause-few g c = subst (λ (ps : List Part). length (all_regions ps) < 4294967296) (sym c.as_slice-then-len-from-lt-FREE.ensures.value) (retired_few _ c.self.invariant.0)
