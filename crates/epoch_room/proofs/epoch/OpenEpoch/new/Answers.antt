use Rattle.std.proofs.Common.{refl, sym, arith}
use Rattle.epoch_room.proofs.OpenEpochs.Gathering.{gathered_none}
use Rattle.epoch_room.proofs.epoch.OpenEpoch.new.Goals as goal

pub invariant_of-result : goal.invariant_of-result
invariant_of-result c = gathered_none _ c.in_ok-with_capacity.ensures.items c.in_ok-with_capacity-2.ensures.items (sym c.in_ok-with_capacity-2.ensures.len) refl (omega (arith, c.in_ok-with_capacity.ensures.capacity)) (omega (arith, c.in_ok-with_capacity-2.ensures.capacity))
