use Rattle.std.proofs.Common.{refl, sym, arith}
use Rattle.epoch_room.proofs.OpenEpochs.Gathering.{gathered_none}
use Rattle.epoch_room.proofs.epoch.OpenEpoch.clear.Goals as goal

pub invariant_of-self : goal.invariant_of-self
invariant_of-self c = gathered_none _ c.clear.ensures.items c.clear-2.ensures.items (sym c.clear-2.ensures.len) refl (omega (arith, c.clear.ensures.capacity, c.self.invariant.room)) (omega (arith, c.clear-2.ensures.capacity, c.self.invariant.places))
