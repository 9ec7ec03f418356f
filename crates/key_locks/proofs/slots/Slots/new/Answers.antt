use Rattle.std.proofs.Common.{arith}
use Rattle.key_locks.proofs.Numbered.{new_numbered}
use Rattle.key_locks.proofs.slots.Slots.new.Goals as goal

pub invariant_of-result : goal.invariant_of-result
invariant_of-result g c = let i = c.loop.invariant in let e = c.loop.auto.counter-end in record { kept = i.room; numbered = new_numbered c.loop.counter c.loop.places.items c.in_ok-filled.filled.items _ (omega (arith, e, c.loop-test.false)) i.items i.none i.reserved }
