use Rattle.std.proofs.Common.{◌≡◌}
use Rattle.std.specs.Slots.{slots_items, slots_filled, slots_len}
use Rattle.fine_hall.specs.Ending.{IsTakenTo}
use Rattle.fine_hall.proofs.closing.drop_slots.Given as goal

abbrev pub invariant-loop-k : goal.invariant-loop-k
invariant-loop-k g l = record {
  taken : IsTakenTo (slots_filled l.closed.slots) (slots_len l.closed.slots) l.k;
  same : (slots_items l.closed.slots ≡ slots_items l.fn.closed.slots) × (slots_len l.closed.slots ≡ slots_len l.fn.closed.slots);
}
