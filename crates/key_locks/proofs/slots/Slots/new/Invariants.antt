use Rattle.std.proofs.Common.{◌≡◌, [], None, replicate}
use Rattle.std.specs.Prelude.{vec_len, vec_capacity}
use Rattle.key_locks.proofs.slots.Slots.new.Given as goal

abbrev pub invariant-loop : goal.invariant-loop
invariant-loop g l = record {
  items : l.places.items ≡ replicate l.counter None;
  len : vec_len l.places ≡ l.counter;
  room : vec_capacity l.places ≡ 256;
  none : l.filled.items ≡ [];
  reserved : vec_capacity l.filled ≡ 256;
}
