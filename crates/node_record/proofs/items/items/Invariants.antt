use Rattle.std.proofs.Common.{◌≡◌, ◌-◌, ◌+◌, ◌≤◌, length, drop}
use Rattle.std.specs.Prelude.{vec_len, vec_capacity}
use Rattle.node_record.specs.Reading.{items_at}
use Rattle.node_record.proofs.Loop.{with_front}
use Rattle.node_record.proofs.items.items.Given as goal

-- the items so far, and those that are still read, are all of them, and there is room for these
abbrev pub invariant-loop : goal.invariant-loop
invariant-loop g l = record {
  within : l.end ≤ length l.bytes;
  room : vec_len l.items + (l.count - l.counter) ≤ vec_capacity l.items;
  so_far : with_front l.items.items (items_at g.T.Field.reads (l.count - l.counter) (drop l.end l.bytes)) ≡ items_at g.T.Field.reads l.count (drop l.at l.bytes);
}
