use Rattle.std.proofs.Common.{◌≡◌, ◌-◌, ◌≤◌, [], length, drop}
use Rattle.node_record.proofs.Passing.{behind_pairs}
use Rattle.node_record.proofs.items.pairs_end.Given as goal

-- the pairs that are left, which ascend from the last key, end where all of them do
abbrev pub invariant-loop : goal.invariant-loop
invariant-loop l = record {
  within : l.end ≤ length l.bytes;
  so_far : behind_pairs l.before (l.count - l.counter) (drop l.end l.bytes) ≡ behind_pairs [] l.count (drop l.at l.bytes);
}
