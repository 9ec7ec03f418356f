use Rattle.std.proofs.Common.{◌≡◌}
use Rattle.hall_accounts.specs.Doing.{KeepsAll}
use Rattle.hall_accounts.proofs.threads.move_at_last.Given as goal

abbrev pub invariant-loop : goal.invariant-loop
invariant-loop g l = record {
  more : (goal.iterator-loop g).can_next l.iterator' × (goal.iterator-loop g).is_finite l.iterator';
  keeps : KeepsAll l.hall l.active.txn l.active.pass l.active.kept.items;
  number : l.active.pass.number ≡ l.initial.active.pass.number;
}
