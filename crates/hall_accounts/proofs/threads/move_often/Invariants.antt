use Rattle.std.proofs.Common.{◌≡◌}
use Rattle.hall_accounts.specs.Doing.{KeepsAll}
use Rattle.hall_accounts.proofs.threads.move_often.Given as goal

abbrev pub invariant-loop : goal.invariant-loop
invariant-loop g l = record {
  keeps : KeepsAll l.hall l.active.txn l.active.pass l.active.kept.items;
  number : l.active.pass.number ≡ l.initial.active.pass.number;
}
