use Rattle.std.proofs.Common.{◌≡◌}
use Rattle.txn_engine.specs.Txns.{IsBlankTxn}
use Rattle.hall_accounts.specs.Going.{IsAtRest}
use Rattle.hall_accounts.proofs.many.put_often.Given as goal

abbrev pub invariant-loop-number : goal.invariant-loop-number
invariant-loop-number g l = record {
  idle : IsAtRest l.hall l.pass × (l.pass.number ≡ l.initial.pass.number);
  free : IsBlankTxn l.txn;
}
