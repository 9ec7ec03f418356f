use Rattle.hall_accounts.specs.Going.{AreGoing}
use Rattle.hall_accounts.proofs.tables.walk.Given as goal

abbrev pub invariant-loop-line : goal.invariant-loop-line
invariant-loop-line g l = record {
  going : AreGoing l.hall l.seats.one.txn l.seats.one.pass l.seats.two.txn l.seats.two.pass;
}
