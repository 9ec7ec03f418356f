-- What was taken, and what is taken from the next epoch on.
use Rattle.std.proofs.Common.{◌≡◌, ◌++◌, ◌-◌, length}
use Rattle.fine_model.specs.Chain.{taken}
use Rattle.reopen.proofs.chain.take_chain.Given as goal

abbrev pub invariant-loop : goal.invariant-loop
invariant-loop l = record {
  same : taken (length l.parts) l.parts 1 ≡ l.chain ++ taken (length l.parts - l.counter) l.parts l.next;
}
