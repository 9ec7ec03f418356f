-- No region that was looked at is taken.
use Rattle.std.proofs.Common.{◌≡◌, ◌≤◌, drop, length}
use Rattle.std.specs.Prelude.{find}
use Rattle.std.specs.List.{enumerate_from}
use Rattle.fine_model.specs.Chain.{is_taken_from}
use Rattle.reopen.proofs.chain.bad_continuation.Given as goal

abbrev pub invariant-loop-i : goal.invariant-loop-i
invariant-loop-i l = record {
  few : length l.named ≤ 7;
  none : find (λ e. is_taken_from l.parts l.part e.1) (enumerate_from 0 l.named) ≡ find (λ e. is_taken_from l.parts l.part e.1) (enumerate_from l.i (drop l.i l.named));
}
