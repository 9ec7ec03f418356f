-- What holds after the transactions before this one.
use Rattle.txn_runner.specs.Body.{RunsSoFar, body}
use Rattle.txn_runner.proofs.run.run_txns.Given as goal

abbrev pub invariant-loop-i : goal.invariant-loop-i
invariant-loop-i g l = RunsSoFar l.script l.options l.i l.fn.runner.room (body l.runner l.buckets) l.outcomes
