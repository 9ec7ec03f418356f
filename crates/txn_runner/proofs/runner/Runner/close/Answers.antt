use Rattle.txn_runner.proofs.Exits.{closes, closes_not, rests, some_wait}
use Rattle.txn_runner.proofs.runner.Runner.close.Goals as goal
use Rattle.txn_runner.proofs.runner.Runner.close.Goals.{in-Err, in-Ok}

pub returns-then-waiting-eq0 : goal.returns-then-waiting-eq0
returns-then-waiting-eq0 g c buckets = rests _ _ c.self.view_is buckets c.waiting.result c.waiting.ensures c.if-waiting-eq0.true _ c.take-out.ensures.value _ _ c.take-out.ensures.after c.sealed-whole.ensures.whole c.rest.ensures

pub seal_waiting-requires-clause-waiting : goal.seal_waiting-requires-clause-waiting
seal_waiting-requires-clause-waiting g c κs within = some_wait c.waiting.result _ c.waiting.ensures c.if-waiting-eq0.false

pub returns : goal.returns
returns g c buckets = elim c.match-seal_waiting.branch [
  | in-Ok w ↦ closes _ _ c.self.view_is buckets _ w.in-Ok.epoch w.in-Ok.is _ w.result-is _ _ c.seal_waiting.ensures
  | in-Err w ↦ closes_not _ _ c.self.view_is (some_wait c.waiting.result _ c.waiting.ensures c.if-waiting-eq0.false) buckets _ w.in-Err.fault w.in-Err.is _ w.result-is _ _ c.seal_waiting.ensures
]
