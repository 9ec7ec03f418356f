use Rattle.txn_runner.proofs.Txns.{enough, full_group, group_failed, group_sealed, not_full}
use Rattle.txn_runner.proofs.runner.Runner.end_group.Goals as goal

pub returns-then-waiting-from : goal.returns-then-waiting-from
returns-then-waiting-from g c buckets = not_full _ _ c.self.view_is c.args.group c.args.lane buckets c.waiting.result c.waiting.ensures c.from.result c.from.ensures c.if-waiting-from.true

pub seal_group-requires-clause-waiting : goal.seal_group-requires-clause-waiting
seal_group-requires-clause-waiting g c κs within = enough _ _ c.self.view_is c.waiting.result c.waiting.ensures c.from.result c.args.group c.from.ensures c.requires.group c.if-waiting-from.false

pub returns-in-Ok : goal.returns-in-Ok
returns-in-Ok g c buckets = group_sealed c.args.group _ _ (full_group _ _ c.self.view_is c.args.group c.waiting.result c.waiting.ensures c.from.result c.from.ensures c.if-waiting-from.false)
    c.args.lane buckets c.seal_group.result c.seal_group.ensures _ c.in-Ok.is

pub returns-in-Err : goal.returns-in-Err
returns-in-Err g c buckets = group_failed _ _ buckets c.seal_group.result c.seal_group.ensures c.in-Err.fault c.in-Err.is _ c.self-2.view_is c.args.group c.args.lane
    (full_group _ _ c.self.view_is c.args.group c.waiting.result c.waiting.ensures c.from.result c.from.ensures c.if-waiting-from.false) _ c.end.ensures.set c.end.ensures.ends
