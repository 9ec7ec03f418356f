use Rattle.txn_runner.proofs.Txns.{not_run}
use Rattle.txn_runner.proofs.runner.Runner.run_txn.Goals as goal

pub returns-then-has_ended : goal.returns-then-has_ended
returns-then-has_ended g c = not_run c.args.options.now.group c.args.turn c.requires.group c.args.txn.now c.requires.txn.lane _ _ c.self.view_is c.args.buckets.now c.has_ended.result c.has_ended.ensures c.if-has_ended.true
