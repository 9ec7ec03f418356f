use Rattle.txn_runner.proofs.Exits.{finish}
use Rattle.txn_runner.proofs.run.finish.Goals as goal

pub returns : goal.returns
returns g c = λ script options entry buckets ready s. finish c.args.runner _ _ c.runner.view_is c.close-last.result c.close-last.ensures c.args.outcomes c.sealed.result c.sealed.ensures.sealed c.fault_with.result c.fault_with.ensures c.is_memory-unsealed.result c.is_memory-unsealed.ensures script options entry buckets ready s
