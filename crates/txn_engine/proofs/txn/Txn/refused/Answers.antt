use Rattle.std.proofs.Common.{sym}
use Rattle.txn_engine.proofs.Failing.{after_other}
use Rattle.txn_engine.proofs.txn.Txn.refused.Goals as goal

pub returns-in_default-clause-after : goal.returns-in_default-clause-after
returns-in_default-clause-after c = sym (after_other c.as_fault.result c.args.self.now c.in_default.not-NoMemory)
