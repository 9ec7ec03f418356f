use Rattle.txn_runner.proofs.Exits.{seals_not, seals_then}
use Rattle.txn_runner.proofs.runner.Runner.seal_group.Goals as goal

pub returns-in-Ok : goal.returns-in-Ok
returns-in-Ok g c buckets = seals_then _ _ c.self.view_is buckets _ c.in-Ok.epoch c.in-Ok.is _ _ c.seal_waiting.ensures _ _ _ c.tidy.ensures

pub returns-in-Err : goal.returns-in-Err
returns-in-Err g c buckets = seals_not _ _ c.self.view_is c.requires.waiting buckets _ c.in-Err.fault c.in-Err.is _ _ c.seal_waiting.ensures
