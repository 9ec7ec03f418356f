use Rattle.txn_runner.proofs.Exits.{take_back}
use Rattle.txn_runner.proofs.runner.Runner.take_back.Goals as goal

pub returns : goal.returns
returns g c = take_back _ _ c.self.view_is _ _ c.sealed-published.result c.sealed-published.ensures.sealed c.sealed-published.ensures.whole c.undo.ensures.stands
