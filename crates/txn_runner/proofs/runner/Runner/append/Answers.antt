use Rattle.txn_runner.proofs.Exits.{append}
use Rattle.txn_runner.proofs.runner.Runner.append.Goals as goal

pub returns : goal.returns
returns g c = append _ _ c.self.view_is c.args.draft c.log.result.now c.log.ensures _ _ c.sealed-published.result c.sealed-published.ensures.sealed c.append-stamp.result c.append-stamp.ensures.stamp _ c.append-stamp.ensures.room c.append-stamp.ensures.stands
    c.append-stamp.ensures.becomes c.sealed-whole.ensures.whole c.take_entry-entry.result c.take_entry-entry.ensures.entry c.settle.ensures.stands
