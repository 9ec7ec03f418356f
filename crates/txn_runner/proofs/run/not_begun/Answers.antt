use Rattle.txn_runner.proofs.Exits.{not_begun}
use Rattle.txn_runner.proofs.run.not_begun.Goals as goal

pub returns : goal.returns
returns g c = λ script options. not_begun c.args.room c.requires.ready c.new.result c.new.ensures c.sealed-durable.result c.sealed-durable.ensures.sealed script options
