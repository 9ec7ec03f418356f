use Rattle.hall_accounts.proofs.Gone.{goes}
use Rattle.hall_accounts.proofs.steps.end.Goals as goal

pub returns : goal.returns
returns g c = let e = c.commit.ensures in record { going = (goes c.args.hall.now c.commit.new.txn c.commit.new.pass e.idle.0 e.free, e.idle.1) }
