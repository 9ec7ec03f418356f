use Rattle.hall_accounts.proofs.Gone.{goes}
use Rattle.hall_accounts.proofs.steps.abort.Goals as goal

pub returns : goal.returns
returns c = let e = c.give_up.ensures in record { going = (goes c.args.hall.now c.give_up.new.txn c.give_up.new.pass e.idle e.free, e.stays.0) }
