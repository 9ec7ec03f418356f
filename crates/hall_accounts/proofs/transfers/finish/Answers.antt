use Rattle.hall_accounts.proofs.Doing.{same_mine}
use Rattle.hall_accounts.proofs.transfers.finish.Goals as goal

pub returns-in-Err : goal.returns-in-Err
returns-in-Err g c = let e = c.give_up.ensures in record { idle = (e.idle, e.stays.0); free = e.free; adds = same_mine c.args.pass.now c.give_up.new.pass e.stays }
