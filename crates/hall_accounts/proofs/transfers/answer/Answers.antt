use Rattle.hall_accounts.proofs.Gone.{going_on}
use Rattle.hall_accounts.proofs.transfers.answer.Goals as goal

pub returns-in-Some : goal.returns-in-Some
returns-in-Some g c = let e = c.call.ensures in
    record { going = going_on c.args.hall.now c.args.txn.now c.call.new.self c.args.pass.now c.call.new.pass c.requires.going e.pass.0 e.pass.1 e.sees e.«open»; stays = (e.pass.1, e.sees.sees.same_own) }
