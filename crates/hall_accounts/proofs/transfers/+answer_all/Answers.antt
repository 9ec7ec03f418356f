use Rattle.hall_accounts.proofs.Gone.{going_on}
use Rattle.hall_accounts.proofs.transfers.+answer_all.Goals as goal

pub returns-in_err-call-in-len1-up : goal.returns-in_err-call-in-len1-up
returns-in_err-call-in-len1-up g t c = let e = c.call.ensures in
    record { going = going_on c.args.hall.now c.args.txn.now c.call.new.self c.args.pass.now c.call.new.pass c.requires.going e.pass.0 e.pass.1 e.sees e.«open»; stays = (e.pass.1, e.sees.sees.same_own) }

pub answer_all-requires-clause-going : goal.answer_all-requires-clause-going
answer_all-requires-clause-going g t c κs within = let e = c.call.ensures in
    going_on c.args.hall.now c.args.txn.now c.call.new.self c.args.pass.now c.call.new.pass c.requires.going e.pass.0 e.pass.1 e.sees e.«open»
