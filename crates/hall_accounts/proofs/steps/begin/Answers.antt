use Rattle.hall_accounts.proofs.Gone.{begun_blank, goes}
use Rattle.hall_accounts.proofs.steps.begin.Goals as goal

pub returns : goal.returns
returns c =
    let t = c.take_back.new.seat.txn in
    let e = c.take_back.ensures in
    record { going = (goes c.args.hall.now c.begin.new.self c.take_back.new.seat.pass e.idle.0 (begun_blank t c.begin.new.self _ _ c.begin.ensures e.free), e.idle.1) }
