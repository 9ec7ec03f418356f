use Rattle.hall_accounts.proofs.Gone.{merges_goes}
use Rattle.hall_accounts.proofs.tables.merge_now.Goals as goal

pub returns : goal.returns
returns g c =
    let seat = c.args.seat.now in
    let e = c.merge_next.ensures in
    record { going = (merges_goes c.args.hall.now seat.txn seat.pass c.merge_next.new.pass 0 c.merge_next.result c.requires.going e.pass.0 e.pass.1 e.merges, e.pass.1) }
