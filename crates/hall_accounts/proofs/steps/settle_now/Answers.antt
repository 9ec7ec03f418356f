use Rattle.hall_accounts.proofs.Gone.{turn_goes}
use Rattle.hall_accounts.proofs.steps.settle_now.Goals as goal

pub returns : goal.returns
returns g c =
    let seat = c.args.seat.now in
    let e = c.settle_views.ensures in
    record { going = (turn_goes c.args.hall.now seat.txn seat.pass c.settle_views.new.pass _ c.requires.going e.pass.0 e.pass.1 e.settles, e.pass.1) }
