use Rattle.hall_accounts.proofs.Gone.{turn_goes}
use Rattle.hall_accounts.proofs.steps.post_now.Goals as goal

pub returns : goal.returns
returns g c =
    let seat = c.args.seat.now in
    let e = c.show_views.ensures in
    record { going = (turn_goes c.args.hall.now seat.txn seat.pass c.show_views.new.pass _ c.requires.going e.pass.0 e.pass.1 e.shows, e.pass.1) }
