use Rattle.hall_rooms.proofs.Viewing.{made_or}
use Rattle.hall_rooms.proofs.views.make_view.Goals as goal

pub returns : goal.returns
returns g c = made_or c.args.room.now c.view_for.new.self c.args.seat c.view_for.result c.counts-whole.ensures.whole c.view_for.ensures.room c.view_for.ensures.log c.view_for.ensures.keeps c.view_for.ensures.job
