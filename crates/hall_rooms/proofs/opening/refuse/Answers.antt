use Rattle.hall_rooms.proofs.Fresh.{refused}
use Rattle.hall_rooms.proofs.opening.refuse.Goals as goal

pub returns : goal.returns
returns g c = refused c.args.room c.counts-whole.ensures.whole c.requires
