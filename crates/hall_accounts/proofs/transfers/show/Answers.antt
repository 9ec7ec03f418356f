use Rattle.std.proofs.Common.{le_refl}
use Rattle.fine_places.specs.History as places
use Rattle.hall_rooms.specs.Rooms.{beginning_of}
use Rattle.hall_accounts.proofs.Doing.{seals_none}
use Rattle.hall_accounts.proofs.Gone.{shows_on}
use Rattle.hall_accounts.proofs.transfers.show.Goals as goal

pub seal_and_post-requires-clause-free : goal.seal_and_post-requires-clause-free
seal_and_post-requires-clause-free g c κs within = c.requires.idle.idle.1 places.room (le_refl places.room)

pub returns : goal.returns
returns g c =
    let e = c.seal_and_post.ensures in
    record {
      idle = (shows_on c.args.hall.now c.args.pass.now c.seal_and_post.new.pass c.seal_and_post.result c.requires.idle e.pass.0 e.pass.1 e.seals, e.pass.1);
      mine = seals_none c.args.pass.now c.seal_and_post.new.pass (beginning_of c.args.hall.now) c.seal_and_post.result e.seals;
    }
