use Rattle.hall_rooms.specs.Rooms.{IsRoomPass}
use Rattle.hall_accounts.proofs.Begun.{one_case}
use Rattle.hall_accounts.proofs.Gone.{both_go, keeps_marks}
use Rattle.hall_accounts.proofs.tables.try_room_now.Goals as goal

pub try_room-requires-clause-others : goal.try_room-requires-clause-others
try_room-requires-clause-others g c κs within = one_case c.args.seats.now.two.pass _ (IsRoomPass c.args.hall.now) c.from_mut-others.ensures.value c.requires.two.0.pass

pub returns : goal.returns
returns g c =
    let seats = c.args.seats.now in
    let e = c.try_room.ensures in
    record {
      going = both_go c.args.hall.now seats.one.txn seats.two.txn seats.one.pass c.try_room.new.pass seats.two.pass _ c.try_room.new.others 0 c.try_room.result c.requires c.from_mut-others.ensures.value e.pass e.others e.renews e.tries;
      marked = keeps_marks c.args.hall.now seats.two.pass _ c.try_room.new.others c.from_mut-others.ensures.value e.renews;
    }
