use Rattle.std.proofs.Common.{◌∙◌}
use Rattle.hall_rooms.specs.Rooms.{IsRoomPass}
use Rattle.hall_accounts.proofs.Begun.{no_case}
use Rattle.hall_accounts.proofs.Gone.{tries_goes}
use Rattle.hall_accounts.proofs.tables.try_alone_now.Goals as goal

pub try_room-requires-clause-others : goal.try_room-requires-clause-others
try_room-requires-clause-others g c κs within = no_case c.as_mut_slice-others.result.now (IsRoomPass c.args.hall.now) (c.as_mut_slice-others.ensures.value ∙ c.new-none.ensures.items)

pub returns : goal.returns
returns g c =
    let seat = c.args.seat.now in
    let e = c.try_room.ensures in
    record { going = (tries_goes c.args.hall.now seat.txn seat.pass c.try_room.new.pass 0 c.try_room.result c.requires.going e.pass.0 e.tries, e.pass.1) }
