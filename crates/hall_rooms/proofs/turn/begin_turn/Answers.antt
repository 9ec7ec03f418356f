-- A turn begins.
use denote.Param.Send.{sendable}
use Rattle.hall_rooms.specs.Rooms.{beginning_of}
use Rattle.hall_rooms.proofs.Crossing.{bucket_send, in_hall_send}
use Rattle.hall_rooms.proofs.Turned.{begins}
use Rattle.hall_rooms.proofs.turn.begin_turn.Goals as goal

pub returns-clause-begins : goal.returns-clause-begins
returns-clause-begins g c =
    let e = c.take_room.ensures in
    begins (beginning_of c.args.hall.now) c.args.pass.now c.take_room.new.pass c.take_room.result e.pass.1 c.requires.free e.room e.takes

pub take_room-requires-send-R : goal.take_room-requires-send-R
take_room-requires-send-R g c κs within = let d = c.type_bounds.send-D in search (sendable, in_hall_send) depth 20

pub take_room-requires-send-B : goal.take_room-requires-send-B
take_room-requires-send-B g c κs within = search (sendable, bucket_send) depth 20
