-- A turn ends.
use denote.Param.Send.{sendable}
use Rattle.hall_rooms.proofs.Crossing.{bucket_send, in_hall_send}
use Rattle.hall_rooms.proofs.turn.end_turn.Goals as goal

pub give_room-requires-clause-held : goal.give_room-requires-clause-held
give_room-requires-clause-held g c κs within = c.requires.turn.1.held

pub give_room-requires-clause-room : goal.give_room-requires-clause-room
give_room-requires-clause-room g c κs within = let t = c.requires.turn in (t.0, t.1.is_turn, t.1.may)

pub returns-clause-gives : goal.returns-clause-gives
returns-clause-gives g c = λ t i. c.give_room.ensures.gives t i.is_turn

pub give_room-requires-send-R : goal.give_room-requires-send-R
give_room-requires-send-R g c κs within = let d = c.type_bounds.send-D in search (sendable, in_hall_send) depth 20

pub give_room-requires-send-B : goal.give_room-requires-send-B
give_room-requires-send-B g c κs within = search (sendable, bucket_send) depth 20
