-- The hall ends, and all views are taken back.
use denote.Param.Send.{sendable}
use Rattle.std.proofs.Common.{[], ◌++◌, ap, ◌∙◌, subst}
use Rattle.hall_rooms.specs.Boards.{TakesBackAll, faults_of}
use Rattle.hall_rooms.specs.Rooms.{beginning_of}
use Rattle.hall_rooms.proofs.Crossing.{bucket_send, in_hall_send}
use Rattle.hall_rooms.proofs.Ended.{all_named, closed, closes_as}
use Rattle.hall_rooms.proofs.closing.close_hall.Goals as goal

pub close-held-requires-send-R : goal.close-held-requires-send-R
close-held-requires-send-R g c κs within = let d = c.type_bounds.send-D in search (sendable, in_hall_send) depth 20

pub close-held-requires-send-B : goal.close-held-requires-send-B
close-held-requires-send-B g c κs within = search (sendable, bucket_send) depth 20

pub take_back_all-requires-clause-named : goal.take_back_all-requires-clause-named
take_back_all-requires-clause-named g c κs within =
    let e = c.close-held.ensures.closes in
    ([], all_named (beginning_of c.args.hall) c.args.passes.items e.0 c.close-held.new.back.items c.into_room-room.result (closes_as (beginning_of c.args.hall) c.args.passes.items e.0 c.close-held.result c.into_room-room.result c.into_room-room.ensures e.2) (e.1 ∙ ap (λ l. l ++ e.0) c.requires.spare.0))

pub returns : goal.returns
returns g c =
    let e = c.close-held.ensures.closes in
    let is = e.1 ∙ ap (λ l. l ++ e.0) c.requires.spare.0 in
    let named = all_named (beginning_of c.args.hall) c.args.passes.items e.0 c.close-held.new.back.items c.into_room-room.result (closes_as (beginning_of c.args.hall) c.args.passes.items e.0 c.close-held.result c.into_room-room.result c.into_room-room.ensures e.2) is in
    closed (beginning_of c.args.hall) c.args.passes.items e.0 c.into_room-room.result c.take_back_all.new.room (closes_as (beginning_of c.args.hall) c.args.passes.items e.0 c.close-held.result c.into_room-room.result c.into_room-room.ensures e.2) (c.take_back_all.ensures.board [] named)
    (subst (λ l. TakesBackAll (faults_of l) c.into_room-room.result c.take_back_all.new.room) is c.take_back_all.ensures.same) c.counts-whole.ensures.whole
