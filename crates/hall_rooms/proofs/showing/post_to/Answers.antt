-- A view is posted, and the old middle taken back.
use denote.Param.Send.{sendable}
use Rattle.hall_rooms.specs.Rooms.{beginning_of}
use Rattle.hall_rooms.proofs.Crossing.{bucket_send, in_hall_send}
use Rattle.hall_rooms.proofs.Posted.{back_there, board_long, lacks, may_post, posted, some_empty}
use Rattle.hall_rooms.proofs.showing.post_to.Goals as goal

pub make_view-requires-clause-seats : goal.make_view-requires-clause-seats
make_view-requires-clause-seats g c κs within = let t = c.requires.turn in board_long (beginning_of c.args.hall.now) c.args.pass.now c.args.room.now t.0 t.1 c.args.seat c.requires.seat.0 c.requires.seat.1

pub make_view-requires-clause-empty : goal.make_view-requires-clause-empty
make_view-requires-clause-empty g c κs within = let t = c.requires.turn in some_empty (beginning_of c.args.hall.now) c.args.pass.now c.args.room.now t.0 t.1 c.args.seat c.requires.seat.0 c.requires.seat.1

pub post-old-requires-send-R : goal.post-old-requires-send-R
post-old-requires-send-R g c κs within = let d = c.type_bounds.send-D in search (sendable, in_hall_send) depth 20

pub post-old-requires-send-B : goal.post-old-requires-send-B
post-old-requires-send-B g c κs within = search (sendable, bucket_send) depth 20

pub post-old-requires-clause-view : goal.post-old-requires-clause-view
post-old-requires-clause-view g c κs within =
    let t = c.requires.turn in (
      t.0,
      t.1.is_turn,
      may_post (beginning_of c.args.hall.now) c.args.pass.now c.args.room.now t.0 t.1 c.args.seat c.requires.seat.0 c.requires.seat.1 _ c.requires.pass c.make_view.new.room c.in-Ok.view c.in-Ok.ensures,
    )

pub take_back-requires-clause-posted : goal.take_back-requires-clause-posted
take_back-requires-clause-posted g c κs within =
    let t = c.requires.turn in
    back_there (beginning_of c.args.hall.now) c.args.pass.now c.args.room.now t.0 t.1 c.args.seat c.requires.seat.0 c.requires.seat.1 _ c.requires.pass c.make_view.new.room c.in-Ok.view c.in-Ok.ensures c.post-old.new.pass c.post-old.result c.post-old.ensures.pass.1
    (c.post-old.ensures.posts t.0 t.1.is_turn)

pub returns-in-Ok-clause-posts : goal.returns-in-Ok-clause-posts
returns-in-Ok-clause-posts g c t i =
    posted (beginning_of c.args.hall.now) c.args.pass.now c.args.room.now t i c.args.seat c.requires.seat.0 c.requires.seat.1 _ c.requires.pass c.make_view.new.room c.in-Ok.view c.in-Ok.ensures c.post-old.new.pass c.post-old.result c.post-old.ensures.pass.1
    (c.post-old.ensures.posts t i.is_turn) c.take_back.new.room c.take_back.ensures.board c.take_back.ensures.same

pub returns-in-Err-clause-posts : goal.returns-in-Err-clause-posts
returns-in-Err-clause-posts g c t i =
    let l = lacks (beginning_of c.args.hall.now) c.args.pass.now c.args.room.now t i c.args.seat c.requires.seat.0 c.requires.seat.1 c.make_view.new.room c.in-Err.fault c.in-Err.ensures in
    (Rattle.std.proofs.Common.refl, l.0, l.1)
