-- The pass of a turn and others look at their mailboxes.
use Rattle.std.proofs.Common.{arith}
use denote.Param.Send.{sendable}
use Rattle.hall_rooms.specs.Rooms.{beginning_of}
use Rattle.hall_rooms.proofs.Crossing.{bucket_send, in_hall_send}
use Rattle.hall_rooms.proofs.Renewing.{looked, looked_clean, looks_on, same_turn}
use Rattle.hall_rooms.proofs.making.refresh_all.Goals as goal

pub refresh-requires-send-R : goal.refresh-requires-send-R
refresh-requires-send-R g c κs within = let d = c.type_bounds.send-D in search (sendable, in_hall_send) depth 20

pub refresh-requires-send-B : goal.refresh-requires-send-B
refresh-requires-send-B g c κs within = search (sendable, bucket_send) depth 20

pub returns-clause-goes : goal.returns-clause-goes
returns-clause-goes g c =
    let x = beginning_of c.args.hall.now in
    let e = c.refresh.ensures in
    record {
      pass = e.pass;
      others = c.refresh_each.ensures.passes;
      goes = looks_on x c.args.pass.now c.refresh.new.pass c.requires.part.turn.turn.held (looked x c.refresh.result c.args.pass.now c.refresh.new.pass e.pass.1 e.answer);
      renews = c.refresh_each.ensures.renews;
    }

pub returns-clause-turn : goal.returns-clause-turn
returns-clause-turn g c =
    let x = beginning_of c.args.hall.now in
    let p = c.args.pass.now in
    let q = c.refresh.new.pass in
    looked_clean x _ p q c.refresh.ensures.pass.0 c.args.room.now c.counts-whole.ensures.whole (looked x c.refresh.result p q c.refresh.ensures.pass.1 c.refresh.ensures.answer) (same_turn x c.refresh.result p q c.refresh.ensures.answer) c.requires.part.turn

-- the board names the new front, which shows no epoch above the sealed one, and none below the published one
pub returns-clause-reaches : goal.returns-clause-reaches
returns-clause-reaches g c =
    let t = c.requires.part.turn in
    let named = (c.refresh.ensures.on_board t.note t.turn.held t.turn.is_turn).1 in
    let ahead = c.refresh.ensures.ahead.reaches in
    let top = t.turn.may.top in
    omega (arith, named, ahead, top)
