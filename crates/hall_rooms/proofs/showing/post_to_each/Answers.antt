-- A view is posted to each seat.
use denote.Param.Send.{sendable}
use Rattle.std.proofs.Common.{◌≡◌, ◌+◌, Err, arith, refl, ap, subst, sym, ◌∙◌}
use Rattle.std.specs.Prelude.{Result}
use Rattle.epoch_room.specs.declared.answers.RoomFault.{RoomFault}
use Rattle.std.proofs.lemmas.Result.{err_from_is_err_and}
use Rattle.fine_model.specs.declared.law.RoomState.{RoomState}
use Rattle.hall_rooms.specs.Rooms.{beginning_of}
use Rattle.hall_rooms.specs.Steps.{PostsEachOr}
use Rattle.hall_rooms.proofs.Crossing.{bucket_send, in_hall_send}
use Rattle.hall_rooms.proofs.Posted.{each_lacks, none_posted, posted_next, stays_posted}
use Rattle.hall_rooms.proofs.Turned.{stays_more, stays_none}
use Rattle.hall_rooms.proofs.showing.post_to_each.Goals as goal

pub seats-seats-requires-send-R : goal.seats-seats-requires-send-R
seats-seats-requires-send-R g c κs within = let d = c.type_bounds.send-D in search (sendable, in_hall_send) depth 20

pub seats-seats-requires-send-B : goal.seats-seats-requires-send-B
seats-seats-requires-send-B g c κs within = search (sendable, bucket_send) depth 20

pub loop-i-init : goal.loop-i-init
loop-i-init g c = record {
  pass = (c.requires.pass, refl);
  stays = stays_none c.args.pass.now;
  posted = none_posted (beginning_of c.args.hall.now) c.args.pass.now c.args.room.now c.requires.turn;
  is_open = λ lt. absurd (omega (arith, lt));
  at_first = λ _. refl;
}

pub loop-i-preserved : goal.loop-i-preserved
loop-i-preserved g c =
    let x = beginning_of c.args.hall.now in
    let b = c.loop-i.invariant.posted in
    let s = c.in_ok-post_to.ensures.posts b.note b.turn in
    let many = c.seats-seats.ensures in
    let below = c.loop-i-test.true in
    record {
      pass = (c.post_to.ensures.pass.0, c.post_to.ensures.pass.1 ∙ c.loop-i.invariant.pass.1);
      stays = stays_more c.args.pass.now c.loop-i.pass c.post_to.new.pass c.loop-i.invariant.stays (stays_posted x (c.loop-i.i + 1) b.note c.loop-i.room c.post_to.new.room c.loop-i.pass c.post_to.new.pass s.0);
      posted = posted_next x c.loop-i.i (c.loop-i.i + 1) refl (omega (arith, many, below)) c.args.room.now.room c.loop-i.room c.post_to.new.room c.loop-i.pass c.post_to.new.pass b s.0;
      is_open = λ _. ap (λ (r : RoomState). r.is_shut) s.0.room ∙ s.1;
      at_first = λ e. absurd (omega (arith, e));
    }

pub returns-in_err-post_to-clause-posts : goal.returns-in_err-post_to-clause-posts
returns-in_err-post_to-clause-posts g c =
    let x = beginning_of c.args.hall.now in
    let i = c.loop-i.invariant in
    let b = i.posted in
    let fault = c.in_err-post_to.field-0.0 in
    let p = err_from_is_err_and c.from_residual.result c.from_residual.ensures.1 in
    let e : ◌≡◌ {A = Result (Unit {0}) RoomFault} c.from_residual.result (Err fault) = cc (p.1, p.2) in
    subst (PostsEachOr x c.args.room.now c.post_to.new.room c.post_to.new.pass) (sym e)
    (each_lacks x c.loop-i.i (c.loop-i.i + 1) c.args.room.now c.loop-i.room c.post_to.new.room c.loop-i.pass c.post_to.new.pass fault b (let many = c.seats-seats.ensures in let below = c.loop-i-test.true in omega (arith, many, below)) i.is_open i.at_first (c.in_err-post_to.ensures.posts b.note b.turn))
