-- Views are posted to all seats, and the sealed epoch is published.
use denote.Param.Send.{sendable}
use Rattle.std.proofs.Common.{◌≡◌, ℕ, Err, arith, sym, subst, ◌∙◌}
use Rattle.std.specs.Prelude.{Result}
use Rattle.std.proofs.lemmas.Result.{err_from_is_err_and}
use Rattle.epoch_room.specs.declared.answers.RoomFault.{RoomFault}
use Rattle.hall_rooms.specs.Rooms.{beginning_of}
use Rattle.hall_rooms.specs.Steps.{PublishesOr}
use Rattle.hall_rooms.proofs.Crossing.{bucket_send, in_hall_send}
use Rattle.hall_rooms.proofs.Shown.{post_fails, published_all, stays_published}
use Rattle.hall_rooms.proofs.Turned.{counted, stays_more}
use Rattle.hall_rooms.proofs.showing.post_and_publish.Goals as goal

pub returns-in_err-post_to_each-clause-posts : goal.returns-in_err-post_to_each-clause-posts
returns-in_err-post_to_each-clause-posts g c =
    let fault = c.in_err-post_to_each.field-0.0 in
    let p = err_from_is_err_and c.from_residual.result c.from_residual.ensures.1 in
    let e : ◌≡◌ {A = Result ℕ RoomFault} c.from_residual.result (Err fault) = cc (p.1, p.2) in
    subst (PublishesOr (beginning_of c.args.hall.now) c.args.room.now c.post_to_each.new.room c.post_to_each.new.pass) (sym e)
    (post_fails (beginning_of c.args.hall.now) c.args.room.now c.post_to_each.new.room c.post_to_each.new.pass fault c.in_err-post_to_each.ensures.posts)

pub publish-requires-send-R : goal.publish-requires-send-R
publish-requires-send-R g c κs within = let d = c.type_bounds.send-D in search (sendable, in_hall_send) depth 20

pub publish-requires-send-B : goal.publish-requires-send-B
publish-requires-send-B g c κs within = search (sendable, bucket_send) depth 20

pub publish-requires-clause-later : goal.publish-requires-clause-later
publish-requires-clause-later g c κs within =
    let b = c.in_ok-post_to_each.ensures.posts.0 in
    let low = b.turn.is_turn.top in
    let top = b.turn.may.top in
    let is = (counted c.post_to_each.new.room.room c.counts-epoch.result c.counts-epoch.ensures.counts).1 in
    omega (arith, low, top, is)

pub publish-requires-clause-posted : goal.publish-requires-clause-posted
publish-requires-clause-posted g c κs within =
    let b = c.in_ok-post_to_each.ensures.posts.0 in
    let is = (counted c.post_to_each.new.room.room c.counts-epoch.result c.counts-epoch.ensures.counts).1 in
    (b.note, b.turn.is_turn, λ i lt. let up = b.upto i lt in omega (arith, up, is))

pub returns-clause-stays : goal.returns-clause-stays
returns-clause-stays g c =
    let b = c.in_ok-post_to_each.ensures.posts.0 in
    let low = b.turn.is_turn.top in
    let top = b.turn.may.top in
    let is = (counted c.post_to_each.new.room.room c.counts-epoch.result c.counts-epoch.ensures.counts).1 in
    record {
      pass = (c.publish.ensures.pass.0, c.publish.ensures.pass.1 ∙ c.post_to_each.ensures.stays.pass.1);
      stays = stays_more c.args.pass.now c.post_to_each.new.pass c.publish.new.pass c.post_to_each.ensures.stays.stays (stays_published c.counts-epoch.result.sealed c.post_to_each.new.pass c.publish.new.pass (omega (arith, low, top, is)) c.publish.ensures.publishes);
    }

pub returns-clause-posts : goal.returns-clause-posts
returns-clause-posts g c =
    published_all (beginning_of c.args.hall.now) c.post_to_each.new.room c.post_to_each.new.pass c.publish.new.pass _ c.publish.ensures.pass.0 c.publish.ensures.pass.1 c.counts-epoch.ensures.whole c.counts-epoch.result.sealed c.publish.ensures.publishes c.args.room.now
    c.in_ok-post_to_each.ensures.posts (counted c.post_to_each.new.room.room c.counts-epoch.result c.counts-epoch.ensures.counts).1
