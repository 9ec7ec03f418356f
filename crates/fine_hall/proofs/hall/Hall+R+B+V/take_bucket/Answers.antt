use Rattle.std.proofs.Common.{refl, ◌<◌, sym, subst, ◌∙◌, arith}
use Rattle.fine_places.specs.History as places
use Rattle.fine_places.specs.History.{Owned, touching}
use Rattle.fine_hall.specs.Turns.{touches_bucket}
use Rattle.fine_hall.specs.Laws.{Stands}
use Rattle.fine_hall.specs.Passes.{turns, published}
use Rattle.fine_hall.specs.Halls.{begun, Takes, FindsHeld}
use Rattle.fine_hall.proofs.Passing.{own, stood_once, bucket_pass, takes_bucket, stood, fits_owner, still_pass, finds}
use Rattle.fine_hall.proofs.Meaning.{is_bucket, found_bucket}
use Rattle.fine_hall.proofs.hall.Hall+R+B+V.take_bucket.Goals as goal

pub take-answer-requires-clause-own : goal.take-answer-requires-clause-own
take-answer-requires-clause-own g c = subst (Owned c.take_seat-seat.result.me.0.places.shares) (sym (c.from-2.ensures ∙ c.take_seat-seat.ensures.number)) (own g.V.ViewLaw.state _ _ c.args.pass.now _ c.requires.pass c.take_seat-seat.ensures.view)

pub unreachable-requires : goal.unreachable-requires
unreachable-requires g c =
    let s = stood_once _ _ _ g.V.ViewLaw.state _ _ c.args.pass.now _ _ _ _ c.requires.pass c.take_seat-seat.ensures.view c.in-Ok.ensures.took in
    is_bucket g.R.RoomLaw.state g.R.RoomLaw.origin g.R.RoomLaw.stands_for g.B.BucketLaw.bucket g.B.BucketLaw.cached g.B.BucketLaw.is_settled _ _ s.0 c.in-Ok.load s.1 (subst (λ k. k < places.room) (sym c.from.ensures) c.requires.free.0) s.2 c.in_default.not-Bucket

pub overflow_cast-result : goal.overflow_cast-result
overflow_cast-result g c = let few : c.in-Err.owner < 4294967296 = fits_owner _ _ _ _ _ c.in-Err.ensures.took in omega arith

pub returns-in-Bucket-clause-pass : goal.returns-in-Bucket-clause-pass
returns-in-Bucket-clause-pass g c = (
  bucket_pass _ _ _ g.V.ViewLaw.state _ _ c.args.pass.now c.give_seat.new.self _ _ _ _ c.requires.pass c.take_seat-seat.ensures.view c.give_seat.ensures.view
      (c.give_seat.ensures.seat.0 ∙ (c.in-Ok.ensures.table.0 ∙ (c.take_seat-seat.ensures.seat.0 ∙ c.requires.pass.table))) (c.give_seat.ensures.number ∙ c.take_seat-seat.ensures.number)
      (c.give_seat.ensures.front.0 ∙ c.take_seat-seat.ensures.front.0, c.give_seat.ensures.front.1 ∙ c.take_seat-seat.ensures.front.1) c.in-Ok.ensures.took
      (subst (λ k. k < places.room) (sym c.from.ensures) c.requires.free.0) (c.give_seat.ensures.front.2 ∙ c.take_seat-seat.ensures.front.2),
  c.give_seat.ensures.number ∙ c.take_seat-seat.ensures.number,
)

pub returns-in-Bucket-clause-takes : goal.returns-in-Bucket-clause-takes
returns-in-Bucket-clause-takes g c = subst (λ k. Takes k c.args.pass.now c.give_seat.new.self) c.from.ensures
    (takes_bucket _ _ _ g.V.ViewLaw.state _ _ c.args.pass.now c.give_seat.new.self _ _ _ _ c.requires.pass c.take_seat-seat.ensures.view c.give_seat.ensures.view
    (c.give_seat.ensures.seat.0 ∙ (c.in-Ok.ensures.table.0 ∙ (c.take_seat-seat.ensures.seat.0 ∙ c.requires.pass.table))) (c.give_seat.ensures.number ∙ c.take_seat-seat.ensures.number)
    (c.give_seat.ensures.front.0 ∙ c.take_seat-seat.ensures.front.0, c.give_seat.ensures.front.1 ∙ c.take_seat-seat.ensures.front.1) c.in-Ok.ensures.took
    (subst (λ k. k < places.room) (sym c.from.ensures) c.requires.free.0) (c.give_seat.ensures.front.2 ∙ c.take_seat-seat.ensures.front.2))

pub returns-in-Bucket-clause-content : goal.returns-in-Bucket-clause-content
returns-in-Bucket-clause-content g c =
    let s = stood _ _ _ g.V.ViewLaw.state _ _ c.args.pass.now c.give_seat.new.self _ _ _ _ c.requires.pass c.take_seat-seat.ensures.view c.give_seat.ensures.view
    (c.give_seat.ensures.seat.0 ∙ (c.in-Ok.ensures.table.0 ∙ (c.take_seat-seat.ensures.seat.0 ∙ c.requires.pass.table))) (c.give_seat.ensures.number ∙ c.take_seat-seat.ensures.number)
    (c.give_seat.ensures.front.0 ∙ c.take_seat-seat.ensures.front.0, c.give_seat.ensures.front.1 ∙ c.take_seat-seat.ensures.front.1) c.in-Ok.ensures.took in
    found_bucket g.R.RoomLaw.state g.R.RoomLaw.origin g.R.RoomLaw.stands_for g.B.BucketLaw.bucket g.B.BucketLaw.cached g.B.BucketLaw.is_settled _ _ _ c.in-Ok.load _ (turns c.give_seat.new.self) c.requires.free.0 c.in-Bucket.is
    (subst (λ k. Stands g.R.RoomLaw.state g.R.RoomLaw.origin g.R.RoomLaw.stands_for g.B.BucketLaw.bucket g.B.BucketLaw.cached g.B.BucketLaw.is_settled (begun g.R.RoomLaw.state g.R.RoomLaw.origin g.V.ViewLaw.state c.args.self.now) k (published c.give_seat.new.self) c.in-Ok.load (touching touches_bucket k (turns c.give_seat.new.self))) c.from.ensures s)

pub returns-in-Err-clause-pass : goal.returns-in-Err-clause-pass
returns-in-Err-clause-pass g c =
    still_pass g.V.ViewLaw.state _ _ c.args.pass.now c.give_seat.new.self _ _ _ _ c.requires.pass c.take_seat-seat.ensures.view c.give_seat.ensures.view
    (c.give_seat.ensures.seat.0 ∙ (c.in-Err.ensures.table.0 ∙ (c.take_seat-seat.ensures.seat.0 ∙ c.requires.pass.table))) (c.give_seat.ensures.number ∙ c.take_seat-seat.ensures.number)
    (c.give_seat.ensures.front.0 ∙ c.take_seat-seat.ensures.front.0, c.give_seat.ensures.front.1 ∙ c.take_seat-seat.ensures.front.1, c.give_seat.ensures.front.2 ∙ c.take_seat-seat.ensures.front.2) c.in-Err.ensures.took

pub returns-in-Err-clause-conflict : goal.returns-in-Err-clause-conflict
returns-in-Err-clause-conflict g c = (
  refl,
  subst (λ k. FindsHeld (begun g.R.RoomLaw.state g.R.RoomLaw.origin g.V.ViewLaw.state c.args.self.now) k c.in-Err.owner c.args.pass.now c.give_seat.new.self) c.from.ensures
      (finds g.V.ViewLaw.state _ _ c.args.pass.now c.give_seat.new.self _ _ _ _ c.requires.pass c.take_seat-seat.ensures.view c.give_seat.ensures.view
      (c.give_seat.ensures.seat.0 ∙ (c.in-Err.ensures.table.0 ∙ (c.take_seat-seat.ensures.seat.0 ∙ c.requires.pass.table))) (c.give_seat.ensures.number ∙ c.take_seat-seat.ensures.number)
      (c.give_seat.ensures.front.0 ∙ c.take_seat-seat.ensures.front.0, c.give_seat.ensures.front.1 ∙ c.take_seat-seat.ensures.front.1, c.give_seat.ensures.front.2 ∙ c.take_seat-seat.ensures.front.2) c.in-Err.ensures.took),
)
