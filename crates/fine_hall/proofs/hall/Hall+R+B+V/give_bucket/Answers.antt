use Rattle.std.proofs.Common.{◌≡◌, ◌∷◌, [], ◌<◌, ap, sym, subst, ◌∙◌}
use Rattle.fine_places.specs.History as places
use Rattle.fine_model.specs.Buckets.{IsBucketFor}
use Rattle.fine_hall.specs.Passes.{published, seen}
use Rattle.fine_hall.specs.Halls.{begun, Gives}
use Rattle.fine_hall.proofs.Giving.{may_give_bucket, gives_bucket, given_bucket_pass}
use Rattle.fine_hall.proofs.hall.Hall+R+B+V.give_bucket.Goals as goal

pub give-requires-clause-gives : goal.give-requires-clause-gives
give-requires-clause-gives g c = may_give_bucket g.R.RoomLaw.state g.R.RoomLaw.origin g.R.RoomLaw.stands_for g.B.BucketLaw.bucket g.B.BucketLaw.cached g.B.BucketLaw.is_settled g.V.ViewLaw.state _ _ c.args.pass.now _ c.requires.pass c.take_seat-seat.ensures.view _ c.args.content
    (subst (λ k. k < places.room) (sym c.from.ensures) c.requires.held.0)
    (subst (λ k. IsBucketFor g.B.BucketLaw.bucket g.B.BucketLaw.cached g.B.BucketLaw.is_settled (begun g.R.RoomLaw.state g.R.RoomLaw.origin g.V.ViewLaw.state c.args.self.now).log k (published c.args.pass.now) c.args.content (seen c.args.pass.now)) (sym c.from.ensures) c.requires.stands)

pub returns : goal.returns
returns g c =
    let number = c.give_seat.ensures.number ∙ c.take_seat-seat.ensures.number in
    let table = c.give_seat.ensures.seat.0 ∙ (c.give.ensures.table.0 ∙ (c.take_seat-seat.ensures.seat.0 ∙ c.requires.pass.table)) in
    let front : (c.give_seat.new.self.front ≡ c.args.pass.now.front) × (c.give_seat.new.self.buffer ≡ c.args.pass.now.buffer) × (c.give_seat.new.self.backs ≡ c.args.pass.now.backs) = (c.give_seat.ensures.front.0 ∙ c.take_seat-seat.ensures.front.0, c.give_seat.ensures.front.1 ∙ c.take_seat-seat.ensures.front.1, c.give_seat.ensures.front.2 ∙ c.take_seat-seat.ensures.front.2) in
    let near = subst (λ k. k < places.room) (sym c.from.ensures) c.requires.held.0 in
    let after = c.give_seat.ensures.view ∙ ap (λ m. m.0 ∷ []) c.give.ensures.gave in
    record {
      pass = (given_bucket_pass g.R.RoomLaw.state g.R.RoomLaw.origin g.R.RoomLaw.stands_for g.B.BucketLaw.bucket g.B.BucketLaw.cached g.B.BucketLaw.is_settled g.V.ViewLaw.state _ _ c.args.pass.now _ c.requires.pass c.take_seat-seat.ensures.view c.give_seat.new.self table number front _ c.args.content near after, number);
      gives = subst (λ k. Gives k c.args.pass.now c.give_seat.new.self) c.from.ensures
          (gives_bucket g.R.RoomLaw.state g.R.RoomLaw.origin g.R.RoomLaw.stands_for g.B.BucketLaw.bucket g.B.BucketLaw.cached g.B.BucketLaw.is_settled g.V.ViewLaw.state _ _ c.args.pass.now _ c.requires.pass c.take_seat-seat.ensures.view c.give_seat.new.self table number front _ c.args.content near after);
    }
