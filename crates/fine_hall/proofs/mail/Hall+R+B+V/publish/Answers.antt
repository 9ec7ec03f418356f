use Rattle.std.proofs.Common.{◌≡◌, ◌≤◌, sym, subst, ◌∙◌}
use Rattle.fine_hall.proofs.Passing.{has, published_is}
use Rattle.fine_hall.proofs.Mailing.{publishing_pass, publishes, may_publish}
use Rattle.fine_hall.proofs.mail.Hall+R+B+V.publish.Goals as goal

pub publish-requires-clause-held : goal.publish-requires-clause-held
publish-requires-clause-held g c = has c.args.pass.now _ _ c.take_seat-seat.ensures.view c.requires.held

pub publish-requires-clause-later : goal.publish-requires-clause-later
publish-requires-clause-later g c = subst (λ n. n ≤ c.args.epoch) (sym (published_is g.V.ViewLaw.state _ _ c.args.pass.now _ c.requires.pass c.take_seat-seat.ensures.view)) c.requires.later

pub publish-requires-clause-may : goal.publish-requires-clause-may
publish-requires-clause-may g c = may_publish _ c.args.pass.now _ c.take_seat-seat.ensures.view _ c.requires.posted.0 c.requires.posted.1 c.requires.posted.2

pub returns : goal.returns
returns g c =
    let number = c.give_seat.ensures.number ∙ c.take_seat-seat.ensures.number in
    let table = c.give_seat.ensures.seat.0 ∙ (c.publish.ensures.table.0 ∙ (c.take_seat-seat.ensures.seat.0 ∙ c.requires.pass.table)) in
    let front : (c.give_seat.new.self.front ≡ c.args.pass.now.front) × (c.give_seat.new.self.buffer ≡ c.args.pass.now.buffer) × (c.give_seat.new.self.backs ≡ c.args.pass.now.backs) = (c.give_seat.ensures.front.0 ∙ c.take_seat-seat.ensures.front.0, c.give_seat.ensures.front.1 ∙ c.take_seat-seat.ensures.front.1, c.give_seat.ensures.front.2 ∙ c.take_seat-seat.ensures.front.2) in
    record {
      pass = (publishing_pass g.V.ViewLaw.state _ _ c.args.pass.now _ c.requires.pass c.take_seat-seat.ensures.view c.give_seat.new.self _ c.give_seat.ensures.view table number front _ c.publish.ensures.written, number);
      publishes = publishes g.V.ViewLaw.state _ _ c.args.pass.now _ c.requires.pass c.take_seat-seat.ensures.view c.give_seat.new.self _ c.give_seat.ensures.view table number front _ c.publish.ensures.written;
    }
