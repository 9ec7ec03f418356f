use Rattle.std.proofs.Common.{◌≡◌, ◌∙◌}
use Rattle.fine_hall.proofs.Mailing.{reading_pass, reads_it, reads_number}
use Rattle.fine_hall.proofs.mail.Hall+R+B+V.published.Goals as goal

pub returns : goal.returns
returns g c =
    let number = c.give_seat.ensures.number ∙ c.take_seat-seat.ensures.number in
    let table = c.give_seat.ensures.seat.0 ∙ (c.published-number.ensures.table.0 ∙ (c.take_seat-seat.ensures.seat.0 ∙ c.requires.pass.table)) in
    let front : (c.give_seat.new.self.front ≡ c.args.pass.now.front) × (c.give_seat.new.self.buffer ≡ c.args.pass.now.buffer) × (c.give_seat.new.self.backs ≡ c.args.pass.now.backs) = (c.give_seat.ensures.front.0 ∙ c.take_seat-seat.ensures.front.0, c.give_seat.ensures.front.1 ∙ c.take_seat-seat.ensures.front.1, c.give_seat.ensures.front.2 ∙ c.take_seat-seat.ensures.front.2) in
    record {
      pass = (reading_pass g.V.ViewLaw.state _ _ c.args.pass.now _ c.requires.pass c.take_seat-seat.ensures.view c.give_seat.new.self _ c.give_seat.ensures.view table number front _ c.published-number.ensures.read, number);
      number = reads_number g.V.ViewLaw.state _ _ c.args.pass.now _ c.requires.pass c.take_seat-seat.ensures.view c.give_seat.new.self _ c.give_seat.ensures.view table number front _ c.published-number.ensures.read;
      reads = reads_it g.V.ViewLaw.state _ _ c.args.pass.now _ c.requires.pass c.take_seat-seat.ensures.view c.give_seat.new.self _ c.give_seat.ensures.view table number front _ c.published-number.ensures.read;
    }
