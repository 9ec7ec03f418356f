use Rattle.std.proofs.Common.{◌≡◌, ◌∷◌, [], Option, option_map, ap, sym, subst, ◌∙◌}
use Rattle.fine_model.specs.declared.Entry.{Entry}
use Rattle.fine_hall.specs.Halls.{begun, GivesRoom, MayGiveRoom}
use Rattle.fine_hall.proofs.Passing.{has, has_room, room_256, room_within, one_turn}
use Rattle.fine_hall.proofs.Giving.{may_give_room, gives_room, given_room_pass}
use Rattle.fine_hall.proofs.room_turn.Hall+R+B+V.give_room.Goals as goal

pub give-requires-clause-held : goal.give-requires-clause-held
give-requires-clause-held g c = has c.args.pass.now _ 256 c.take_seat-seat.ensures.view (has_room c.args.pass.now c.requires.held)

pub give-requires-clause-within : goal.give-requires-clause-within
give-requires-clause-within g c = room_within

pub give-requires-clause-gives : goal.give-requires-clause-gives
give-requires-clause-gives g c =
    let t = c.requires.room in
    may_give_room g.R.RoomLaw.state g.R.RoomLaw.origin g.R.RoomLaw.stands_for g.B.BucketLaw.bucket g.B.BucketLaw.cached g.B.BucketLaw.is_settled g.V.ViewLaw.state _ _ c.args.pass.now _ c.requires.pass c.take_seat-seat.ensures.view c.args.room c.noted-entry.result c.args.epoch _ c.take_seat-seat.ensures.front.2 c.requires.held t.0 t.1
    (subst (λ (o : Option Entry). MayGiveRoom g.R.RoomLaw.state g.R.RoomLaw.origin g.R.RoomLaw.stands_for (begun g.R.RoomLaw.state g.R.RoomLaw.origin g.V.ViewLaw.state c.args.self.now) c.args.room o c.args.epoch t.0 c.args.pass.now) (sym c.noted-entry.ensures) t.2) 256 room_256

pub returns : goal.returns
returns g c =
    let number = c.give_seat.ensures.number ∙ c.take_seat-seat.ensures.number in
    let table = c.give_seat.ensures.seat.0 ∙ (c.give.ensures.table.0 ∙ (c.take_seat-seat.ensures.seat.0 ∙ c.requires.pass.table)) in
    let front : (c.give_seat.new.self.front ≡ c.args.pass.now.front) × (c.give_seat.new.self.buffer ≡ c.args.pass.now.buffer) = (c.give_seat.ensures.front.0 ∙ c.take_seat-seat.ensures.front.0, c.give_seat.ensures.front.1 ∙ c.take_seat-seat.ensures.front.1) in
    let after = c.give_seat.ensures.view ∙ ap (λ m. m.0 ∷ []) c.give.ensures.gave in
    let t = c.requires.room in
    let may = subst (λ (o : Option Entry). MayGiveRoom g.R.RoomLaw.state g.R.RoomLaw.origin g.R.RoomLaw.stands_for (begun g.R.RoomLaw.state g.R.RoomLaw.origin g.V.ViewLaw.state c.args.self.now) c.args.room o c.args.epoch t.0 c.args.pass.now) (sym c.noted-entry.ensures) t.2 in
    let gave = gives_room g.R.RoomLaw.state g.R.RoomLaw.origin g.R.RoomLaw.stands_for g.B.BucketLaw.bucket g.B.BucketLaw.cached g.B.BucketLaw.is_settled g.V.ViewLaw.state _ _ c.args.pass.now _ c.requires.pass c.take_seat-seat.ensures.view c.args.room c.noted-entry.result c.args.epoch _ c.take_seat-seat.ensures.front.2 c.requires.held t.0 t.1 may c.give_seat.new.self table number front 256 room_256 after in
    record {
      pass = (given_room_pass g.R.RoomLaw.state g.R.RoomLaw.origin g.R.RoomLaw.stands_for g.B.BucketLaw.bucket g.B.BucketLaw.cached g.B.BucketLaw.is_settled g.V.ViewLaw.state _ _ c.args.pass.now _ c.requires.pass c.take_seat-seat.ensures.view c.args.room c.noted-entry.result c.args.epoch _ c.take_seat-seat.ensures.front.2 c.requires.held t.0 t.1 may c.give_seat.new.self table number front 256 room_256 after, number);
      gives = λ u h. subst (λ (o : Option Entry). GivesRoom (g.R.RoomLaw.state c.args.room) o c.args.epoch u c.args.pass.now c.give_seat.new.self) c.noted-entry.ensures
          (subst (λ w. GivesRoom (g.R.RoomLaw.state c.args.room) (option_map (λ n. n.value) c.noted-entry.result) c.args.epoch w c.args.pass.now c.give_seat.new.self) (one_turn _ c.args.pass.now t.0 u t.1 h) gave);
    }
