use Rattle.std.proofs.Common.{refl, sym, subst, ◌∙◌}
use Rattle.fine_places.specs.History.{Owned}
use Rattle.fine_hall.proofs.Passing.{own, lacks, room_is, room_256, room_within, stood_once, still_pass, finds}
use Rattle.fine_hall.proofs.Meaning.{is_room}
use Rattle.fine_hall.proofs.Taking.{room_pass, room_for, takes_room, waited}
use Rattle.fine_hall.proofs.room_turn.Hall+R+B+V.try_room.Goals as goal

pub take-answer-requires-clause-own : goal.take-answer-requires-clause-own
take-answer-requires-clause-own g c = subst (Owned c.take_seat-seat.result.me.0.places.shares) (sym (c.from.ensures ∙ c.take_seat-seat.ensures.number)) (own g.V.ViewLaw.state _ _ c.args.pass.now _ c.requires.pass c.take_seat-seat.ensures.view)

pub take-answer-requires-clause-vacant : goal.take-answer-requires-clause-vacant
take-answer-requires-clause-vacant g c = lacks c.args.pass.now _ 256 c.take_seat-seat.ensures.view (room_is c.args.pass.now c.requires.free)

pub take-answer-requires-clause-within : goal.take-answer-requires-clause-within
take-answer-requires-clause-within g c = room_within

pub unreachable-requires : goal.unreachable-requires
unreachable-requires g c =
    let s = stood_once _ _ _ g.V.ViewLaw.state _ _ c.args.pass.now _ _ _ _ c.requires.pass c.take_seat-seat.ensures.view c.in-Ok.ensures.took in
    is_room g.R.RoomLaw.state g.R.RoomLaw.origin g.R.RoomLaw.stands_for g.B.BucketLaw.bucket g.B.BucketLaw.cached g.B.BucketLaw.is_settled _ _ s.0 c.in-Ok.load s.1 room_256 s.2 (λ room entry epoch backs. c.in_default.not-Room room entry epoch backs)

pub returns-in-Room : goal.returns-in-Room
returns-in-Room g c = record {
  pass = (
    room_pass g.R.RoomLaw.state g.R.RoomLaw.origin g.R.RoomLaw.stands_for g.B.BucketLaw.bucket g.B.BucketLaw.cached g.B.BucketLaw.is_settled g.V.ViewLaw.state _ _ c.args.pass.now (record c.give_seat.new.self { backs = c.in-Room.backs }) 256 _ _ _ c.requires.pass c.take_seat-seat.ensures.view c.give_seat.ensures.view
        (c.give_seat.ensures.seat.0 ∙ (c.in-Ok.ensures.table.0 ∙ (c.take_seat-seat.ensures.seat.0 ∙ c.requires.pass.table))) (c.give_seat.ensures.number ∙ c.take_seat-seat.ensures.number)
        (c.give_seat.ensures.front.0 ∙ c.take_seat-seat.ensures.front.0, c.give_seat.ensures.front.1 ∙ c.take_seat-seat.ensures.front.1) c.in-Ok.ensures.took room_256 _ _ _ _ c.in-Room.is refl,
    c.give_seat.ensures.number ∙ c.take_seat-seat.ensures.number,
  );
  takes = takes_room g.R.RoomLaw.state g.R.RoomLaw.origin g.R.RoomLaw.stands_for g.B.BucketLaw.bucket g.B.BucketLaw.cached g.B.BucketLaw.is_settled g.V.ViewLaw.state _ _ c.args.pass.now (record c.give_seat.new.self { backs = c.in-Room.backs }) 256 _ _ _ c.requires.pass c.take_seat-seat.ensures.view c.give_seat.ensures.view
      (c.give_seat.ensures.seat.0 ∙ (c.in-Ok.ensures.table.0 ∙ (c.take_seat-seat.ensures.seat.0 ∙ c.requires.pass.table))) (c.give_seat.ensures.number ∙ c.take_seat-seat.ensures.number)
      (c.give_seat.ensures.front.0 ∙ c.take_seat-seat.ensures.front.0, c.give_seat.ensures.front.1 ∙ c.take_seat-seat.ensures.front.1) c.in-Ok.ensures.took room_256 _ _ _ _ c.in-Room.is refl;
  room = room_for g.R.RoomLaw.state g.R.RoomLaw.origin g.R.RoomLaw.stands_for g.B.BucketLaw.bucket g.B.BucketLaw.cached g.B.BucketLaw.is_settled g.V.ViewLaw.state _ _ c.args.pass.now (record c.give_seat.new.self { backs = c.in-Room.backs }) 256 _ _ _ c.requires.pass c.take_seat-seat.ensures.view c.give_seat.ensures.view
      (c.give_seat.ensures.seat.0 ∙ (c.in-Ok.ensures.table.0 ∙ (c.take_seat-seat.ensures.seat.0 ∙ c.requires.pass.table))) (c.give_seat.ensures.number ∙ c.take_seat-seat.ensures.number)
      (c.give_seat.ensures.front.0 ∙ c.take_seat-seat.ensures.front.0, c.give_seat.ensures.front.1 ∙ c.take_seat-seat.ensures.front.1) c.in-Ok.ensures.took room_256 _ _ _ _ c.in-Room.is refl;
}

pub returns-in-Err : goal.returns-in-Err
returns-in-Err g c = record {
  pass = still_pass g.V.ViewLaw.state _ _ c.args.pass.now c.give_seat.new.self _ _ _ _ c.requires.pass c.take_seat-seat.ensures.view c.give_seat.ensures.view
      (c.give_seat.ensures.seat.0 ∙ (c.in-Err.ensures.table.0 ∙ (c.take_seat-seat.ensures.seat.0 ∙ c.requires.pass.table))) (c.give_seat.ensures.number ∙ c.take_seat-seat.ensures.number)
      (c.give_seat.ensures.front.0 ∙ c.take_seat-seat.ensures.front.0, c.give_seat.ensures.front.1 ∙ c.take_seat-seat.ensures.front.1, c.give_seat.ensures.front.2 ∙ c.take_seat-seat.ensures.front.2) c.in-Err.ensures.took;
  takes = waited _ _ _ c.args.pass.now c.give_seat.new.self (finds g.V.ViewLaw.state _ _ c.args.pass.now c.give_seat.new.self _ _ _ _ c.requires.pass c.take_seat-seat.ensures.view c.give_seat.ensures.view
      (c.give_seat.ensures.seat.0 ∙ (c.in-Err.ensures.table.0 ∙ (c.take_seat-seat.ensures.seat.0 ∙ c.requires.pass.table))) (c.give_seat.ensures.number ∙ c.take_seat-seat.ensures.number)
      (c.give_seat.ensures.front.0 ∙ c.take_seat-seat.ensures.front.0, c.give_seat.ensures.front.1 ∙ c.take_seat-seat.ensures.front.1, c.give_seat.ensures.front.2 ∙ c.take_seat-seat.ensures.front.2) c.in-Err.ensures.took);
  room = tt;
}
