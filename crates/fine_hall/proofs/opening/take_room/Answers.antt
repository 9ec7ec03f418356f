use Rattle.std.proofs.Common.{◌++◌, ◌∷◌, [], None, sym, ap, ◌∙◌, replicate}
use Rattle.fine_hall.specs.Opening.{room_slot}
use Rattle.fine_hall.proofs.Laying.{last_same, one_room}
use Rattle.fine_hall.proofs.opening.take_room.Goals as goal

pub take_last-requires : goal.take_last-requires
take_last-requires g c = let r = c.requires in (r.1, room_slot r.0, r.2)

pub room_in-requires : goal.room_in-requires
room_in-requires g c =
    let r = c.requires in
    let one = last_same c.take_last.new.items.items r.1 c.take_last.result (room_slot r.0) (sym c.take_last.ensures ∙ r.2) in
    (r.0, (None, 0, replicate 18 2, one.1))

pub returns : goal.returns
returns g c =
    let r = c.requires in
    let one = last_same c.take_last.new.items.items r.1 c.take_last.result (room_slot r.0) (sym c.take_last.ensures ∙ r.2) in
    let is = one_room c.room_in.result r.0 c.take_last.result c.room_in.ensures (None, 0, replicate 18 2, one.1) in
    c.take_last.ensures ∙ ap (λ s. c.take_last.new.items.items ++ s ∷ []) (one.1 ∙ ap room_slot (sym is))
