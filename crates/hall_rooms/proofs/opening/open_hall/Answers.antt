-- A hall is opened.
use denote.Param.Send.{sendable}
use Rattle.std.proofs.Common.{◌++◌, ◌*◌, None, arith, replicate, reverse, refl, subst, sym, ◌∙◌}
use Rattle.hall_rooms.specs.Opening.{LacksViews, OpensHall}
use Rattle.hall_rooms.proofs.Crossing.{bucket_send, in_hall_send}
use Rattle.hall_rooms.proofs.Fresh.{MadeViews, alone_seated, fresh_hall, lacks_hall, lacks_same, lacks_seated, made_views, opens}
use Rattle.hall_rooms.proofs.opening.open_hall.Goals as goal

pub returns-in-Err-clause-back : goal.returns-in-Err-clause-back
returns-in-Err-clause-back g c =
    let mid = c.set_seats.new.self in
    let l = subst (λ m. LacksViews mid c.make_fronts.new.room (reverse m ++ reverse c.make_fronts.new.fronts.items) c.in-Err.fault) (sym c.in-Ok.ensures.empty.1) c.in-Err.ensures in
    c.give_up.ensures c.args.room (lacks_seated c.args.room mid (replicate (3 * c.args.seats) None) c.in-Ok-set_seats.ensures.ok c.set_seats.ensures.keeps c.make_fronts.new.room _ c.in-Err.fault l)

pub make_middles-requires-clause-fronts : goal.make_middles-requires-clause-fronts
make_middles-requires-clause-fronts g c κs within =
    let mid = c.set_seats.new.self in
    let f = c.in_default-make_fronts.ensures in
    (mid, c.make_fronts.new.fronts.items, alone_seated c.args.room mid (replicate (3 * c.args.seats) None) c.in-Ok-set_seats.ensures.ok c.set_seats.ensures.keeps c.requires.stands, f.0, f.1)

pub give_up-requires-in-Err-make_middles-clause-views : goal.give_up-requires-in-Err-make_middles-clause-views
give_up-requires-in-Err-make_middles-clause-views g c κs within =
    let mid = c.set_seats.new.self in
    let f = c.in_default-make_fronts.ensures in
    (mid, c.in-Err-make_middles.ensures mid c.make_fronts.new.fronts.items (alone_seated c.args.room mid (replicate (3 * c.args.seats) None) c.in-Ok-set_seats.ensures.ok c.set_seats.ensures.keeps c.requires.stands) f.0 f.1)

pub returns-in-Err-make_middles-clause-back : goal.returns-in-Err-make_middles-clause-back
returns-in-Err-make_middles-clause-back g c =
    let mid = c.set_seats.new.self in
    let f = c.in_default-make_fronts.ensures in
    let l = c.in-Err-make_middles.ensures mid c.make_fronts.new.fronts.items (alone_seated c.args.room mid (replicate (3 * c.args.seats) None) c.in-Ok-set_seats.ensures.ok c.set_seats.ensures.keeps c.requires.stands) f.0 f.1 in
    c.give_up-in-Err-make_middles.ensures c.args.room (lacks_seated c.args.room mid (replicate (3 * c.args.seats) None) c.in-Ok-set_seats.ensures.ok c.set_seats.ensures.keeps c.make_middles.new.room _ c.in-Err-make_middles.fault l)

pub new-requires-send-R : goal.new-requires-send-R
new-requires-send-R g c κs within = let d = c.type_bounds.send-D in search (sendable, in_hall_send) depth 20

pub new-requires-send-B : goal.new-requires-send-B
new-requires-send-B g c κs within = search (sendable, bucket_send) depth 20

pub new-requires-clause-seats : goal.new-requires-clause-seats
new-requires-clause-seats g c κs within =
    let v = made_views c.args.room c.set_seats.new.self c.make_fronts.new.room c.make_middles.new.room (replicate (3 * c.args.seats) None) c.args.seats c.make_fronts.new.fronts.items c.make_middles.new.middles.items c.in-Ok-set_seats.ensures.ok c.set_seats.ensures.keeps c.requires.seats.0 c.requires.stands c.in_default-make_fronts.ensures c.in_default-make_middles.ensures in
    let many = v.many in
    let least = c.requires.seats.0 in
    let most = c.requires.seats.1 in
    (omega (arith, many, least), omega (arith, many, most), v.all ∙ sym many)

pub new-requires-clause-fresh : goal.new-requires-clause-fresh
new-requires-clause-fresh g c κs within =
    let v = made_views c.args.room c.set_seats.new.self c.make_fronts.new.room c.make_middles.new.room (replicate (3 * c.args.seats) None) c.args.seats c.make_fronts.new.fronts.items c.make_middles.new.middles.items c.in-Ok-set_seats.ensures.ok c.set_seats.ensures.keeps c.requires.seats.0 c.requires.stands c.in_default-make_fronts.ensures c.in_default-make_middles.ensures in
    let h = subst (λ r. MadeViews c.args.room r c.args.seats c.make_fronts.new.fronts.items c.make_middles.new.middles.items) (sym c.in-Ok-hold.ensures.held) v in
    fresh_hall c.args.room c.in-Ok-hold.held c.args.seats c.make_fronts.new.fronts.items c.make_middles.new.middles.items h c.requires.no_job c.requires.no_place.0 c.requires.no_place.1

pub give_up-requires-in-Err-new-clause-views : goal.give_up-requires-in-Err-new-clause-views
give_up-requires-in-Err-new-clause-views g c κs within =
    let v = made_views c.args.room c.set_seats.new.self c.make_fronts.new.room c.make_middles.new.room (replicate (3 * c.args.seats) None) c.args.seats c.make_fronts.new.fronts.items c.make_middles.new.middles.items c.in-Ok-set_seats.ensures.ok c.set_seats.ensures.keeps c.requires.seats.0 c.requires.stands c.in_default-make_fronts.ensures c.in_default-make_middles.ensures in
    let l = lacks_same _ _ _ _ _ _ _ (c.into_room.ensures ∙ (c.in-Err-new.ensures.back.0 ∙ c.in-Ok-hold.ensures.held)) c.in-Err-new.ensures.back.2 c.in-Err-new.ensures.back.3 (lacks_hall c.args.room c.make_middles.new.room c.args.seats c.make_fronts.new.fronts.items c.make_middles.new.middles.items v) in
    (c.args.room, l)

pub returns-in-Ok-new-clause-hall : goal.returns-in-Ok-new-clause-hall
returns-in-Ok-new-clause-hall g c =
    let v = made_views c.args.room c.set_seats.new.self c.make_fronts.new.room c.make_middles.new.room (replicate (3 * c.args.seats) None) c.args.seats c.make_fronts.new.fronts.items c.make_middles.new.middles.items c.in-Ok-set_seats.ensures.ok c.set_seats.ensures.keeps c.requires.seats.0 c.requires.stands c.in_default-make_fronts.ensures c.in_default-make_middles.ensures in
    let h = subst (λ r. MadeViews c.args.room r c.args.seats c.make_fronts.new.fronts.items c.make_middles.new.middles.items) (sym c.in-Ok-hold.ensures.held) v in
    subst (OpensHall c.args.room c.args.seats) (sym c.in-Ok-new.ensures.hall) (opens c.args.room c.in-Ok-hold.held c.args.seats c.make_fronts.new.fronts.items c.make_middles.new.middles.items h)

pub returns-in-Err-new-clause-back : goal.returns-in-Err-new-clause-back
returns-in-Err-new-clause-back g c =
    let v = made_views c.args.room c.set_seats.new.self c.make_fronts.new.room c.make_middles.new.room (replicate (3 * c.args.seats) None) c.args.seats c.make_fronts.new.fronts.items c.make_middles.new.middles.items c.in-Ok-set_seats.ensures.ok c.set_seats.ensures.keeps c.requires.seats.0 c.requires.stands c.in_default-make_fronts.ensures c.in_default-make_middles.ensures in
    let l = lacks_same _ _ _ _ _ _ _ (c.into_room.ensures ∙ (c.in-Err-new.ensures.back.0 ∙ c.in-Ok-hold.ensures.held)) c.in-Err-new.ensures.back.2 c.in-Err-new.ensures.back.3 (lacks_hall c.args.room c.make_middles.new.room c.args.seats c.make_fronts.new.fronts.items c.make_middles.new.middles.items v) in
    c.give_up-in-Err-new.ensures c.args.room l

pub give_up-requires-in-Err-hold-clause-views : goal.give_up-requires-in-Err-hold-clause-views
give_up-requires-in-Err-hold-clause-views g c κs within =
    let v = made_views c.args.room c.set_seats.new.self c.make_fronts.new.room c.make_middles.new.room (replicate (3 * c.args.seats) None) c.args.seats c.make_fronts.new.fronts.items c.make_middles.new.middles.items c.in-Ok-set_seats.ensures.ok c.set_seats.ensures.keeps c.requires.seats.0 c.requires.stands c.in_default-make_fronts.ensures c.in_default-make_middles.ensures in
    let l = lacks_same _ _ _ c.make_fronts.new.fronts.items c.make_fronts.new.fronts.items c.make_middles.new.middles.items c.make_middles.new.middles.items c.in-Err-hold.ensures.back refl refl (lacks_hall c.args.room c.make_middles.new.room c.args.seats c.make_fronts.new.fronts.items c.make_middles.new.middles.items v) in
    (c.args.room, l)

pub returns-in-Err-hold-clause-back : goal.returns-in-Err-hold-clause-back
returns-in-Err-hold-clause-back g c =
    let v = made_views c.args.room c.set_seats.new.self c.make_fronts.new.room c.make_middles.new.room (replicate (3 * c.args.seats) None) c.args.seats c.make_fronts.new.fronts.items c.make_middles.new.middles.items c.in-Ok-set_seats.ensures.ok c.set_seats.ensures.keeps c.requires.seats.0 c.requires.stands c.in_default-make_fronts.ensures c.in_default-make_middles.ensures in
    let l = lacks_same _ _ _ c.make_fronts.new.fronts.items c.make_fronts.new.fronts.items c.make_middles.new.middles.items c.make_middles.new.middles.items c.in-Err-hold.ensures.back refl refl (lacks_hall c.args.room c.make_middles.new.room c.args.seats c.make_fronts.new.fronts.items c.make_middles.new.middles.items v) in
    c.give_up-in-Err-hold.ensures c.args.room l

pub returns-in-Ok-new-clause-passes : goal.returns-in-Ok-new-clause-passes
returns-in-Ok-new-clause-passes g c = (c.in-Ok-new.ensures.count ∙ c.in_default-make_fronts.ensures.0, (c.make_fronts.new.fronts.items, c.in-Ok-new.ensures.passes))
