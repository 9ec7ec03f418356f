use Rattle.std.proofs.Common.{true, false, refl, sym, ◌∙◌}
use Rattle.fine_hall.proofs.Meaning.{is_view, view_state}
use Rattle.fine_hall.proofs.Refreshing.{one_note, own_look, in_hand, own_front, may_refresh, fresh_note, fresh_looks, stale_looks}
use Rattle.fine_hall.proofs.mail.Hall+R+B+V.look_once.Goals as goal

pub refresh-load-requires-clause-may : goal.refresh-load-requires-clause-may
refresh-load-requires-clause-may g c =
    let one = one_note g.V.ViewLaw.state _ _ c.args.pass.now _ c.requires.pass c.take_seat-seat.ensures.view in
    let l = own_look g.V.ViewLaw.state _ _ c.args.pass.now _ c.requires.pass c.take_seat-seat.ensures.view true c.look-is_fresh.new.seat.me.0 _ c.if-is_fresh.true c.look-is_fresh.ensures.looked in
    may_refresh g.V.ViewLaw.state _ _ c.args.pass.now _ c.requires.pass c.take_seat-seat.ensures.view _ l _ _ c.in-Some.front c.look-is_fresh.new.seat.me.1 c.take_seat-seat.ensures.number c.take_seat-seat.ensures.front.1
    (sym c.take_seat-seat.ensures.front.0 ∙ (sym c.take.ensures.value ∙ c.in-Some.is)) (in_hand _ _ c.look-is_fresh.new.seat.me.1 c.if-is_fresh.true (c.look-is_fresh.ensures.hand c.requires.pass.front.note one))

pub unreachable-requires-in_default-load : goal.unreachable-requires-in_default-load
unreachable-requires-in_default-load g c =
    let l = own_look g.V.ViewLaw.state _ _ c.args.pass.now _ c.requires.pass c.take_seat-seat.ensures.view true c.look-is_fresh.new.seat.me.0 _ c.if-is_fresh.true c.look-is_fresh.ensures.looked in
    let front = own_front g.V.ViewLaw.state _ _ c.args.pass.now _ c.requires.pass c.take_seat-seat.ensures.view c.in-Some.front (sym c.take_seat-seat.ensures.front.0 ∙ (sym c.take.ensures.value ∙ c.in-Some.is)) in
    let told = c.refresh-load.ensures.refreshed _ (g.V.ViewLaw.state c.requires.pass.front.there).faults (fresh_note g.V.ViewLaw.state _ _ c.args.pass.now _ c.requires.pass c.take_seat-seat.ensures.view _ l) front in
    is_view g.V.ViewLaw.state c.refresh-load.result.0 told.0 told.1 c.in_default-load.not-View

pub returns-in-None : goal.returns-in-None
returns-in-None g c =
    let l = own_look g.V.ViewLaw.state _ _ c.args.pass.now _ c.requires.pass c.take_seat-seat.ensures.view true c.look-is_fresh.new.seat.me.0 _ c.if-is_fresh.true c.look-is_fresh.ensures.looked in
    let front = own_front g.V.ViewLaw.state _ _ c.args.pass.now _ c.requires.pass c.take_seat-seat.ensures.view c.in-Some.front (sym c.take_seat-seat.ensures.front.0 ∙ (sym c.take.ensures.value ∙ c.in-Some.is)) in
    let told = c.refresh-load.ensures.refreshed _ (g.V.ViewLaw.state c.requires.pass.front.there).faults (fresh_note g.V.ViewLaw.state _ _ c.args.pass.now _ c.requires.pass c.take_seat-seat.ensures.view _ l) front in
    fresh_looks g.V.ViewLaw.state _ _ c.args.pass.now _ c.requires.pass c.take_seat-seat.ensures.view _ l (g.V.ViewLaw.state c.requires.pass.front.there).faults refl told.0 _ told.3 c.give_seat.new.self c.give_seat.ensures.view
    (c.give_seat.ensures.seat.0 ∙ (c.refresh-load.ensures.table.0 ∙ (c.look-is_fresh.ensures.table.0 ∙ (c.take_seat-seat.ensures.seat.0 ∙ c.requires.pass.table)))) (c.give_seat.ensures.number ∙ c.take_seat-seat.ensures.number)
    c.in-View.new (c.give_seat.ensures.front.0 ∙ c.replace-given_up.ensures.after) (view_state g.V.ViewLaw.state c.refresh-load.result.0 told.0 c.in-View.new told.1 c.in-View.is) (c.give_seat.ensures.front.1 ∙ told.2) (c.give_seat.ensures.front.2 ∙ c.take_seat-seat.ensures.front.2)

pub returns-else-is_fresh : goal.returns-else-is_fresh
returns-else-is_fresh g c =
    let l = own_look g.V.ViewLaw.state _ _ c.args.pass.now _ c.requires.pass c.take_seat-seat.ensures.view false c.look-is_fresh.new.seat.me.0 _ c.if-is_fresh.false c.look-is_fresh.ensures.looked in
    stale_looks g.V.ViewLaw.state _ _ c.args.pass.now _ c.requires.pass c.take_seat-seat.ensures.view c.give_seat-else-is_fresh.new.self _ c.give_seat-else-is_fresh.ensures.view
    (c.give_seat-else-is_fresh.ensures.seat.0 ∙ (c.look-is_fresh.ensures.table.0 ∙ (c.take_seat-seat.ensures.seat.0 ∙ c.requires.pass.table))) (c.give_seat-else-is_fresh.ensures.number ∙ c.take_seat-seat.ensures.number)
    (c.give_seat-else-is_fresh.ensures.front.0 ∙ c.take_seat-seat.ensures.front.0, c.give_seat-else-is_fresh.ensures.front.1 ∙ c.take_seat-seat.ensures.front.1, c.give_seat-else-is_fresh.ensures.front.2 ∙ c.take_seat-seat.ensures.front.2) l
