-- A middle is made for each seat.
use Rattle.std.proofs.Common.{◌≡◌, ◌++◌, ◌+◌, Err, arith, reverse, subst, sym}
use Rattle.std.specs.Prelude.{Result}
use Rattle.std.proofs.lemmas.Result.{err_from_is_err_and}
use Rattle.epoch_room.specs.declared.answers.RoomFault.{RoomFault}
use Rattle.hall_rooms.specs.Opening.{MakesMiddlesOr}
use Rattle.hall_rooms.proofs.Fresh.{filling_next, filling_none, lacks_view, middle_made, middle_room, middles_none}
use Rattle.hall_rooms.proofs.opening.make_middles.Goals as goal

pub loop-i-init : goal.loop-i-init
loop-i-init g c = filling_none _ c.args.seats c.args.middles.now.items _ _ c.requires.middles.0 c.args.middles.now.ok.0 c.requires.middles.1 (λ old fronts alone many f. middles_none old c.args.room.now c.args.seats fronts many f)

pub make_view-requires-clause-seats : goal.make_view-requires-clause-seats
make_view-requires-clause-seats g c κs within =
    let i = c.loop-i.invariant in
    let f = c.requires.fronts in
    let r = middle_room f.0 c.loop-i.room c.args.seats c.loop-i.i f.1 c.loop-i.middles.items f.3 (i.made f.0 f.1 f.2 f.3 f.4) i.long c.loop-i-test.true in
    let h = r.0 in
    omega (arith, h)

pub make_view-requires-clause-empty : goal.make_view-requires-clause-empty
make_view-requires-clause-empty g c κs within =
    let i = c.loop-i.invariant in
    let f = c.requires.fronts in
    let r = middle_room f.0 c.loop-i.room c.args.seats c.loop-i.i f.1 c.loop-i.middles.items f.3 (i.made f.0 f.1 f.2 f.3 f.4) i.long c.loop-i-test.true in
    r.1

pub loop-i-preserved : goal.loop-i-preserved
loop-i-preserved g c =
    let i = c.loop-i.invariant in
    let p = c.push_reserved.ensures in
    filling_next _ _ c.args.seats c.loop-i.i c.loop-i.middles.items c.push_reserved.new.self.items _ _ _ _ _ i p.items p.len p.capacity
    (λ old fronts alone many f. middle_made old c.loop-i.room c.make_view.new.room c.args.seats c.loop-i.i fronts c.loop-i.middles.items c.in_ok-make_view.field-0 many (i.made old fronts alone many f) i.long c.loop-i-test.true alone c.in_ok-make_view.ensures)

pub returns-in_err-make_view : goal.returns-in_err-make_view
returns-in_err-make_view g c old fronts alone many f =
    let i = c.loop-i.invariant in
    let b = i.made old fronts alone many f in
    let fault = c.in_err-make_view.field-0.0 in
    let p = err_from_is_err_and c.from_residual.result c.from_residual.ensures.1 in
    let e : ◌≡◌ {A = Result (Unit {0}) RoomFault} c.from_residual.result (Err fault) = cc (p.1, p.2) in
    subst (MakesMiddlesOr old c.make_view.new.room c.args.seats fronts c.loop-i.middles.items) (sym e)
    (lacks_view old c.loop-i.room c.make_view.new.room (reverse c.loop-i.middles.items ++ reverse fronts) (c.loop-i.i + 1) fault b.out b.same c.in_err-make_view.ensures)

pub returns : goal.returns
returns g c old fronts alone many f =
    let i = c.loop-i.invariant in
    let long = i.long in
    let low = c.loop-i-test.false in
    let high = c.loop-i.auto.i-end in
    (omega (arith, long, low, high), i.made old fronts alone many f)
