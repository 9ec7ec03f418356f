-- A front is made for each seat.
use Rattle.std.proofs.Common.{◌≡◌, ◌+◌, Err, arith, reverse, subst, sym}
use Rattle.std.specs.Prelude.{Result}
use Rattle.std.proofs.lemmas.Result.{err_from_is_err_and}
use Rattle.epoch_room.specs.declared.answers.RoomFault.{RoomFault}
use Rattle.hall_rooms.specs.Opening.{MakesFrontsOr}
use Rattle.hall_rooms.proofs.Fresh.{filling_next, filling_none, front_made, front_room, fronts_none, lacks_view}
use Rattle.hall_rooms.proofs.opening.make_fronts.Goals as goal

pub loop-i-init : goal.loop-i-init
loop-i-init g c = filling_none _ c.args.seats c.args.fronts.now.items _ _ c.requires.fronts.0 c.args.fronts.now.ok.0 c.requires.fronts.1 (fronts_none c.args.room.now c.args.seats c.counts-whole.ensures.whole c.requires.board)

pub make_view-requires-clause-seats : goal.make_view-requires-clause-seats
make_view-requires-clause-seats g c κs within =
    let i = c.loop-i.invariant in
    let r = front_room c.args.room.now c.loop-i.room c.args.seats c.loop-i.i c.loop-i.fronts.items i.made i.long c.loop-i-test.true in
    let h = r.0 in
    omega (arith, h)

pub make_view-requires-clause-empty : goal.make_view-requires-clause-empty
make_view-requires-clause-empty g c κs within = let i = c.loop-i.invariant in (front_room c.args.room.now c.loop-i.room c.args.seats c.loop-i.i c.loop-i.fronts.items i.made i.long c.loop-i-test.true).1

pub loop-i-preserved : goal.loop-i-preserved
loop-i-preserved g c =
    let i = c.loop-i.invariant in
    let p = c.push_reserved.ensures in
    filling_next _ _ c.args.seats c.loop-i.i c.loop-i.fronts.items c.push_reserved.new.self.items _ _ _ _ _ i p.items p.len p.capacity
    (front_made c.args.room.now c.loop-i.room c.make_view.new.room c.args.seats c.loop-i.i c.loop-i.fronts.items c.in_ok-make_view.field-0 i.made i.long c.loop-i-test.true c.requires.stands c.in_ok-make_view.ensures)

pub returns-in_err-make_view : goal.returns-in_err-make_view
returns-in_err-make_view g c =
    let i = c.loop-i.invariant in
    let fault = c.in_err-make_view.field-0.0 in
    let p = err_from_is_err_and c.from_residual.result c.from_residual.ensures.1 in
    let e : ◌≡◌ {A = Result (Unit {0}) RoomFault} c.from_residual.result (Err fault) = cc (p.1, p.2) in
    subst (MakesFrontsOr c.args.room.now c.make_view.new.room c.args.seats c.loop-i.fronts.items) (sym e)
    (lacks_view c.args.room.now c.loop-i.room c.make_view.new.room (reverse c.loop-i.fronts.items) (c.loop-i.i + 1) fault i.made.out i.made.same c.in_err-make_view.ensures)

pub returns : goal.returns
returns g c =
    let i = c.loop-i.invariant in
    let long = i.long in
    let low = c.loop-i-test.false in
    let high = c.loop-i.auto.i-end in
    (omega (arith, long, low, high), i.made)
