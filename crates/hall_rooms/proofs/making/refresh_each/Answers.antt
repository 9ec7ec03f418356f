-- Each of some passes looks at its mailbox.
use denote.Param.Send.{sendable}
use Rattle.std.proofs.Common.{◌≡◌, ◌<◌, length, get_or, arith, subst}
use Rattle.hall_rooms.specs.Rooms.{IsRoomPass, beginning_of}
use Rattle.hall_rooms.specs.Making.{RenewsBelow}
use Rattle.hall_rooms.proofs.Crossing.{bucket_send, in_hall_send}
use Rattle.fine_places.proofs.Elements.{elem_at}
use Rattle.hall_rooms.proofs.Renewing.{all_ahead, all_renewed, all_set, looked, none_renewed, renewed_next}
use Rattle.hall_rooms.proofs.making.refresh_each.Goals as goal

pub refresh-requires-send-R : goal.refresh-requires-send-R
refresh-requires-send-R g c κs within = let d = c.type_bounds.send-D in search (sendable, in_hall_send) depth 20

pub refresh-requires-send-B : goal.refresh-requires-send-B
refresh-requires-send-B g c κs within = search (sendable, bucket_send) depth 20

pub loop-at-init : goal.loop-at-init
loop-at-init g c = record { passes = c.requires.passes; below = none_renewed (beginning_of c.args.hall.now) c.args.passes.now }

pub refresh-requires-clause-pass : goal.refresh-requires-clause-pass
refresh-requires-clause-pass g c κs within =
    c.loop-at.invariant.passes c.loop-at.at _
    (elem_at c.loop-at.passes c.loop-at.at c.index-passes-at.result (let test = c.loop-at-test.true in let many = c.loop-at.auto.passes in omega (arith, test, many)))

pub loop-at-preserved : goal.loop-at-preserved
loop-at-preserved g c =
    let x = beginning_of c.args.hall.now in
    let d = c.index-passes-at.result in
    let lt : c.loop-at.at < length c.loop-at.passes = (let test = c.loop-at-test.true in let many = c.loop-at.auto.passes in omega (arith, test, many)) in
    record {
      passes = all_set (IsRoomPass c.args.hall.now) c.loop-at.passes c.loop-at.at c.refresh.new.pass lt c.refresh.ensures.pass.0 c.loop-at.invariant.passes;
      below = renewed_next x c.loop-at.at c.args.passes.now c.loop-at.passes d c.refresh.new.pass c.loop-at.invariant.below lt
          (looked x c.refresh.result (get_or c.loop-at.passes c.loop-at.at d) c.refresh.new.pass c.refresh.ensures.pass.1 c.refresh.ensures.answer) c.refresh.ensures.ahead;
    }

pub returns-clause-renews : goal.returns-clause-renews
returns-clause-renews g c =
    let x = beginning_of c.args.hall.now in
    let e : c.loop-at.at ≡ length c.args.passes.now = (let f = c.loop-at-test.false in let a = c.loop-at.auto.at-end in omega (arith, f, a)) in
    all_renewed x c.args.passes.now c.loop-at.passes (subst (λ n. RenewsBelow x n c.args.passes.now c.loop-at.passes) e c.loop-at.invariant.below)

pub returns-clause-ahead : goal.returns-clause-ahead
returns-clause-ahead g c =
    let x = beginning_of c.args.hall.now in
    let e : c.loop-at.at ≡ length c.args.passes.now = (let f = c.loop-at-test.false in let a = c.loop-at.auto.at-end in omega (arith, f, a)) in
    all_ahead x c.args.passes.now c.loop-at.passes (subst (λ n. RenewsBelow x n c.args.passes.now c.loop-at.passes) e c.loop-at.invariant.below)
