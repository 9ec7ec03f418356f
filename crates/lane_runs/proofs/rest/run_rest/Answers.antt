use Rattle.std.proofs.Common.{refl, sym, subst, ◌∙◌, true, false}
use Rattle.hall_rooms.specs.Rooms.{beginning_of}
use Rattle.lane_runs.specs.Resting.{FullSoFar}
use Rattle.lane_runs.proofs.Ending.{ended_by_fault, ended_by_last, own_there, rest_begins, rest_ends, stands_next}
use Rattle.lane_runs.proofs.rest.run_rest.Goals as goal

pub loop-init : goal.loop-init
loop-init g c =
    let l = c.requires.lane in
    record { more = (tt, tt); so_far = rest_begins c.args.hall.now c.args.script.now c.args.options.now.group c.args.at c.args.first.now c.args.others.now l.0 c.args.lane.now c.requires.first c.requires.others l.1 l.2; full = l.2.none_full; blank = c.requires.blank; same = refl }

pub returns-then-is_some-clause-rest : goal.returns-then-is_some-clause-rest
returns-then-is_some-clause-rest g c =
    let s = c.loop.invariant.so_far in
    rest_ends c.args.hall.now c.args.script.now c.args.options.now.group c.args.at c.args.first.now c.loop.first c.args.others.now c.loop.others c.loop.lane s
    (ended_by_fault c.args.hall.now c.args.script.now c.args.options.now.group c.args.at c.args.first.now c.loop.first c.args.others.now c.loop.others c.loop.lane s c.ended.result c.ended.ensures (sym c.is_some.ensures ∙ c.if-is_some.true))

pub returns-in_default-clause-rest : goal.returns-in_default-clause-rest
returns-in_default-clause-rest g c =
    let s = c.loop.invariant.so_far in
    rest_ends c.args.hall.now c.args.script.now c.args.options.now.group c.args.at c.args.first.now c.loop.first c.args.others.now c.loop.others c.loop.lane s
    (ended_by_last c.args.hall.now c.args.script.now c.args.options.now.group c.args.at c.args.first.now c.loop.first c.args.others.now c.loop.others c.loop.lane s (sym c.next-in-loop.ensures ∙ c.in_default.is))

pub refuse_next-requires-clause-at : goal.refuse_next-requires-clause-at
refuse_next-requires-clause-at g c κs within = own_there c.args.hall.now c.args.script.now c.args.options.now.group c.args.at c.args.first.now c.loop.first c.args.others.now c.loop.others c.loop.lane c.loop.invariant.so_far

pub refuse_next-requires-clause-next : goal.refuse_next-requires-clause-next
refuse_next-requires-clause-next g c κs within =
    stands_next c.args.hall.now c.args.script.now c.args.options.now.group c.args.at c.args.first.now c.loop.first c.args.others.now c.loop.others c.loop.lane c.loop.invariant.so_far c.ended.result c.in-Some-next.place c.ended.ensures
    (sym c.is_some.ensures ∙ c.if-is_some.false) (sym c.next-in-loop.ensures ∙ c.in-Some-next.is)

pub loop-preserved-then-is_full : goal.loop-preserved-then-is_full
loop-preserved-then-is_full g c =
    let e = c.refuse_next.ensures in
    let x = beginning_of c.args.hall.now in
    record { more = (tt, tt); so_far = e.rest c.args.first.now c.args.others.now c.loop.invariant.so_far; full = subst (λ b. FullSoFar b x c.loop.first c.refuse_next.new.lane) (sym c.if-is_full.true) e.full; blank = e.blank; same = e.same ∙ c.loop.invariant.same }

pub try_rest-is_full-requires-clause-at : goal.try_rest-is_full-requires-clause-at
try_rest-is_full-requires-clause-at g c κs within = own_there c.args.hall.now c.args.script.now c.args.options.now.group c.args.at c.args.first.now c.loop.first c.args.others.now c.loop.others c.loop.lane c.loop.invariant.so_far

pub try_rest-is_full-requires-clause-next : goal.try_rest-is_full-requires-clause-next
try_rest-is_full-requires-clause-next g c κs within = record {
  next = stands_next c.args.hall.now c.args.script.now c.args.options.now.group c.args.at c.args.first.now c.loop.first c.args.others.now c.loop.others c.loop.lane c.loop.invariant.so_far c.ended.result c.in-Some-next.place c.ended.ensures
      (sym c.is_some.ensures ∙ c.if-is_some.false) (sym c.next-in-loop.ensures ∙ c.in-Some-next.is);
  none_full = subst (λ b. FullSoFar b (beginning_of c.args.hall.now) c.loop.first c.loop.lane) c.if-is_full.false c.loop.invariant.full;
}

pub loop-preserved : goal.loop-preserved
loop-preserved g c =
    let e = c.try_rest-is_full.ensures in
    record { more = (tt, tt); so_far = e.rest c.args.first.now c.args.others.now c.loop.invariant.so_far; full = e.full; blank = e.blank; same = e.same ∙ c.loop.invariant.same }
