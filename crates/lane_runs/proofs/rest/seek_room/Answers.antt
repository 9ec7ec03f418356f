use Rattle.std.proofs.Common.{sym, subst, ◌∙◌, Some, length}
use Rattle.std.specs.Prelude.{slice_get}
use Rattle.std.proofs.lemmas.Option.{slice_get_within}
use Rattle.run_laws.proofs.Steps.{at_end}
use Rattle.fine_model.specs.declared.Outcome.TheVariants as outcome
use Rattle.fine_model.specs.declared.Why.TheVariants as why
use Rattle.hall_rooms.specs.Rooms.{beginning_of}
use Rattle.lane_laws.specs.Lanes.{HasFull}
use Rattle.lane_runs.specs.Lane.{with_fault}
use Rattle.lane_runs.specs.Resting.{RestSoFar}
use Rattle.lane_runs.proofs.Roomed.{rest_ended, rest_goes_on, rest_stuck, stuck_by}
use Rattle.lane_runs.proofs.rest.seek_room.Goals as goal

pub try_room-requires-clause-others : goal.try_room-requires-clause-others
try_room-requires-clause-others g c κs within = λ i p there. (c.requires.others.idle i p there).0

pub finish-requires : goal.finish-requires
finish-requires g c = record { next = slice_get_within c.args.lane.now.work.at (length c.args.lane.now.work.done) c.args.place c.requires.next.next_at }

pub returns-then-not-is_stuck-clause-rest : goal.returns-then-not-is_stuck-clause-rest
returns-then-not-is_stuck-clause-rest g c = λ first0 others0 s.
    let e = c.try_room.ensures in
    rest_goes_on c.args.hall.now c.args.script.now c.args.options.now.group c.args.at first0 c.args.first.now c.try_room.new.pass others0 c.args.others.now c.try_room.new.others c.args.lane.now c.requires.group 0 c.try_room.result e.pass e.others e.renews e.tries s
    c.requires.next.goes_on c.in-Ok.space c.in-Ok.is

pub returns-else-not-is_stuck-clause-rest : goal.returns-else-not-is_stuck-clause-rest
returns-else-not-is_stuck-clause-rest g c = λ first0 others0 s.
    let e = c.try_room.ensures in
    subst (RestSoFar c.args.hall.now c.args.script.now c.args.options.now.group c.args.at first0 c.try_room.new.pass others0 c.try_room.new.others) (sym c.finish.ensures)
    (rest_stuck c.args.hall.now c.args.script.now c.args.options.now.group c.args.at first0 c.args.first.now c.try_room.new.pass others0 c.args.others.now c.try_room.new.others c.args.lane.now c.requires.group 0 c.try_room.result e.pass e.others e.renews e.tries s
    c.args.place c.in-Ok.space c.requires.next (c.requires.full s.own s.own_is) c.in-Ok.is (sym c.is_stuck.ensures ∙ c.if-not-is_stuck.false))

pub returns-else-not-is_stuck-clause-full : goal.returns-else-not-is_stuck-clause-full
returns-else-not-is_stuck-clause-full g c =
    let e = c.try_room.ensures in (
      subst HasFull (sym c.finish.ensures) (length c.args.lane.now.work.done, at_end c.args.lane.now.work.done (outcome.Refused why.Full)),
      stuck_by (beginning_of c.args.hall.now) 0 c.args.first.now c.try_room.new.pass c.try_room.result c.in-Ok.space e.pass.1 c.in-Ok.is (sym c.is_stuck.ensures ∙ c.if-not-is_stuck.false) e.tries,
    )

pub returns-in-Err-clause-rest : goal.returns-in-Err-clause-rest
returns-in-Err-clause-rest g c = λ first0 others0 s.
    let e = c.try_room.ensures in
    subst (RestSoFar c.args.hall.now c.args.script.now c.args.options.now.group c.args.at first0 c.try_room.new.pass others0 c.try_room.new.others) (sym c.end.ensures)
    (subst (λ f. RestSoFar c.args.hall.now c.args.script.now c.args.options.now.group c.args.at first0 c.try_room.new.pass others0 c.try_room.new.others (with_fault c.args.lane.now f)) (sym c.fault_of.ensures)
    (rest_ended c.args.hall.now c.args.script.now c.args.options.now.group c.args.at first0 c.args.first.now c.try_room.new.pass others0 c.args.others.now c.try_room.new.others c.args.lane.now c.requires.group 0 c.try_room.result e.pass e.others e.renews e.tries s
    c.requires.next.goes_on c.in-Err.fault c.in-Err.is))
