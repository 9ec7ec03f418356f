use Rattle.std.proofs.Common.{sym, subst, ◌∙◌}
use Rattle.hall_rooms.specs.Rooms.{beginning_of}
use Rattle.lane_runs.specs.Resting.{RefusesNext}
use Rattle.lane_runs.proofs.Refusing.{refuses_next}
use Rattle.lane_runs.proofs.rest.refuse_turn.Goals as goal

pub returns-in-On-clause-refuses : goal.returns-in-On-clause-refuses
returns-in-On-clause-refuses g c =
    let x = beginning_of c.args.hall.now in
    let e = c.run_on_full-end.ensures in
    let was = c.requires.idle.0 in
    let is = e.idle.0.0 in
    subst (RefusesNext x c.args.script.now c.args.options.now.group c.args.pass.now c.run_on_full-end.new.pass c.args.lane.now) (sym c.take_end.ensures.lane)
    (refuses_next x c.args.script.now c.args.options.now.group c.args.pass.now c.run_on_full-end.new.pass c.args.lane.now c.args.place c.at.result.now c.requires.group e.idle.1 was.own was.lawful is.lawful c.requires.next c.at.ensures e.turn.sees
    c.run_on_full-end.result e.turn.ends)

pub returns-in-Tried-clause-refuses : goal.returns-in-Tried-clause-refuses
returns-in-Tried-clause-refuses g c =
    let x = beginning_of c.args.hall.now in
    let e = c.run_on_full-end.ensures in
    let was = c.requires.idle.0 in
    let is = e.idle.0.0 in
    subst (RefusesNext x c.args.script.now c.args.options.now.group c.args.pass.now c.run_on_full-end.new.pass c.args.lane.now) (sym (c.note_begun.ensures ∙ c.take_end.ensures.lane))
    (refuses_next x c.args.script.now c.args.options.now.group c.args.pass.now c.run_on_full-end.new.pass c.args.lane.now c.args.place c.at.result.now c.requires.group e.idle.1 was.own was.lawful is.lawful c.requires.next c.at.ensures e.turn.sees
    c.run_on_full-end.result e.turn.ends)
