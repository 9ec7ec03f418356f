use Rattle.std.proofs.Common.{sym, subst}
use Rattle.lane_runs.specs.Steps.{StepsLane, taken}
use Rattle.hall_rooms.specs.Rooms.{beginning_of}
use Rattle.lane_runs.proofs.Stepping.{steps_lane}
use Rattle.lane_runs.proofs.step.take_turn.Goals as goal

pub returns-clause-steps : goal.returns-clause-steps
returns-clause-steps g c =
    let x = beginning_of c.args.hall.now in
    let p = c.args.pass.now in
    let then = c.run_turn-end.new.pass in
    let was = c.requires.idle.0 in
    let is = c.run_turn-end.ensures.idle in
    let end = c.run_turn-end.result in
    let s = steps_lane x c.args.script.now c.args.options.now.group p then c.args.lane.now c.args.at c.at-scripted.result.now c.requires.group is.1 was.own is.0.0.own was.lawful is.0.0.lawful c.requires.next c.at-scripted.ensures c.requires.script.few end c.run_turn-end.ensures.turn in
    subst (λ w. StepsLane x c.args.script.now c.args.options.now.group c.args.at p then c.args.lane.now w c.take_end.result) (sym c.take_end.ensures.lane)
    (subst (λ h. StepsLane x c.args.script.now c.args.options.now.group c.args.at p then c.args.lane.now (taken c.args.lane.now end) h) (sym c.take_end.ensures.went) s)
