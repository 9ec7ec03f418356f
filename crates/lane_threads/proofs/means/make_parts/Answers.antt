use Rattle.std.proofs.Common.{◌+◌, ap, sym, subst, ◌∙◌, arith}
use Rattle.lane_threads.proofs.LanesBelow.{HasLanesBelow, lane_passed, lane_taken, lanes_all}
use Rattle.lane_threads.proofs.means.make_parts.Goals as goal
use Rattle.lane_threads.proofs.means.make_parts.Goals.{then-has_lane+in_ok-make_part+in_ok-push, else-has_lane}

pub loop-lane-preserved : goal.loop-lane-preserved
loop-lane-preserved c =
    let script = c.args.script.now in
    let at = c.loop-lane in
    elim c.if-has_lane.branch [
      | then-has_lane+in_ok-make_part+in_ok-push w ↦ subst (λ l. HasLanesBelow script (at.lane + 1) l) (sym (ap (λ v. v.items) w.parts-is ∙ w.in_ok-push.ensures.items))
          (lane_taken script at.lane at.parts.items w.in_ok-make_part.field-0 at.auto.lane (sym w.if-has_lane.ensures) w.in_ok-make_part.ensures at.invariant)
      | else-has_lane w ↦ subst (λ v. HasLanesBelow script (at.lane + 1) v.items) (sym w.parts-is) (lane_passed script at.lane at.parts.items at.auto.lane (sym w.if-has_lane.ensures) at.invariant)
    ]

pub returns : goal.returns
returns c = lanes_all c.args.script.now c.loop-lane.lane c.loop-lane.parts.items (omega arith) c.loop-lane.invariant
