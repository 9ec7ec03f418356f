use Rattle.std.proofs.Common.{◌≡◌, length, subst, arith}
use Rattle.lane_threads.specs.Resting.{RestedSoFar}
use Rattle.lane_threads.proofs.FinishedParts.{none_finished}
use Rattle.lane_threads.proofs.resting.finish_parts.Goals as goal

pub loop-at-init : goal.loop-at-init
loop-at-init g c = record { so_far = none_finished c.args.hall.now c.args.script.now c.args.options.now.group c.args.first.now c.args.others.now c.args.parts.now c.requires.joined }

pub returns : goal.returns
returns g c =
    let high = c.loop-at-test.false in
    let low = c.loop-at.auto.at-end in
    let same = c.loop-at.auto.parts in
    let all : c.loop-at.at ≡ length c.loop-at.parts = omega (arith, high, low, same) in
    subst (λ n. RestedSoFar c.args.hall.now c.args.script.now c.args.options.now.group n c.loop-at.first c.loop-at.others c.loop-at.parts) all c.loop-at.invariant.so_far
