use Rattle.std.proofs.Common.{◌≡◌, sym, ap, ◌∙◌, ◌++◌, ◌∷◌, [], length, arith}
use Rattle.lane_runs.proofs.Made.{all_places, no_place_more, place_more, places_up_to}
use Rattle.lane_runs.proofs.lane.places_of.Goals.{then-at-lane+in_ok-push, else-at-lane}
use Rattle.lane_runs.proofs.lane.places_of.Goals as goal

pub loop-i-preserved : goal.loop-i-preserved
loop-i-preserved c =
    let script = c.args.script.now in
    let n = c.loop-i.i in
    elim c.if-at-lane.branch [
      | then-at-lane+in_ok-push w ↦ (λ k. (w.at-is k).items) ∙ (w.in_ok-push.ensures.items ∙ (ap (λ l. l ++ n ∷ []) c.loop-i.invariant ∙ sym (place_more script c.args.lane n c.at.result.now c.at.ensures w.if-at-lane.true)))
      | else-at-lane w ↦ (λ k. (w.at-is k).items) ∙ (c.loop-i.invariant ∙ sym (no_place_more script c.args.lane n c.at.result.now c.at.ensures w.if-at-lane.false))
    ]

pub returns : goal.returns
returns c =
    let script = c.args.script.now in
    let all : c.loop-i.i ≡ length script = (let out = c.loop-i-test.false in let in_ = c.loop-i.auto.i-end in let e = c.len-i-end.ensures in omega (arith, out, in_, e)) in
    c.loop-i.invariant ∙ (ap (places_up_to script c.args.lane) all ∙ all_places script c.args.lane)
