use Rattle.std.proofs.Common.{◌∙◌, ap, refl, sym}
use Rattle.std.specs.Prelude.{get_or}
use Rattle.std.proofs.lemmas.Option.{slice_get-get_or}
use Rattle.lane_runs.specs.Lane.{is_aside}
use Rattle.lane_threads.specs.declared.worker.Part.{Part}
use Rattle.lane_threads.proofs.FinishedParts.{ended_by, goes_on_by, is_left, nothing_left, rested_more, stopped_here}
use Rattle.lane_threads.proofs.resting.finish_part.Goals as goal

pub returns-then-is_some : goal.returns-then-is_some
returns-then-is_some g c =
    let parts = c.args.parts.now in
    let part : Part = get_or parts c.args.at c.index-parts-at.result in
    let here = slice_get-get_or parts c.args.at c.index-parts-at.result c.requires.at in
    rested_more c.args.hall.now c.args.script.now c.args.options.now.group c.args.at c.requires.may.group c.args.first.now c.args.others.now parts c.requires.so_far part here part c.args.first.now c.args.others.now refl
    (nothing_left c.args.hall.now c.args.script.now c.args.options.now.group c.args.at c.requires.may.group c.args.first.now c.args.others.now parts c.requires.so_far part here
    (λ goes_on. absurd (ended_by c.ended.result (sym c.is_some.ensures ∙ c.if-is_some.true) (sym c.ended.ensures ∙ goes_on))))

pub run_rest-requires-clause-lane : goal.run_rest-requires-clause-lane
run_rest-requires-clause-lane g c κs within =
    let parts = c.args.parts.now in
    let part : Part = get_or parts c.args.at c.index-parts-at.result in
    let here = slice_get-get_or parts c.args.at c.index-parts-at.result c.requires.at in
    is_left c.args.hall.now c.args.script.now c.args.options.now.group c.args.at c.requires.may.group c.args.first.now c.args.others.now parts c.requires.so_far part here
    (c.ended.ensures ∙ goes_on_by c.ended.result (sym c.is_some.ensures ∙ c.if-is_some.false))

pub run_rest-requires-clause-blank : goal.run_rest-requires-clause-blank
run_rest-requires-clause-blank g c κs within =
    let parts = c.args.parts.now in
    let part : Part = get_or parts c.args.at c.index-parts-at.result in
    let here = slice_get-get_or parts c.args.at c.index-parts-at.result c.requires.at in
    (stopped_here c.args.hall.now c.args.script.now c.args.options.now.group c.args.at c.requires.may.group c.args.first.now c.args.others.now parts c.requires.so_far part here).blank

pub returns-in-Done : goal.returns-in-Done
returns-in-Done g c =
    let parts = c.args.parts.now in
    let part : Part = get_or parts c.args.at c.index-parts-at.result in
    let here = slice_get-get_or parts c.args.at c.index-parts-at.result c.requires.at in
    let stopped = stopped_here c.args.hall.now c.args.script.now c.args.options.now.group c.args.at c.requires.may.group c.args.first.now c.args.others.now parts c.requires.so_far part here in
    rested_more c.args.hall.now c.args.script.now c.args.options.now.group c.args.at c.requires.may.group c.args.first.now c.args.others.now parts c.requires.so_far part here part c.args.first.now c.args.others.now refl
    (nothing_left c.args.hall.now c.args.script.now c.args.options.now.group c.args.at c.requires.may.group c.args.first.now c.args.others.now parts c.requires.so_far part here
    (λ goes_on. stopped.ends.finished goes_on (ap is_aside c.in-Done.is)))

pub returns-in-Aside : goal.returns-in-Aside
returns-in-Aside g c =
    let parts = c.args.parts.now in
    let part : Part = get_or parts c.args.at c.index-parts-at.result in
    let here = slice_get-get_or parts c.args.at c.index-parts-at.result c.requires.at in
    let left : Part = record { lane = c.run_rest.new.lane; txn = c.run_rest.new.txn; stop = part.stop } in
    rested_more c.args.hall.now c.args.script.now c.args.options.now.group c.args.at c.requires.may.group c.args.first.now c.args.others.now parts c.requires.so_far part here left c.run_rest.new.first c.run_rest.new.others c.run_rest.ensures.same
    c.run_rest.ensures.rest
