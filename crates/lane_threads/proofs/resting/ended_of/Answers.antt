use Rattle.std.proofs.Common.{◌≡◌, ◌+◌, ◌-◌, ◌∙◌, List, Option, Some, ap, subst, sym}
use Rattle.std.specs.Prelude.{get_or, option_to_list, slice_set}
use Rattle.std.proofs.lemmas.Option.{slice_get-get_or}
use Rattle.fine_model.specs.declared.RunFault.{RunFault}
use Rattle.run_laws.specs.Lanes.{EndsLane}
use Rattle.lane_threads.specs.declared.worker.Part.{Part}
use Rattle.lane_threads.specs.Resting.{EndedSoFar}
use Rattle.lane_threads.proofs.EndedParts.{none_more, none_so_far, one_more}
use Rattle.lane_threads.proofs.resting.ended_of.Goals as goal
use Rattle.lane_threads.proofs.resting.ended_of.Goals.{in-Some, in_default}

pub loop-k-init : goal.loop-k-init
loop-k-init c = record { so_far = subst (λ (l : List (Option RunFault)). EndedSoFar 0 c.args.parts.now l) (sym c.none-ended.ensures) (none_so_far c.args.parts.now) }

pub loop-k-preserved : goal.loop-k-preserved
loop-k-preserved c =
    let parts = c.args.parts.now in
    let at = c.loop-k.k in
    let part : Part = get_or parts at c.index-parts-k.result in
    let here = slice_get-get_or parts at c.index-parts-k.result c.loop-k-test.true in
    elim c.match-ended.branch [
      | in-Some w ↦
          let set : w.end.new.self ≡ slice_set c.loop-k.ended (part.lane.lane - 1) (Some w.in-Some.fault) = w.end.ensures.set ∙ ap (λ n. slice_set c.loop-k.ended (n - 1) (Some w.in-Some.fault)) w.lane.ensures in
          let ends = subst (λ n. EndsLane c.loop-k.ended w.end.new.self n w.in-Some.fault) w.lane.ensures w.end.ensures.ends in
          record {
            so_far = subst (λ (l : List (Option RunFault)). EndedSoFar (at + 1) parts l) (sym w.ended-is)
                (one_more parts c.requires at part here c.loop-k.ended c.loop-k.invariant.so_far w.in-Some.fault (c.ended.ensures ∙ ap option_to_list w.in-Some.is) w.end.new.self set ends);
          }
      | in_default w ↦ record {
        so_far = subst (λ (l : List (Option RunFault)). EndedSoFar (at + 1) parts l) (sym w.ended-is)
            (none_more parts c.requires at part here c.loop-k.ended c.loop-k.invariant.so_far (c.ended.ensures ∙ ap option_to_list w.in_default.is));
      }
    ]
