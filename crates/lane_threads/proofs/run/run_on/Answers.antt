use Rattle.std.proofs.Common.{◌≡◌, ◌+◌, ◌++◌, ◌∙◌, List, ap, length, subst, sym}
use Rattle.std.specs.Prelude.{drop, take}
use Rattle.hall_rooms.specs.Opening.{OpensHall}
use Rattle.hall_rooms.specs.Rooms.{RoomPass, beginning_of}
use Rattle.lane_threads.specs.declared.worker.Part.{Part}
use Rattle.lane_threads.specs.Resting.{AreAllDone}
use Rattle.lane_threads.proofs.Lent.{given_back}
use Rattle.lane_threads.proofs.run.run_on.Goals as goal

pub end_run-requires-clause-done : goal.end_run-requires-clause-done
end_run-requires-clause-done g c κs within =
    let old = c.run_threads-joined.result in
    let new = c.finish_lanes-ended.new in
    let others = given_back old.others.len new.others old.others.items (c.finish_lanes-ended.auto.others ∙ c.as_mut_slice.ensures.len) in
    let parts = given_back old.parts.len new.parts old.parts.items (c.finish_lanes-ended.auto.parts ∙ c.as_mut_slice-2.ensures.len) in
    subst (λ (l : List RoomPass). AreAllDone c.args.opened.hall c.args.script.now c.args.options.now.group new.first l (take old.parts.len (new.parts ++ drop (length new.parts) old.parts.items)) c.finish_lanes-ended.result) (sym others)
    (subst (λ (l : List Part). AreAllDone c.args.opened.hall c.args.script.now c.args.options.now.group new.first new.others l c.finish_lanes-ended.result) (sym parts) c.finish_lanes-ended.ensures)

pub end_run-requires-clause-seats : goal.end_run-requires-clause-seats
end_run-requires-clause-seats g c κs within =
    let old = c.run_threads-joined.result in
    let new = c.finish_lanes-ended.new in
    let many : length (take old.parts.len (new.parts ++ drop (length new.parts) old.parts.items)) ≡ length new.parts = ap length (given_back old.parts.len new.parts old.parts.items (c.finish_lanes-ended.auto.parts ∙ c.as_mut_slice-2.ensures.len)) in
    let same : length new.parts ≡ length c.as_mut_slice-2.result.now = c.finish_lanes-ended.auto.parts in
    let lent : length c.as_mut_slice-2.result.now ≡ length old.parts.items = ap length c.as_mut_slice-2.ensures.value in
    c.requires.seats ∙ sym (ap (λ n. n + 2) (many ∙ (same ∙ (lent ∙ c.run_threads-joined.ensures.count))))

pub returns : goal.returns
returns g c = λ old ready opens.
    let back = c.run_threads-joined.result in
    let new = c.finish_lanes-ended.new in
    let many : length (take back.parts.len (new.parts ++ drop (length new.parts) back.parts.items)) ≡ length new.parts = ap length (given_back back.parts.len new.parts back.parts.items (c.finish_lanes-ended.auto.parts ∙ c.as_mut_slice-2.ensures.len)) in
    let same : length new.parts ≡ length c.as_mut_slice-2.result.now = c.finish_lanes-ended.auto.parts in
    let lent : length c.as_mut_slice-2.result.now ≡ length back.parts.items = ap length c.as_mut_slice-2.ensures.value in
    c.end_run.ensures old ready (subst (λ n. OpensHall old (n + 2) (beginning_of c.args.opened.hall)) (sym (many ∙ (same ∙ (lent ∙ c.run_threads-joined.ensures.count)))) opens)
