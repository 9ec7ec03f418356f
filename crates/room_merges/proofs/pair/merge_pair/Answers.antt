use Rattle.std.proofs.Common.{◌≡◌, Bool, false, Some, None, Ok, Result, sym, subst, ap, ◌∙◌}
use Rattle.fine_model.specs.declared.law.RoomState.{RoomState}
use Rattle.epoch_room.specs.MergeSteps.{picked, with_job}
use Rattle.epoch_room.specs.Returns.{IsPosted}
use Rattle.epoch_room.specs.Value.{RoomValue}
use Rattle.room_merges.specs.Merging.{IsOut}
use Rattle.room_merges.specs.Pairs.{MergesJob}
use Rattle.room_merges.specs.declared.fault.MergeFault.{MergeFault}
use Rattle.room_merges.proofs.Pairing.{Tries, pair_lacked, pair_merged, pair_none, pair_refused, pair_shut, pair_unmerged, pick_found, pick_none, refused_out, tries_from}
use Rattle.room_merges.proofs.pair.merge_pair.Given.{Over}
use Rattle.room_merges.proofs.pair.merge_pair.Goals.{After-job-2-1}
use Rattle.room_merges.proofs.pair.merge_pair.Goals as goal

-- once a job was picked
tried : (g : Over) (c : After-job-2-1 g) → Tries c.args.from c.args.room.now c.merge_pick.new.self c.args.view.now c.in-Some-merge_pick.job
tried g c =
    let old = c.args.room.now in
    let opened : old.room.is_shut ≡ false = c.shut_at.ensures.open c.in_default.is in
    let found : picked old.room c.args.from ≡ Some c.in-Some-merge_pick.job = sym c.merge_pick.ensures.job ∙ c.in-Some-merge_pick.is in
    let out : IsOut old c.args.view.now = record { whole = c.counts-counts.ensures.whole; is_view = c.parts-parts.ensures.whole; posted = c.requires.idle.posted; region_len = c.requires.idle.region_len } in
    tries_from c.args.from old c.merge_pick.new.self c.args.view.now c.in-Some-merge_pick.job c.requires.idle.no_job opened out found c.merge_pick.ensures.room c.merge_pick.ensures.keeps

pub returns-in-Some : goal.returns-in-Some
returns-in-Some g c =
    let is = c.shut_at.ensures.shut c.in-Some.epoch c.in-Some.is in
    pair_shut c.args.from c.in-Some.epoch c.args.room.now c.args.view.now is.0 is.1

pub returns-in_default-merge_pick : goal.returns-in_default-merge_pick
returns-in_default-merge_pick g c =
    let old = c.args.room.now in
    let opened : old.room.is_shut ≡ false = c.shut_at.ensures.open c.in_default.is in
    let none : picked old.room c.args.from ≡ None = sym c.merge_pick.ensures.job ∙ c.in_default-merge_pick.is in
    pair_none c.args.from old c.merge_pick.new.self c.args.view.now c.requires.idle.no_job opened c.counts-counts.ensures.whole (pick_none old.room c.args.from opened none)
    (c.merge_pick.ensures.room ∙ ap (λ j. with_job old j old.room.free) none ∙ ap (λ j. with_job old j old.room.free) (sym c.requires.idle.no_job))

pub merge_job-requires-clause-fresh : goal.merge_job-requires-clause-fresh
merge_job-requires-clause-fresh g c κs within =
    let t = tried g (goal.at.merge_job-requires-clause-fresh g c).After-job-2-1 in
    record {
      out = ap (λ (v : RoomValue). v.room.job) t.is;
      opened = ap (λ (v : RoomValue). v.room.is_shut) t.is ∙ t.opened;
      is = (pick_found c.args.room.now.room c.args.from c.in-Some-merge_pick.job t.opened (sym c.merge_pick.ensures.job ∙ c.in-Some-merge_pick.is)).1;
      older = c.has_both.ensures.older c.if-has_both.true;
      newer = c.has_both.ensures.newer c.if-has_both.true;
      posted = subst (λ (v : RoomValue). IsPosted v.room c.args.view.now) (sym t.is) c.requires.idle.posted;
      region_len = c.requires.idle.region_len ∙ sym (ap (λ (v : RoomValue). v.room.region_len) t.is);
    }

pub returns-then-merged : goal.returns-then-merged
returns-then-merged g c =
    pair_merged c.args.from c.args.room.now c.merge_pick.new.self c.args.view.now c.in-Some-merge_pick.job (tried g (goal.at.returns-then-merged g c).After-job-2-1) c.merge_job.new.room c.merge_job.new.view c.merge_job.new.job (c.has_both.ensures.older c.if-has_both.true) (c.has_both.ensures.newer c.if-has_both.true)
    (subst (λ (r : Result Bool MergeFault). MergesJob c.merge_pick.new.self c.merge_job.new.room c.args.view.now c.merge_job.new.view (c.in-Some-merge_pick.job.older, c.in-Some-merge_pick.job.newer) c.merge_job.new.job r) (c.in-Ok.is ∙ ap (λ b. Ok b) c.if-merged.true) c.merge_job.ensures)

pub give_up-requires-clause-out : goal.give_up-requires-clause-out
give_up-requires-clause-out g c κs within =
    let done = (subst (λ (r : Result Bool MergeFault). MergesJob c.merge_pick.new.self c.merge_job.new.room c.args.view.now c.merge_job.new.view (c.in-Some-merge_pick.job.older, c.in-Some-merge_pick.job.newer) c.merge_job.new.job r) (c.in-Ok.is ∙ ap (λ b. Ok b) c.if-merged.false) c.merge_job.ensures) in
    ap (λ (r : RoomState). r.job) done.job.0.room

pub give_up-requires-in-Err-clause-out : goal.give_up-requires-in-Err-clause-out
give_up-requires-in-Err-clause-out g c κs within =
    let done = (subst (λ (r : Result Bool MergeFault). MergesJob c.merge_pick.new.self c.merge_job.new.room c.args.view.now c.merge_job.new.view (c.in-Some-merge_pick.job.older, c.in-Some-merge_pick.job.newer) c.merge_job.new.job r) c.in-Err.is c.merge_job.ensures) in
    refused_out c.merge_job.new.job c.merge_job.new.room.room.free c.merge_pick.new.self c.merge_job.new.room c.in-Err.fault done.job.0

pub give_up-requires-else-has_both-clause-out : goal.give_up-requires-else-has_both-clause-out
give_up-requires-else-has_both-clause-out g c κs within =
    ap (λ (v : RoomValue). v.room.job) (tried g (goal.at.give_up-requires-else-has_both-clause-out g c).After-job-2-1).is

pub returns-else-merged : goal.returns-else-merged
returns-else-merged g c =
    pair_unmerged c.args.from c.args.room.now c.merge_pick.new.self c.args.view.now c.in-Some-merge_pick.job (tried g (goal.at.returns-else-merged g c).After-job-2-1) c.merge_job.new.room c.give_up.new.room c.merge_job.new.view c.merge_job.new.job (c.has_both.ensures.older c.if-has_both.true) (c.has_both.ensures.newer c.if-has_both.true)
    (subst (λ (r : Result Bool MergeFault). MergesJob c.merge_pick.new.self c.merge_job.new.room c.args.view.now c.merge_job.new.view (c.in-Some-merge_pick.job.older, c.in-Some-merge_pick.job.newer) c.merge_job.new.job r) (c.in-Ok.is ∙ ap (λ b. Ok b) c.if-merged.false) c.merge_job.ensures)
    (record { is = c.give_up.ensures.room; keeps = c.give_up.ensures.keeps; whole = c.give_up.ensures.whole })

pub returns-in-Err : goal.returns-in-Err
returns-in-Err g c =
    pair_refused c.args.from c.args.room.now c.merge_pick.new.self c.args.view.now c.in-Some-merge_pick.job (tried g (goal.at.returns-in-Err g c).After-job-2-1) c.merge_job.new.room c.give_up-in-Err.new.room c.merge_job.new.view c.merge_job.new.job c.in-Err.fault (c.has_both.ensures.older c.if-has_both.true) (c.has_both.ensures.newer c.if-has_both.true)
    (subst (λ (r : Result Bool MergeFault). MergesJob c.merge_pick.new.self c.merge_job.new.room c.args.view.now c.merge_job.new.view (c.in-Some-merge_pick.job.older, c.in-Some-merge_pick.job.newer) c.merge_job.new.job r) c.in-Err.is c.merge_job.ensures)
    (record { is = c.give_up-in-Err.ensures.room; keeps = c.give_up-in-Err.ensures.keeps; whole = c.give_up-in-Err.ensures.whole })

pub returns-else-has_both : goal.returns-else-has_both
returns-else-has_both g c =
    pair_lacked c.args.from c.args.room.now c.merge_pick.new.self c.args.view.now c.in-Some-merge_pick.job (tried g (goal.at.returns-else-has_both g c).After-job-2-1) c.give_up-else-has_both.new.room (c.has_both.ensures.none c.if-has_both.false)
    (record { is = c.give_up-else-has_both.ensures.room; keeps = c.give_up-else-has_both.ensures.keeps; whole = c.give_up-else-has_both.ensures.whole })
