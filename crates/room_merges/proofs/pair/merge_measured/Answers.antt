use Rattle.std.proofs.Common.{sym, ◌∙◌}
use Rattle.epoch_room.specs.MergeSteps.{regions_for_job}
use Rattle.room_merges.proofs.Pairing.{Ready, found_none, has_header, measured_part, none_taken, ready}
use Rattle.room_merges.proofs.pair.merge_measured.Given.{Over}
use Rattle.room_merges.proofs.pair.merge_measured.Goals.{After-write_part-arg-3-1}
use Rattle.room_merges.proofs.pair.merge_measured.Goals as goal

pub returns-then-not-merge_take : goal.returns-then-not-merge_take
returns-then-not-merge_take g c =
    none_taken c.args.room.now c.merge_take.new.self c.args.view.now c.args.job.now c.merge_take.new.job c.args.measure c.counts-counts.ensures.whole c.requires.fresh.out c.requires.measured
    (found_none (regions_for_job c.args.room.now.room c.args.measure) (sym c.if-not-merge_take.true ∙ c.merge_take.ensures.taken)) c.merge_take.ensures.job c.merge_take.ensures.room

-- once regions were taken for the job
regions_taken : (g : Over) (c : After-write_part-arg-3-1 g) → Ready c.in-Some.header c.args.room.now c.merge_take.new.self c.args.view.now c.args.job.now c.merge_take.new.job c.args.measure
regions_taken g c =
    ready c.args.room.now c.merge_take.new.self c.args.view.now c.args.job.now c.merge_take.new.job c.in-Some.header c.args.measure (sym c.if-not-merge_take.false ∙ c.merge_take.ensures.taken) c.merge_take.ensures.job c.merge_take.ensures.room
    c.in-Some.is c.requires.fresh.opened c.requires.fresh.is c.requires.fresh.older c.requires.fresh.newer c.requires.fresh.posted c.requires.fresh.region_len c.requires.measured

pub unreachable-requires : goal.unreachable-requires
unreachable-requires g c =
    has_header c.args.job.now c.merge_take.new.job c.args.measure c.args.room.now.room.free (regions_for_job c.args.room.now.room c.args.measure) (sym c.if-not-merge_take.false ∙ c.merge_take.ensures.taken) c.merge_take.ensures.job c.in_default.is

pub write_part-requires-clause-ready : goal.write_part-requires-clause-ready
write_part-requires-clause-ready g c κs within = (regions_taken g (goal.at.write_part-requires-clause-ready g c).After-write_part-arg-3-1).is

pub returns : goal.returns
returns g c =
    let r = regions_taken g (goal.at.returns g c).After-write_part-arg-3-1 in
    measured_part c.args.room.now c.merge_take.new.self c.write_part.new.room c.args.view.now c.write_part.new.view c.args.job.now c.merge_take.new.job c.write_part.new.job c.in-Some.header c.args.measure r.regions c.write_part.result
    c.counts-counts.ensures.whole c.merge_take.ensures.keeps c.requires.measured c.requires.fresh.is r.found c.merge_take.ensures.job c.merge_take.ensures.room c.in-Some.is c.write_part.ensures
