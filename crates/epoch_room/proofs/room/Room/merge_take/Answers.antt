use Rattle.std.proofs.Common.{◌≡◌, None, Some, sym, subst, ap, ◌∙◌, arith}
use Rattle.std.specs.Prelude.{if◌then◌else◌}
use Rattle.epoch_room.specs.Meaning.{Keeps}
use Rattle.epoch_room.specs.MergeSteps.{if_enough, measured_len, regions_for_job, regions_needed, with_job}
use Rattle.epoch_room.specs.Value.{RoomValue}
use Rattle.epoch_room.specs.Whole.{IsWhole}
use Rattle.epoch_room.proofs.OpenEpochs.Behind.{keeps_none}
use Rattle.epoch_room.proofs.Merges.Picking.{taken_whole}
use Rattle.epoch_room.proofs.Spare.{spare_keeps}
use Rattle.epoch_room.proofs.Inside.{room_in}
use Rattle.epoch_room.proofs.room.Room.merge_take.Goals as goal

pub returns-in_default-clause-keeps : goal.returns-in_default-clause-keeps
returns-in_default-clause-keeps g c = keeps_none c.args.self.now (subst IsWhole c.self.view_is c.self.invariant.0)

pub invariant_of-self : goal.invariant_of-self
invariant_of-self g c =
    let room = room_in g.D.LogDisk.state c.self.inside in
    let out : c.self.inside.job ≡ Some c.args.job.now = ap (λ (v : RoomValue). v.room.job) c.self.view_is ∙ c.requires.out in
    let found : regions_for_job room.room c.args.measure ≡ Some c.in-Some.regions =
    sym (λ i. if c.args.measure.ordered then if_enough (c.len.ensures.count i) (regions_needed (c.region_len.ensures.region_len i) (measured_len c.args.measure)) else None) ∙ sym c.regions_for.ensures ∙ c.in-Some.is in
    let whole = taken_whole room c.self.invariant.0 c.args.job.now c.args.measure out c.requires.untaken c.requires.counted (omega (arith, c.wide-rows.ensures.few)) c.in-Some.regions found in (
      subst IsWhole (sym (λ i. with_job room (Some (c.take_regions.ensures.job i)) (c.take_regions.ensures.free i))) whole,
      c.self.invariant.1,
      c.self.invariant.2,
    )

pub returns-clause-keeps : goal.returns-clause-keeps
returns-clause-keeps g c =
    let room = room_in g.D.LogDisk.state c.self.inside in
    subst (λ (v : RoomValue). Keeps v (with_job room (Some c.take_regions.new.job) c.take_regions.new.free)) c.self.view_is (spare_keeps room c.self.invariant.0 (Some c.take_regions.new.job) c.take_regions.new.free)
