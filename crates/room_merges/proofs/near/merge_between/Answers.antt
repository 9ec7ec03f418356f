use Rattle.std.proofs.Common.{Bool, List, Ok, Result, sym, subst, ap, ◌∙◌, arith}
use Rattle.std.specs.Prelude.{option_map}
use Rattle.fine_model.specs.declared.Part.{Part}
use Rattle.fine_model.specs.declared.law.RoomState.{RoomState}
use Rattle.epoch_room.specs.MergeSteps.{neighbours_from}
use Rattle.room_merges.specs.Pairs.{MergesPair}
use Rattle.room_merges.specs.declared.fault.MergeFault.{MergeFault}
use Rattle.room_merges.proofs.Nearing.{more_tried, none_left, none_more, none_tried, one_merged, tried_less, try_refused}
use Rattle.room_merges.proofs.Working.{posted_then}
use Rattle.room_merges.proofs.near.merge_between.Goals as goal

pub loop-at-init : goal.loop-at-init
loop-at-init g c = none_tried c.args.from c.args.room.now c.args.view.now c.counts-counts.ensures.whole c.requires.may.idle.no_job

pub merge_pair-requires-clause-idle : goal.merge_pair-requires-clause-idle
merge_pair-requires-clause-idle g c κs within = record {
  no_job = ap (λ (r : RoomState). r.job) c.loop-at.invariant.room.room;
  posted = posted_then c.args.room.now.room c.loop-at.room.room c.args.view.now c.loop-at.view (ap (λ (r : RoomState). r.board) c.loop-at.invariant.room.room) c.loop-at.invariant.unmoved c.requires.may.idle.posted;
  region_len = c.loop-at.invariant.unmoved.region_len ∙ c.requires.may.idle.region_len ∙ sym c.loop-at.invariant.room.keeps.becomes.region_len;
}

pub returns-in_default : goal.returns-in_default
returns-in_default g c =
    none_left c.args.from c.loop-at.at c.args.room.now c.loop-at.room c.args.view.now c.loop-at.view c.counts-counts.ensures.whole c.requires.may.opened c.requires.may.parts c.loop-at.invariant c.args.until
    (sym c.in_default.is ∙ c.epoch_behind.ensures ∙ ap (λ (ps : List Part). option_map (λ (two : Part × Part). two.1.header.range.first) (neighbours_from c.loop-at.at ps)) (c.as_slice.ensures ∙ c.parts.ensures))

pub returns-then-merged : goal.returns-then-merged
returns-then-merged g c =
    one_merged c.args.from c.loop-at.at c.args.room.now c.loop-at.room c.args.view.now c.loop-at.view c.counts-counts.ensures.whole c.requires.may.opened c.requires.may.parts c.loop-at.invariant c.args.until c.merge_pair.new.room c.merge_pair.new.view c.loop-at-test.true
    (subst (λ (r : Result Bool MergeFault). MergesPair c.loop-at.at c.loop-at.room c.merge_pair.new.room c.loop-at.view c.merge_pair.new.view r) (c.in-Ok.is ∙ ap (λ b. Ok b) c.if-merged.true) c.merge_pair.ensures)

pub returns-in-Err : goal.returns-in-Err
returns-in-Err g c =
    try_refused c.args.from c.loop-at.at c.args.room.now c.loop-at.room c.args.view.now c.loop-at.view c.counts-counts.ensures.whole c.requires.may.opened c.requires.may.parts c.loop-at.invariant c.args.until c.merge_pair.new.room c.merge_pair.new.view c.in-Err.fault c.loop-at-test.true
    (subst (λ (r : Result Bool MergeFault). MergesPair c.loop-at.at c.loop-at.room c.merge_pair.new.room c.loop-at.view c.merge_pair.new.view r) c.in-Err.is c.merge_pair.ensures)

pub loop-at-preserved : goal.loop-at-preserved
loop-at-preserved g c =
    more_tried c.args.from c.loop-at.at c.args.room.now c.loop-at.room c.args.view.now c.loop-at.view c.counts-counts.ensures.whole c.requires.may.opened c.requires.may.parts c.loop-at.invariant c.merge_pair.new.room c.merge_pair.new.view c.in-Some.next
    (sym c.in-Some.is ∙ c.epoch_behind.ensures ∙ ap (λ (ps : List Part). option_map (λ (two : Part × Part). two.1.header.range.first) (neighbours_from c.loop-at.at ps)) (c.as_slice.ensures ∙ c.parts.ensures))
    (subst (λ (r : Result Bool MergeFault). MergesPair c.loop-at.at c.loop-at.room c.merge_pair.new.room c.loop-at.view c.merge_pair.new.view r) (c.in-Ok.is ∙ ap (λ b. Ok b) c.if-merged.false) c.merge_pair.ensures)

pub loop-at-smaller : goal.loop-at-smaller
loop-at-smaller g c =
    let less =
    tried_less c.args.from c.loop-at.at c.args.room.now c.loop-at.room c.args.view.now c.loop-at.view c.counts-counts.ensures.whole c.requires.may.opened c.requires.may.parts c.loop-at.invariant c.in-Some.next
    (sym c.in-Some.is ∙ c.epoch_behind.ensures ∙ ap (λ (ps : List Part). option_map (λ (two : Part × Part). two.1.header.range.first) (neighbours_from c.loop-at.at ps)) (c.as_slice.ensures ∙ c.parts.ensures)) in
    let test = c.loop-at-test.true in
    omega (arith, less, test)

pub returns : goal.returns
returns g c = none_more c.args.from c.loop-at.at c.args.room.now c.loop-at.room c.args.view.now c.loop-at.view c.counts-counts.ensures.whole c.requires.may.opened c.requires.may.parts c.loop-at.invariant c.args.until c.loop-at-test.false
