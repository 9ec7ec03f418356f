use Rattle.std.proofs.Common.{Bool, Result, ap, subst}
use Rattle.room_merges.specs.Near.{MergesNear}
use Rattle.room_merges.specs.declared.fault.MergeFault.{MergeFault}
use Rattle.room_shelf.specs.Shelves.{shelf}
use Rattle.room_steps.proofs.Facts.{rested}
use Rattle.room_steps.proofs.Merges.{merge_failed, merged_one}
use Rattle.room_steps.proofs.merging.merge_one.Goals as goal

pub returns-in-Ok : goal.returns-in-Ok
returns-in-Ok g c =
    let old = shelf c.args.room.now c.args.out.now in
    let mid = shelf c.take_view.new.room c.take_view.new.out in
    merged_one old mid (shelf c.merge_near-merged.new.room c.take_view.new.out) (rested old mid c.take_view.ensures c.requires.shelf c.requires.no_job c.sealed-rested.ensures.whole) c.take_view.ensures.none
    c.sealed-merged.ensures.whole c.args.from c.in-Ok.merged
    (subst (λ (r : Result Bool MergeFault). MergesNear c.args.from c.take_view.new.room c.merge_near-merged.new.room r) c.in-Ok.is c.merge_near-merged.ensures)

pub returns-in-Err : goal.returns-in-Err
returns-in-Err g c =
    let old = shelf c.args.room.now c.args.out.now in
    let mid = shelf c.take_view.new.room c.take_view.new.out in
    merge_failed old mid (shelf c.merge_near-merged.new.room c.take_view.new.out) (rested old mid c.take_view.ensures c.requires.shelf c.requires.no_job c.sealed-rested.ensures.whole) c.take_view.ensures.none c.sealed-merged.ensures.whole c.args.from c.in-Err.fault _ _
    c.of_merge.ensures c.in-Err.is c.merge_near-merged.ensures (λ e. ap (λ v. shelf v c.take_view.new.out) e)
