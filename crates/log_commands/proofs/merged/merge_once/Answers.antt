-- What one merge leaves, and its fault.
use Rattle.std.proofs.Common.{Bool, Err, Result, subst, sym}
use Rattle.room_merges.specs.declared.fault.MergeFault.{MergeFault}
use Rattle.room_merges.specs.Near.{MergesNear}
use Rattle.log_commands.specs.Merged.{MergesOnce}
use Rattle.log_commands.proofs.Merges.{fault_once, merged_once}
use Rattle.log_commands.proofs.merged.merge_once.Goals as goal

pub returns-in-Ok : goal.returns-in-Ok
returns-in-Ok g c =
    merged_once c.args.room.now c.merge_now-merged.new.room c.requires.opened c.requires.board c.sealed-whole.ensures.whole c.sealed-merged.ensures.whole c.in-Ok.merged
    (subst (λ (r : Result Bool MergeFault). MergesNear 1 c.args.room.now c.merge_now-merged.new.room r) c.in-Ok.is c.merge_now-merged.ensures)

pub returns-in-Err : goal.returns-in-Err
returns-in-Err g c =
    subst (λ f. MergesOnce c.args.room.now c.merge_now-merged.new.room (Err f)) (sym c.of_merge.ensures)
    (fault_once c.args.room.now c.merge_now-merged.new.room c.requires.opened c.requires.board c.sealed-whole.ensures.whole c.sealed-merged.ensures.whole c.in-Err.fault
    (subst (λ (r : Result Bool MergeFault). MergesNear 1 c.args.room.now c.merge_now-merged.new.room r) c.in-Err.is c.merge_now-merged.ensures))
