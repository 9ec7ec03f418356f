-- Merging as long as neighbours fit.
use Rattle.std.proofs.Common.{Bool, Ok, Result, ap, subst, ◌∙◌}
use Rattle.fine_model.specs.declared.RunFault.{RunFault}
use Rattle.log_commands.specs.Merged.{MergesOnce}
use Rattle.log_commands.proofs.Merges.{merging_failed, merging_itself, merging_on, none_fitted}
use Rattle.log_commands.proofs.merged.merge_all.Goals as goal

pub loop-merged-init : goal.loop-merged-init
loop-merged-init g c = merging_itself c.args.room.now c.sealed-whole.ensures.whole c.requires.no_job c.requires.board c.requires.opened

pub returns-then-not-merged : goal.returns-then-not-merged
returns-then-not-merged g c =
    none_fitted c.args.room.now c.loop-merged.room c.merge_once.new.room c.loop-merged.invariant
    (subst (λ (r : Result Bool RunFault). MergesOnce c.loop-merged.room c.merge_once.new.room r) (c.in-Ok.is ∙ ap (λ b. Ok b) c.if-not-merged.true) c.merge_once.ensures)

pub loop-merged-preserved : goal.loop-merged-preserved
loop-merged-preserved g c =
    merging_on c.args.room.now c.loop-merged.room c.merge_once.new.room c.loop-merged.invariant
    (subst (λ (r : Result Bool RunFault). MergesOnce c.loop-merged.room c.merge_once.new.room r) (c.in-Ok.is ∙ ap (λ b. Ok b) c.if-not-merged.false) c.merge_once.ensures)

pub returns-in-Err : goal.returns-in-Err
returns-in-Err g c =
    merging_failed c.args.room.now c.loop-merged.room c.merge_once.new.room c.loop-merged.invariant c.in-Err.fault
    (subst (λ (r : Result Bool RunFault). MergesOnce c.loop-merged.room c.merge_once.new.room r) c.in-Err.is c.merge_once.ensures)
