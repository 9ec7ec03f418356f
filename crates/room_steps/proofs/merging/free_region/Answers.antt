use Rattle.std.proofs.Common.{Bool, Ok, Result, ap, arith, subst, sym, ◌∙◌}
use Rattle.std.specs.Prelude.{nat_le}
use Rattle.fine_model.specs.declared.RunFault.{RunFault}
use Rattle.epoch_room.specs.declared.answers.Counts.{Counts}
use Rattle.room_shelf.specs.Shelves.{shelf}
use Rattle.room_steps.specs.Merging.{MergesOne}
use Rattle.room_steps.proofs.Merges.{counts_free, free_failed, freed, merging_itself, merging_on, none_freed}
use Rattle.room_steps.proofs.merging.free_region.Goals as goal

pub loop-alloc-init : goal.loop-alloc-init
loop-alloc-init g c = merging_itself (shelf c.args.room.now c.args.out.now) c.requires.shelf c.sealed-whole.ensures.whole c.requires.no_job

pub loop-alloc-preserved : goal.loop-alloc-preserved
loop-alloc-preserved g c =
    merging_on (shelf c.args.room.now c.args.out.now) (shelf c.loop-alloc.room c.loop-alloc.out) (shelf c.merge_one.new.room c.merge_one.new.out) c.loop-alloc.invariant
    (subst (λ (r : Result Bool RunFault). MergesOne (shelf c.loop-alloc.room c.loop-alloc.out) (shelf c.merge_one.new.room c.merge_one.new.out) r) (c.in-Ok.is ∙ ap (λ b. Ok b) c.if-not-merged.false) c.merge_one.ensures)

pub returns-then-not-merged : goal.returns-then-not-merged
returns-then-not-merged g c =
    none_freed (shelf c.args.room.now c.args.out.now) (shelf c.loop-alloc.room c.loop-alloc.out) c.loop-alloc.invariant (shelf c.merge_one.new.room c.merge_one.new.out) (nat_le 2 c.counts-then-not-merged.result.free)
    (ap (nat_le 2) (sym (ap (λ (n : Counts). n.free) c.counts-then-not-merged.ensures.counts ∙ counts_free c.merge_one.new.room.room)))
    (subst (λ (r : Result Bool RunFault). MergesOne (shelf c.loop-alloc.room c.loop-alloc.out) (shelf c.merge_one.new.room c.merge_one.new.out) r) (c.in-Ok.is ∙ ap (λ b. Ok b) c.if-not-merged.true) c.merge_one.ensures)

pub returns-in-Err : goal.returns-in-Err
returns-in-Err g c =
    free_failed (shelf c.args.room.now c.args.out.now) (shelf c.loop-alloc.room c.loop-alloc.out) c.loop-alloc.invariant (shelf c.merge_one.new.room c.merge_one.new.out) c.in-Err.fault
    (subst (λ (r : Result Bool RunFault). MergesOne (shelf c.loop-alloc.room c.loop-alloc.out) (shelf c.merge_one.new.room c.merge_one.new.out) r) c.in-Err.is c.merge_one.ensures)

pub returns : goal.returns
returns g c =
    freed (shelf c.args.room.now c.args.out.now) (shelf c.loop-alloc.room c.loop-alloc.out) c.loop-alloc.invariant c.requires.opened
    (let h = c.loop-alloc-test.false in let e = ap (λ (n : Counts). n.free) c.counts.ensures.counts ∙ counts_free c.loop-alloc.room.room in omega (arith, h, e))
