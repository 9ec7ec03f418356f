use Rattle.std.proofs.Common.{Bool, Ok, Option, Result, ap, subst, ℕ, ◌∙◌}
use Rattle.fine_model.specs.declared.RunFault.{RunFault}
use Rattle.room_shelf.specs.Shelves.{shelf}
use Rattle.room_steps.specs.Merging.{MergesOne}
use Rattle.room_steps.specs.Steps.{IsNamed}
use Rattle.room_steps.proofs.Merges.{none_fitted, tidying_itself, tidying_on, tidy_failed}
use Rattle.room_steps.proofs.merging.merge_named.Goals as goal

pub loop-from-init : goal.loop-from-init
loop-from-init g c = tidying_itself (shelf c.args.room.now c.args.out.now) c.requires.shelf c.sealed-whole.ensures.whole c.requires.no_job

pub returns-then-not-merged : goal.returns-then-not-merged
returns-then-not-merged g c =
    none_fitted (shelf c.args.room.now c.args.out.now) (shelf c.loop-from.room c.loop-from.out) c.loop-from.invariant (shelf c.merge_one.new.room c.merge_one.new.out) c.in-Some.from
    (subst (λ (o : Option ℕ). IsNamed c.loop-from.room.room o) c.in-Some.is c.named.ensures)
    (subst (λ (r : Result Bool RunFault). MergesOne (shelf c.loop-from.room c.loop-from.out) (shelf c.merge_one.new.room c.merge_one.new.out) r) (c.in-Ok.is ∙ ap (λ b. Ok b) c.if-not-merged.true) c.merge_one.ensures)

pub loop-from-preserved : goal.loop-from-preserved
loop-from-preserved g c =
    tidying_on (shelf c.args.room.now c.args.out.now) (shelf c.loop-from.room c.loop-from.out) c.loop-from.invariant (shelf c.merge_one.new.room c.merge_one.new.out) c.in-Some.from
    (subst (λ (o : Option ℕ). IsNamed c.loop-from.room.room o) c.in-Some.is c.named.ensures)
    (subst (λ (r : Result Bool RunFault). MergesOne (shelf c.loop-from.room c.loop-from.out) (shelf c.merge_one.new.room c.merge_one.new.out) r) (c.in-Ok.is ∙ ap (λ b. Ok b) c.if-not-merged.false) c.merge_one.ensures)

pub returns-in-Err : goal.returns-in-Err
returns-in-Err g c =
    tidy_failed (shelf c.args.room.now c.args.out.now) (shelf c.loop-from.room c.loop-from.out) c.loop-from.invariant (shelf c.merge_one.new.room c.merge_one.new.out) c.in-Some.from c.in-Err.fault
    (subst (λ (o : Option ℕ). IsNamed c.loop-from.room.room o) c.in-Some.is c.named.ensures)
    (subst (λ (r : Result Bool RunFault). MergesOne (shelf c.loop-from.room c.loop-from.out) (shelf c.merge_one.new.room c.merge_one.new.out) r) c.in-Err.is c.merge_one.ensures)
