use Rattle.std.proofs.Common.{Ok, Result, sym, subst, ap, ◌∙◌, arith}
use Rattle.std.specs.Prelude.{Contains}
use Rattle.fine_model.specs.declared.Job.{Job}
use Rattle.fine_model.specs.declared.Part.{Part}
use Rattle.fine_model.specs.declared.law.RoomState.{RoomState}
use Rattle.room_merges.specs.Work.{WritesNext}
use Rattle.room_merges.specs.declared.body.Progress.{Progress}
use Rattle.room_merges.specs.declared.body.Progress.TheVariants as progress
use Rattle.room_merges.specs.declared.fault.MergeFault.{MergeFault}
use Rattle.room_merges.proofs.Working.{all_written, more_written, none_written, not_written, too_long}
use Rattle.room_merges.proofs.body.write_blocks.Given.{Over}
use Rattle.room_merges.proofs.body.write_blocks.Goals.{In-Written}
use Rattle.room_merges.proofs.body.write_blocks.Goals as goal

-- a block more is written
more : (g : Over) (c : In-Written g) → WritesNext c.args.header c.loop-progress.room c.write_next.new.room c.loop-progress.view c.write_next.new.view c.write_next.new.blocks c.loop-progress.job c.write_next.new.job (Ok progress.Written)
more g c = subst (λ (r : Result Progress MergeFault). WritesNext c.args.header c.loop-progress.room c.write_next.new.room c.loop-progress.view c.write_next.new.view c.write_next.new.blocks c.loop-progress.job c.write_next.new.job r) (c.in-Ok.is ∙ ap (λ p. Ok p) c.in-Written.is) c.write_next.ensures

pub loop-progress-init : goal.loop-progress-init
loop-progress-init g c = none_written c.args.header c.args.room.now c.args.view.now c.args.blocks c.args.job.now c.counts-counts.ensures.whole c.requires.begun.out c.requires.begun.within c.requires.begun.writing

pub write_next-requires-clause-out : goal.write_next-requires-clause-out
write_next-requires-clause-out g c κs within = ap (λ (r : RoomState). r.job) c.loop-progress.invariant.room.room

pub write_next-requires-clause-open : goal.write_next-requires-clause-open
write_next-requires-clause-open g c κs within = ap (λ (r : RoomState). r.is_shut) c.loop-progress.invariant.room.room ∙ c.requires.begun.opened

pub write_next-requires-clause-taken : goal.write_next-requires-clause-taken
write_next-requires-clause-taken g c κs within = ap (λ (j : Job). j.header) c.loop-progress.invariant.same ∙ c.requires.begun.taken

pub write_next-requires-clause-older : goal.write_next-requires-clause-older
write_next-requires-clause-older g c κs within =
    subst (λ ps. Contains ps c.loop-progress.job.older) (sym c.loop-progress.invariant.unmoved.parts) (subst (λ (p : Part). Contains c.args.view.now.parts p) (sym (ap (λ (j : Job). j.older) c.loop-progress.invariant.same)) c.requires.begun.older)

pub write_next-requires-clause-newer : goal.write_next-requires-clause-newer
write_next-requires-clause-newer g c κs within =
    subst (λ ps. Contains ps c.loop-progress.job.newer) (sym c.loop-progress.invariant.unmoved.parts) (subst (λ (p : Part). Contains c.args.view.now.parts p) (sym (ap (λ (j : Job). j.newer) c.loop-progress.invariant.same)) c.requires.begun.newer)

pub write_next-requires-clause-writing : goal.write_next-requires-clause-writing
write_next-requires-clause-writing g c κs within = c.loop-progress.invariant.writing

pub loop-progress-preserved : goal.loop-progress-preserved
loop-progress-preserved g c =
    more_written c.args.header c.args.room.now c.loop-progress.room c.write_next.new.room c.args.view.now c.loop-progress.view c.write_next.new.view c.loop-progress.blocks c.write_next.new.blocks c.args.job.now c.loop-progress.job c.write_next.new.job c.loop-progress.invariant (more g (goal.at.loop-progress-preserved g c).In-Written)

pub loop-progress-smaller : goal.loop-progress-smaller
loop-progress-smaller g c =
    let next = more g (goal.at.loop-progress-smaller g c).In-Written in
    let grown = next.next.0 in
    let within = next.next.1 in
    omega (arith, grown, within)

pub returns-in-Ended : goal.returns-in-Ended
returns-in-Ended g c =
    all_written c.args.header c.args.room.now c.loop-progress.room c.write_next.new.room c.args.view.now c.loop-progress.view c.write_next.new.view c.loop-progress.blocks c.write_next.new.blocks c.args.job.now c.loop-progress.job c.write_next.new.job
    c.is_whole.result c.is_whole.ensures.whole c.is_whole.ensures.less c.loop-progress.invariant
    (subst (λ (r : Result Progress MergeFault). WritesNext c.args.header c.loop-progress.room c.write_next.new.room c.loop-progress.view c.write_next.new.view c.write_next.new.blocks c.loop-progress.job c.write_next.new.job r) (c.in-Ok.is ∙ ap (λ p. Ok p) c.in-Ended.is) c.write_next.ensures)

pub returns-in-TooLong : goal.returns-in-TooLong
returns-in-TooLong g c =
    too_long c.args.header c.args.room.now c.loop-progress.room c.write_next.new.room c.args.view.now c.loop-progress.view c.write_next.new.view c.loop-progress.blocks c.write_next.new.blocks c.args.job.now c.loop-progress.job c.write_next.new.job c.loop-progress.invariant
    (subst (λ (r : Result Progress MergeFault). WritesNext c.args.header c.loop-progress.room c.write_next.new.room c.loop-progress.view c.write_next.new.view c.write_next.new.blocks c.loop-progress.job c.write_next.new.job r) (c.in-Ok.is ∙ ap (λ p. Ok p) c.in-TooLong.is) c.write_next.ensures)

pub returns-in-Err : goal.returns-in-Err
returns-in-Err g c =
    not_written c.args.header c.args.room.now c.loop-progress.room c.write_next.new.room c.args.view.now c.loop-progress.view c.write_next.new.view c.loop-progress.blocks c.write_next.new.blocks c.args.job.now c.loop-progress.job c.write_next.new.job c.in-Err.fault c.loop-progress.invariant
    (subst (λ (r : Result Progress MergeFault). WritesNext c.args.header c.loop-progress.room c.write_next.new.room c.loop-progress.view c.write_next.new.view c.write_next.new.blocks c.loop-progress.job c.write_next.new.job r) c.in-Err.is c.write_next.ensures)
