use Rattle.std.proofs.Common.{Bool, true, Ok, Result, sym, subst, ap, ◌∙◌}
use Rattle.std.specs.Prelude.{Contains}
use Rattle.fine_model.specs.declared.Job.{Job}
use Rattle.fine_model.specs.declared.Part.{Part}
use Rattle.fine_model.specs.declared.law.RoomState.{RoomState}
use Rattle.epoch_room.specs.declared.answers.RoomFault.{RoomFault}
use Rattle.room_merges.specs.Pairs.{SealsPart}
use Rattle.room_merges.specs.Work.{WritesAll}
use Rattle.room_merges.specs.declared.fault.MergeFault.{MergeFault}
use Rattle.room_merges.proofs.Pairing.{part_joined, part_refused, part_unsealed, part_unwritten, still_measured}
use Rattle.room_merges.proofs.Working.{posted_then}
use Rattle.room_merges.proofs.pair.write_part.Given.{Over}
use Rattle.room_merges.proofs.pair.write_part.Goals.{After-seal_part-arg-then-is_whole-1}
use Rattle.room_merges.proofs.pair.write_part.Goals as goal

-- the whole body is written
whole : (g : Over) (c : After-seal_part-arg-then-is_whole-1 g) → WritesAll c.args.header c.args.room.now c.write_body.new.room c.args.view.now c.write_body.new.view c.args.job.now c.write_body.new.job (Ok true)
whole g c = subst (λ (r : Result Bool MergeFault). WritesAll c.args.header c.args.room.now c.write_body.new.room c.args.view.now c.write_body.new.view c.args.job.now c.write_body.new.job r) (c.in-Ok.is ∙ ap (λ b. Ok b) c.if-is_whole.true) c.write_body.ensures

pub seal_part-requires-clause-out : goal.seal_part-requires-clause-out
seal_part-requires-clause-out g c κs within = ap (λ (r : RoomState). r.job) (whole g (goal.at.seal_part-requires-clause-out g c).After-seal_part-arg-then-is_whole-1).room.room

pub seal_part-requires-clause-open : goal.seal_part-requires-clause-open
seal_part-requires-clause-open g c κs within = ap (λ (r : RoomState). r.is_shut) (whole g (goal.at.seal_part-requires-clause-open g c).After-seal_part-arg-then-is_whole-1).room.room ∙ c.requires.ready.opened

pub seal_part-requires-clause-taken : goal.seal_part-requires-clause-taken
seal_part-requires-clause-taken g c κs within = ap (λ (j : Job). j.header) (whole g (goal.at.seal_part-requires-clause-taken g c).After-seal_part-arg-then-is_whole-1).same ∙ c.requires.ready.taken

pub seal_part-requires-clause-total : goal.seal_part-requires-clause-total
seal_part-requires-clause-total g c κs within = (whole g (goal.at.seal_part-requires-clause-total g c).After-seal_part-arg-then-is_whole-1).all.1

pub seal_part-requires-clause-older : goal.seal_part-requires-clause-older
seal_part-requires-clause-older g c κs within =
    let wrote = whole g (goal.at.seal_part-requires-clause-older g c).After-seal_part-arg-then-is_whole-1 in
    subst (λ ps. Contains ps c.write_body.new.job.older) (sym wrote.looks.same.parts) (subst (λ (p : Part). Contains c.args.view.now.parts p) (sym (ap (λ (j : Job). j.older) wrote.same)) c.requires.ready.older)

pub seal_part-requires-clause-newer : goal.seal_part-requires-clause-newer
seal_part-requires-clause-newer g c κs within =
    let wrote = whole g (goal.at.seal_part-requires-clause-newer g c).After-seal_part-arg-then-is_whole-1 in
    subst (λ ps. Contains ps c.write_body.new.job.newer) (sym wrote.looks.same.parts) (subst (λ (p : Part). Contains c.args.view.now.parts p) (sym (ap (λ (j : Job). j.newer) wrote.same)) c.requires.ready.newer)

pub seal_part-requires-clause-posted : goal.seal_part-requires-clause-posted
seal_part-requires-clause-posted g c κs within =
    let wrote = whole g (goal.at.seal_part-requires-clause-posted g c).After-seal_part-arg-then-is_whole-1 in
    posted_then c.args.room.now.room c.write_body.new.room.room c.args.view.now c.write_body.new.view (ap (λ (r : RoomState). r.board) wrote.room.room) wrote.looks.same c.requires.ready.posted

pub seal_part-requires-clause-region_len : goal.seal_part-requires-clause-region_len
seal_part-requires-clause-region_len g c κs within =
    let wrote = whole g (goal.at.seal_part-requires-clause-region_len g c).After-seal_part-arg-then-is_whole-1 in
    wrote.looks.same.region_len ∙ c.requires.ready.region_len ∙ sym wrote.room.keeps.becomes.region_len

pub seal_part-requires-clause-measured : goal.seal_part-requires-clause-measured
seal_part-requires-clause-measured g c κs within =
    let wrote = whole g (goal.at.seal_part-requires-clause-measured g c).After-seal_part-arg-then-is_whole-1 in
    still_measured c.args.header c.args.room.now c.write_body.new.room c.write_body.new.room c.args.view.now c.write_body.new.view c.args.job.now c.write_body.new.job wrote.looks.same wrote.same c.requires.ready.measured

pub seal_part-requires-clause-body : goal.seal_part-requires-clause-body
seal_part-requires-clause-body g c κs within = (whole g (goal.at.seal_part-requires-clause-body g c).After-seal_part-arg-then-is_whole-1).all.0

pub seal_part-requires-clause-joined : goal.seal_part-requires-clause-joined
seal_part-requires-clause-joined g c κs within = (whole g (goal.at.seal_part-requires-clause-joined g c).After-seal_part-arg-then-is_whole-1).all.2

pub returns-in-Ok-seal_part : goal.returns-in-Ok-seal_part
returns-in-Ok-seal_part g c =
    let wrote = whole g (goal.at.returns-in-Ok-seal_part g c).After-seal_part-arg-then-is_whole-1 in
    part_joined c.args.header c.args.room.now c.write_body.new.room c.seal_part.new.room c.args.view.now c.write_body.new.view c.args.job.now c.write_body.new.job tt c.counts-counts.ensures.whole wrote
    (subst (λ (r : Result (Unit {0}) RoomFault). SealsPart c.args.header c.write_body.new.room c.seal_part.new.room c.write_body.new.view c.write_body.new.job r) c.in-Ok-seal_part.is c.seal_part.ensures)

pub returns-in-Err-seal_part : goal.returns-in-Err-seal_part
returns-in-Err-seal_part g c =
    let wrote = whole g (goal.at.returns-in-Err-seal_part g c).After-seal_part-arg-then-is_whole-1 in
    part_unsealed c.args.header c.args.room.now c.write_body.new.room c.seal_part.new.room c.args.view.now c.write_body.new.view c.args.job.now c.write_body.new.job c.in-Err-seal_part.fault wrote
    (subst (λ (r : Result (Unit {0}) RoomFault). SealsPart c.args.header c.write_body.new.room c.seal_part.new.room c.write_body.new.view c.write_body.new.job r) c.in-Err-seal_part.is c.seal_part.ensures)

pub returns-else-is_whole : goal.returns-else-is_whole
returns-else-is_whole g c =
    part_unwritten c.args.header c.args.room.now c.write_body.new.room c.write_body.new.room c.args.view.now c.write_body.new.view c.args.job.now c.write_body.new.job
    (subst (λ (r : Result Bool MergeFault). WritesAll c.args.header c.args.room.now c.write_body.new.room c.args.view.now c.write_body.new.view c.args.job.now c.write_body.new.job r) (c.in-Ok.is ∙ ap (λ b. Ok b) c.if-is_whole.false) c.write_body.ensures)

pub returns-in-Err : goal.returns-in-Err
returns-in-Err g c =
    part_refused c.args.header c.args.room.now c.write_body.new.room c.write_body.new.room c.args.view.now c.write_body.new.view c.args.job.now c.write_body.new.job c.in-Err.fault
    (subst (λ (r : Result Bool MergeFault). WritesAll c.args.header c.args.room.now c.write_body.new.room c.args.view.now c.write_body.new.view c.args.job.now c.write_body.new.job r) c.in-Err.is c.write_body.ensures)
