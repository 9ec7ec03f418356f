use Rattle.std.proofs.Common.{◌≡◌, ◌++◌, Result, length, take, ap, ◌∙◌}
use Rattle.std.proofs.lemmas.List.{take-append-drop}
use Rattle.std.proofs.lemmas.Result.{err_from_is_err_and}
use Rattle.fine_model.specs.Chain.{regions_of}
use Rattle.log_disk.specs.declared.refusal.DiskRefusal.{DiskRefusal}
use Rattle.epoch_room.specs.BodyWrites.{WritesBody, lying_in}
use Rattle.epoch_room.proofs.Merges.LongBodies.{body_among_all, front_within, lying_among, place_now, written_more, written_none, written_refused}
use Rattle.epoch_room.proofs.row_writes.write_long.Given.{Over}
use Rattle.epoch_room.proofs.row_writes.write_long.Goals.{After-write_body}
use Rattle.epoch_room.proofs.row_writes.write_long.Goals as goal

-- the next bytes and those behind them are all that are left
split : (g : Over) (c : After-write_body g) → c.split_at.result.0.now ++ c.split_at.result.1.now ≡ c.loop-left.left.now
split g c = ap (λ xs. xs ++ c.split_at.result.1.now) c.split_at.ensures.front ∙ ap (λ xs. take c.min.result c.loop-left.left.now ++ xs) c.split_at.ensures.back ∙ take-append-drop c.min.result c.loop-left.left.now

-- they were written among the regions of the part
among : (g : Over) (c : After-write_body g) {result : Result (Unit {0}) DiskRefusal} → WritesBody (lying_in (g.D.LogDisk.state c.loop-left.disk).region_len c.args.part.now.region c.args.part.now.header c.loop-left.next (length c.split_at.result.0.now)) c.args.part.now c.loop-left.next c.split_at.result.0.now result (g.D.LogDisk.state c.loop-left.disk) (g.D.LogDisk.state c.write_body.new.disk) → WritesBody (regions_of c.args.part.now) c.args.part.now c.loop-left.next c.split_at.result.0.now result (g.D.LogDisk.state c.loop-left.disk) (g.D.LogDisk.state c.write_body.new.disk)
among g c =
    let place = place_now c.args.part.now c.args.at c.args.bytes.now (g.D.LogDisk.state c.args.disk.now) (g.D.LogDisk.state c.loop-left.disk) c.requires.place c.requires.within c.loop-left.next c.loop-left.left.now c.loop-left.invariant in
    let within = front_within c.args.part.now c.args.at c.args.bytes.now (g.D.LogDisk.state c.args.disk.now) (g.D.LogDisk.state c.loop-left.disk) c.requires.place c.requires.within c.loop-left.next c.loop-left.left.now c.loop-left.invariant c.split_at.result.0.now c.split_at.result.1.now (split g c) (g.D.LogDisk.state c.write_body.new.disk) in
    body_among_all (lying_in (g.D.LogDisk.state c.loop-left.disk).region_len c.args.part.now.region c.args.part.now.header c.loop-left.next (length c.split_at.result.0.now)) (regions_of c.args.part.now) (lying_among (g.D.LogDisk.state c.loop-left.disk) c.args.part.now c.loop-left.next (length c.split_at.result.0.now) place within) c.args.part.now c.loop-left.next c.split_at.result.0.now (g.D.LogDisk.state c.loop-left.disk) (g.D.LogDisk.state c.write_body.new.disk)

pub loop-left-init : goal.loop-left-init
loop-left-init g c = written_none c.args.part.now c.args.at c.args.bytes.now (g.D.LogDisk.state c.args.disk.now) c.requires.place.sound

pub write_body-requires-clause-place : goal.write_body-requires-clause-place
write_body-requires-clause-place g c κs within =
    place_now c.args.part.now c.args.at c.args.bytes.now (g.D.LogDisk.state c.args.disk.now) (g.D.LogDisk.state c.loop-left.disk) c.requires.place c.requires.within c.loop-left.next c.loop-left.left.now c.loop-left.invariant

pub returns-in_err-write_body : goal.returns-in_err-write_body
returns-in_err-write_body g c =
    let at = (goal.at.returns-in_err-write_body g c).After-write_body in
    let p = err_from_is_err_and c.from_residual.result c.from_residual.ensures.1 in
    rw (p.1, p.2) (written_refused c.args.part.now c.args.at c.args.bytes.now (g.D.LogDisk.state c.args.disk.now) (g.D.LogDisk.state c.loop-left.disk) c.requires.place c.requires.within c.loop-left.next c.loop-left.left.now c.loop-left.invariant c.split_at.result.0.now c.split_at.result.1.now (split g at) (g.D.LogDisk.state c.write_body.new.disk) c.in_err-write_body.field-0.0 (among g at c.in_err-write_body.ensures))

pub loop-left-preserved : goal.loop-left-preserved
loop-left-preserved g c =
    let at = (goal.at.loop-left-preserved g c).After-write_body in
    written_more c.args.part.now c.args.at c.args.bytes.now (g.D.LogDisk.state c.args.disk.now) (g.D.LogDisk.state c.loop-left.disk) c.requires.place c.requires.within c.loop-left.next c.loop-left.left.now c.loop-left.invariant c.split_at.result.0.now c.split_at.result.1.now (split g at) (g.D.LogDisk.state c.write_body.new.disk) (among g at c.in_ok-write_body.ensures)
