use Rattle.std.proofs.Common.{Result, refl, sym, subst, arith}
use Rattle.std.specs.Prelude.{IsErr}
use Rattle.epoch_room.specs.MergeSteps.{WritesOr}
use Rattle.epoch_room.specs.declared.answers.RoomFault.{RoomFault}
use Rattle.room_merges.proofs.Working.{block_refused, block_too_long, block_written, some_of}
use Rattle.room_merges.proofs.body.write_block.Goals as goal

pub returns-then-from-block : goal.returns-then-from-block
returns-then-from-block g c =
    let over = c.if-from-block.true in
    let from = c.from.ensures in
    let len = c.body_len.ensures in
    block_too_long c.args.header c.args.block.now c.args.room.now c.args.job.now c.counts-counts.ensures.whole c.requires.out (omega (arith, over, from, len))

pub returns-in-Ok : goal.returns-in-Ok
returns-in-Ok g c =
    let fits = c.if-from-block.false in
    let from = c.from.ensures in
    let len = c.body_len.ensures in
    block_written c.args.header c.args.block.now c.args.room.now c.merge_write.new.self c.args.job.now c.merge_write.new.job tt (omega (arith, fits, from, len)) c.merge_write.ensures.keeps
    (subst (λ (r : Result (Unit {0}) RoomFault). WritesOr c.args.block.now c.args.room.now c.merge_write.new.self c.args.job.now c.merge_write.new.job c.args.header r) c.in-Ok.is
    (some_of c.args.job.now.header c.args.header (λ header. WritesOr c.args.block.now c.args.room.now c.merge_write.new.self c.args.job.now c.merge_write.new.job header c.merge_write.result) c.requires.taken c.merge_write.ensures.room))

pub returns-in-Err : goal.returns-in-Err
returns-in-Err g c =
    block_refused c.args.header c.args.block.now c.args.room.now c.merge_write.new.self c.args.job.now c.merge_write.new.job c.in-Err.fault c.requires.out c.requires.open c.requires.taken
    (c.merge_write.ensures.some c.requires.open (subst (λ (r : Result (Unit {0}) RoomFault). IsErr r) (sym c.in-Err.is) refl)) c.merge_write.ensures.keeps
    (subst (λ (r : Result (Unit {0}) RoomFault). WritesOr c.args.block.now c.args.room.now c.merge_write.new.self c.args.job.now c.merge_write.new.job c.args.header r) c.in-Err.is
    (some_of c.args.job.now.header c.args.header (λ header. WritesOr c.args.block.now c.args.room.now c.merge_write.new.self c.args.job.now c.merge_write.new.job header c.merge_write.result) c.requires.taken c.merge_write.ensures.room))
