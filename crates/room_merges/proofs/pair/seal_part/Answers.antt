use Rattle.std.proofs.Common.{Result, sym, subst}
use Rattle.std.specs.Prelude.{IfSome, Option}
use Rattle.fine_model.specs.declared.Header.{Header}
use Rattle.fine_model.specs.declared.Job.{Job}
use Rattle.epoch_room.specs.MergeSealing.{IsWrittenOut, SealsJobOr}
use Rattle.epoch_room.specs.declared.answers.RoomFault.{RoomFault}
use Rattle.room_merges.proofs.Pairing.{seal_refused, seals, written_out}
use Rattle.room_merges.proofs.Working.{some_of}
use Rattle.room_merges.proofs.pair.seal_part.Goals as goal

pub merge_seal-requires-clause-written : goal.merge_seal-requires-clause-written
merge_seal-requires-clause-written g c κs within =
    subst (λ (o : Option Header). IfSome o (IsWrittenOut c.args.room.now.room c.args.job)) (sym c.requires.taken)
    (written_out c.args.room.now c.args.view.now c.args.job c.args.header (record { whole = c.counts-counts.ensures.whole; is_view = c.parts-parts.ensures.whole; posted = c.requires.posted; region_len = c.requires.region_len })
    c.requires.older c.requires.newer c.requires.measured c.requires.body)

pub returns-in-Ok : goal.returns-in-Ok
returns-in-Ok g c =
    seals c.args.header c.args.room.now c.merge_seal.new.self c.args.view.now c.args.job tt c.requires.taken c.requires.total c.merge_seal.ensures.keeps c.requires.body c.requires.joined
    (subst (λ (r : Result (Unit {0}) (RoomFault × Job)). SealsJobOr c.args.room.now c.merge_seal.new.self c.args.job c.args.header r) c.in-Ok.is
    (some_of c.args.job.header c.args.header (λ header. SealsJobOr c.args.room.now c.merge_seal.new.self c.args.job header c.merge_seal.result) c.requires.taken c.merge_seal.ensures.room))

pub returns-in-Err : goal.returns-in-Err
returns-in-Err g c =
    seal_refused c.args.header c.args.room.now c.merge_seal.new.self c.args.view.now c.args.job c.in-Err.fault c.in-Err._job c.requires.out c.requires.open c.merge_seal.ensures.keeps
    (subst (λ (r : Result (Unit {0}) (RoomFault × Job)). SealsJobOr c.args.room.now c.merge_seal.new.self c.args.job c.args.header r) c.in-Err.is
    (some_of c.args.job.header c.args.header (λ header. SealsJobOr c.args.room.now c.merge_seal.new.self c.args.job header c.merge_seal.result) c.requires.taken c.merge_seal.ensures.room))
