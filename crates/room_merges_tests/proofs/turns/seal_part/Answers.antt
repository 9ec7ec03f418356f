use Rattle.std.proofs.Common.{Result, subst}
use Rattle.fine_model.specs.declared.Job.{Job}
use Rattle.epoch_room.specs.declared.answers.RoomFault.{RoomFault}
use Rattle.room_merges_tests.specs.Turns.{Merges}
use Rattle.room_merges_tests.proofs.Turned.{may_seal, sealed_or}
use Rattle.room_merges_tests.proofs.turns.seal_part.Goals as goal

pub merge_seal-requires-clause-written : goal.merge_seal-requires-clause-written
merge_seal-requires-clause-written c κs = may_seal c.args.room.now c.args.view.now c.args.job c.args.header c.counts-whole.ensures.whole c.parts-parts.ensures.whole c.requires

pub returns-in-Ok : goal.returns-in-Ok
returns-in-Ok c =
    subst (λ (r : Result (Unit {0}) (RoomFault × Job)). Merges c.merge_seal.new.self c.args.view.now c.args.job r) c.in-Ok.is
    (sealed_or c.args.room.now c.merge_seal.new.self c.args.view.now c.args.job c.args.header c.merge_seal.result c.merge_seal.ensures.keeps c.merge_seal.ensures.room c.requires)

pub returns-in-Err : goal.returns-in-Err
returns-in-Err c =
    subst (λ (r : Result (Unit {0}) (RoomFault × Job)). Merges c.merge_seal.new.self c.args.view.now c.args.job r) c.in-Err.is
    (sealed_or c.args.room.now c.merge_seal.new.self c.args.view.now c.args.job c.args.header c.merge_seal.result c.merge_seal.ensures.keeps c.merge_seal.ensures.room c.requires)
