use Rattle.std.proofs.Common.{sym, subst}
use Rattle.std.specs.Prelude.{IfSome}
use Rattle.epoch_room_tests.proofs.TestSteps.{nothing_asked, sealed_board}
use Rattle.epoch_room_tests.proofs.tests.finish.Goals as goal

pub merge_seal-requires-clause-written : goal.merge_seal-requires-clause-written
merge_seal-requires-clause-written g c = λ _ _. nothing_asked c.args.room.now.room c.args.job c.args.job.header c.requires.untold

pub returns-in-Ok : goal.returns-in-Ok
returns-in-Ok g c = sealed_board _ _ c.args.job c.args.job.header c.merge_seal.result _ c.in-Ok.is c.requires.taken c.merge_seal.ensures.room
