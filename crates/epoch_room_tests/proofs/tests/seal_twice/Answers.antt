use Rattle.std.proofs.Common.{arith}
use Rattle.epoch_room_tests.proofs.NewLog.{still_waits}
use Rattle.epoch_room_tests.proofs.tests.seal_twice.Goals as goal

pub seal-second-requires-clause-waiting : goal.seal-second-requires-clause-waiting
seal-second-requires-clause-waiting c = omega (arith, still_waits _ _ _ c.in-Err.ensures.room, c.requires)
