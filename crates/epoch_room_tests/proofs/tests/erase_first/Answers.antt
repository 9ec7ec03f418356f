use Rattle.epoch_room_tests.proofs.TestSteps.{erased_board}
use Rattle.epoch_room_tests.proofs.tests.erase_first.Goals as goal

pub returns : goal.returns
returns g c = erased_board _ _ _ c.erase.result c.erase.ensures.room
