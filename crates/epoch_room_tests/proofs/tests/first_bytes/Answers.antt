use Rattle.std.proofs.Common.{ap}
use Rattle.std.specs.List.{list_all}
use Rattle.fine_model.specs.Boards.{is_empty}
use Rattle.epoch_room_tests.proofs.tests.first_bytes.Goals as goal

pub into_disk-disk-requires-clause-board : goal.into_disk-disk-requires-clause-board
into_disk-disk-requires-clause-board c = λ _. ap (list_all is_empty) c.requires.board
