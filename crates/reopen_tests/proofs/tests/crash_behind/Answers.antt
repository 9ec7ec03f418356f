use Rattle.std.proofs.Common.{◌∙◌, ap}
use Rattle.std.specs.List.{list_all}
use Rattle.fine_model.specs.Boards.{is_empty}
use Rattle.reopen_tests.proofs.Gathered.{same_out}
use Rattle.reopen_tests.proofs.tests.crash_behind.Goals as goal

pub into_disk-requires-clause-board : goal.into_disk-requires-clause-board
into_disk-requires-clause-board c κs = ap (list_all is_empty) (same_out _ _ _ c.gather-answer.result c.gather-answer.ensures.room).0 ∙ c.requires.board

pub into_disk-requires-clause-no_job : goal.into_disk-requires-clause-no_job
into_disk-requires-clause-no_job c κs = (same_out _ _ _ c.gather-answer.result c.gather-answer.ensures.room).1 ∙ c.requires.no_job
