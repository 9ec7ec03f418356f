use Rattle.std.proofs.Common.{◌∙◌}
use Rattle.epoch_room_tests.proofs.NewLog.{still_boards}
use Rattle.epoch_room_tests.proofs.tests.seal_one.Goals as goal

pub returns-in-Ok : goal.returns-in-Ok
returns-in-Ok g c = (
  still_boards _ _ c.seal.result c.seal.ensures.room ∙ c.in_ok-stamp.ensures.same.0,
  c.seal.ensures.job.job ∙ c.in_ok-stamp.ensures.same.1,
  c.seal.ensures.keeps.becomes.told ∙ c.in_ok-stamp.ensures.same.2,
)
