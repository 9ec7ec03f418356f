use Rattle.std.proofs.Common.{sym, ◌∙◌}
use Rattle.epoch_room_tests.proofs.TestSteps.{picked_fresh, taken_long}
use Rattle.epoch_room_tests.proofs.tests.taken_job.Goals as goal

pub returns-clause-len : goal.returns-clause-len
returns-clause-len g c =
    taken_long c.in-Some.job c.merge_take.new.job c.measure.result _ _ 38 c.merge_take.ensures.job (sym c.merge_take.ensures.taken ∙ c.if-not-merge_take.false)
    (picked_fresh c.args.room.now.room 1 c.in-Some.job (sym c.merge_pick.ensures.job ∙ c.in-Some.is)) c.measure.ensures.len
