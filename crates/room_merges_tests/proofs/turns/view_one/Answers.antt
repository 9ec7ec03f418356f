use Rattle.std.proofs.Common.{Result, ◌∙◌, subst}
use Rattle.partition_hold.specs.Views.{ViewValue}
use Rattle.epoch_room.specs.Views.{ViewsOr}
use Rattle.epoch_room.specs.declared.answers.RoomFault.{RoomFault}
use Rattle.room_merges_tests.proofs.Turned.{unviewed, views_at}
use Rattle.room_merges_tests.proofs.turns.view_one.Goals as goal

pub returns-in-Ok-clause-at : goal.returns-in-Ok-clause-at
returns-in-Ok-clause-at c =
    views_at c.args.room.now c.view_for.new.self c.in-Ok.view c.requires.board c.view_for.ensures.keeps
    (subst (λ (r : Result ViewValue RoomFault). ViewsOr c.args.room.now c.view_for.new.self 1 r) c.in-Ok.is c.view_for.ensures.room)

pub returns-in-Ok-clause-job : goal.returns-in-Ok-clause-job
returns-in-Ok-clause-job c = c.view_for.ensures.job.job ∙ c.requires.job

pub returns-in-Err-clause-none : goal.returns-in-Err-clause-none
returns-in-Err-clause-none c = λ _.
    unviewed c.args.room.now c.view_for.new.self 1 c.in-Err._fault (subst (λ (r : Result ViewValue RoomFault). ViewsOr c.args.room.now c.view_for.new.self 1 r) c.in-Err.is c.view_for.ensures.room)
    ∙ c.requires.board

pub returns-in-Err-clause-job : goal.returns-in-Err-clause-job
returns-in-Err-clause-job c = c.view_for.ensures.job.job ∙ c.requires.job
