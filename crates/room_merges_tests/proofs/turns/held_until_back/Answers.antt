use Rattle.std.proofs.Common.{None, ap, ◌∙◌}
use Rattle.std.specs.Prelude.{slice_get, slice_set}
use Rattle.fine_model.specs.Boards.{buffer_at}
use Rattle.fine_model.specs.declared.law.RoomState.{RoomState}
use Rattle.room_merges_tests.proofs.Turned.{back, posted}
use Rattle.room_merges_tests.proofs.turns.held_until_back.Goals as goal

pub take_back-requires-clause-posted : goal.take_back-requires-clause-posted
take_back-requires-clause-posted c = λ _. ap (λ b. slice_get b (buffer_at c.args.view.seat c.args.view.buffer)) c.erase_first-held.ensures.board ∙ posted c.args.room.now c.args.view c.requires

pub returns-clause-board : goal.returns-clause-board
returns-clause-board c =
    c.erase_first.ensures.board ∙ ap (λ (r : RoomState). r.board) c.take_back.ensures.room.room.room
    ∙ ap (λ b. slice_set b (buffer_at c.args.view.seat c.args.view.buffer) None) c.erase_first-held.ensures.board ∙ back c.args.room.now c.args.view c.requires

pub returns-clause-job : goal.returns-clause-job
returns-clause-job c = c.erase_first.ensures.job ∙ c.take_back.ensures.job.job ∙ c.erase_first-held.ensures.job
