use Rattle.std.proofs.Common.{ap, ◌∙◌}
use Rattle.fine_model.specs.declared.law.RoomState.{RoomState}
use Rattle.epoch_room_tests.proofs.TestSteps.{back_again, still_posted}
use Rattle.epoch_room_tests.proofs.tests.held_until_back.Goals as goal

pub take_back-requires-clause-posted : goal.take_back-requires-clause-posted
take_back-requires-clause-posted g c = λ _ _. still_posted _ c.args.view c.read_one-read.new.view c.read_one-read.ensures c.requires.place (c.erase_first-held.ensures ∙ c.requires.board)

pub returns : goal.returns
returns g c =
    c.erase_first.ensures ∙ ap (λ (r : RoomState). r.board) c.take_back.ensures.room.room.room
    ∙ back_again _ c.args.view c.read_one-read.new.view c.read_one-read.ensures c.requires.place (c.erase_first-held.ensures ∙ c.requires.board)
