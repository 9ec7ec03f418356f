use Rattle.std.proofs.Common.{ap}
use Rattle.fine_model.specs.declared.law.RoomState.{RoomState}
use Rattle.hall_rooms.proofs.Viewing.{taken_back}
use Rattle.hall_rooms.proofs.views.take_back.Goals as goal

pub returns-clause-board : goal.returns-clause-board
returns-clause-board g c = ap (λ (r : RoomState). r.board) c.take_back.ensures.room.room.room

pub returns-clause-same : goal.returns-clause-same
returns-clause-same g c = taken_back c.args.room.now c.take_back.new.self c.args.view c.counts-whole.ensures.whole c.take_back.ensures.room c.take_back.ensures.keeps
