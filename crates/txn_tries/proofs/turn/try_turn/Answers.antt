use Rattle.hall_rooms.specs.Rooms.{beginning_of}
use Rattle.txn_tries.proofs.Finished.{conflict_waits, stopped_finishes}
use Rattle.txn_tries.proofs.Trying.{turn_after}
use Rattle.txn_tries.proofs.Waiting.{sees_waits}
use Rattle.txn_tries.proofs.turn.try_turn.Goals as goal

pub returns-in-All : goal.returns-in-All
returns-in-All g c =
    let h = c.in-All.ensures in
    let group = c.args.options.now.group in
    let txn = c.args.scripted.now in
    turn_after c.args.hall.now group txn c.args.turn c.end_answered.new.txn c.args.pass.now c.answer.new.pass c.end_answered.new.pass (sees_waits group txn (beginning_of c.args.hall.now) c.args.pass.now c.answer.new.pass h.1) c.end_answered.result c.end_answered.ensures

pub returns-in-Conflict : goal.returns-in-Conflict
returns-in-Conflict g c = let h = c.in-Conflict.ensures in
    (h.0.rest, conflict_waits c.args.hall.now c.args.options.now.group c.args.scripted.now c.args.turn c.answer.new.txn c.args.pass.now c.answer.new.pass h.0 h.1)

pub returns-in-Over : goal.returns-in-Over
returns-in-Over g c = let h = c.in-Over.ensures in
    stopped_finishes c.args.hall.now c.args.options.now.group c.args.scripted.now c.args.turn c.answer.new.txn c.args.pass.now c.answer.new.pass h.0 c.in-Over.end h.1
