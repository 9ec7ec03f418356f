-- The room is cleared, neighbours are merged, and it is cleared again.
use Rattle.std.proofs.Common.{inl, subst}
use Rattle.hall_rooms.specs.Rooms.{beginning_of}
use Rattle.hall_rooms.specs.Making.{ClearsTo}
use Rattle.hall_rooms.proofs.Made.{goes_stopped, made, not_cleared}
use Rattle.hall_rooms.proofs.Renewing.{go_then, part_on}
use Rattle.hall_rooms.proofs.making.clear_and_merge.Goals as goal

pub merge_cleared-requires-clause-part : goal.merge_cleared-requires-clause-part
merge_cleared-requires-clause-part g c κs within = part_on c.args.hall.now c.clear.new.room c.args.pass.now c.clear.new.pass c.args.others.now c.clear.new.others c.clear.ensures.goes c.in-Ok.ensures.clears.turn

pub merge_cleared-requires-clause-cleared : goal.merge_cleared-requires-clause-cleared
merge_cleared-requires-clause-cleared g c κs within = (subst (ClearsTo (beginning_of c.args.hall.now).seats c.args.room.now c.clear.new.room) c.if-not-is_cleared.false c.in-Ok.ensures.clears.clears).cleared

pub merge_cleared-requires-clause-ahead : goal.merge_cleared-requires-clause-ahead
merge_cleared-requires-clause-ahead g c κs within = c.in-Ok.ensures.clears.ahead

pub merge_cleared-requires-clause-publishes : goal.merge_cleared-requires-clause-publishes
merge_cleared-requires-clause-publishes g c κs within = c.in-Ok.ensures.clears.publishes

pub returns-else-not-is_cleared-clause-goes : goal.returns-else-not-is_cleared-clause-goes
returns-else-not-is_cleared-clause-goes g c = go_then c.args.hall.now c.args.pass.now c.clear.new.pass c.merge_cleared.new.pass c.args.others.now c.clear.new.others c.merge_cleared.new.others c.clear.ensures.goes c.merge_cleared.ensures.goes

pub returns-else-not-is_cleared-clause-makes : goal.returns-else-not-is_cleared-clause-makes
returns-else-not-is_cleared-clause-makes g c =
    made (beginning_of c.args.hall.now).seats c.args.from c.args.room.now c.clear.new.room c.merge_cleared.new.room (subst (ClearsTo (beginning_of c.args.hall.now).seats c.args.room.now c.clear.new.room) c.if-not-is_cleared.false c.in-Ok.ensures.clears.clears) c.is_some-had_retired.result (let e = c.is_some-had_retired.ensures in let f = c.retired.ensures.lowest in cc (e, f)) c.merge_cleared.result c.merge_cleared.ensures.merges

pub returns-then-not-is_cleared-clause-turn : goal.returns-then-not-is_cleared-clause-turn
returns-then-not-is_cleared-clause-turn g c = c.in-Ok.ensures.clears.turn

pub returns-then-not-is_cleared-clause-ahead : goal.returns-then-not-is_cleared-clause-ahead
returns-then-not-is_cleared-clause-ahead g c = c.in-Ok.ensures.clears.ahead

pub returns-then-not-is_cleared-clause-publishes : goal.returns-then-not-is_cleared-clause-publishes
returns-then-not-is_cleared-clause-publishes g c = c.in-Ok.ensures.clears.publishes

pub returns-then-not-is_cleared-clause-makes : goal.returns-then-not-is_cleared-clause-makes
returns-then-not-is_cleared-clause-makes g c = inl (subst (ClearsTo (beginning_of c.args.hall.now).seats c.args.room.now c.clear.new.room) c.if-not-is_cleared.true c.in-Ok.ensures.clears.clears)

pub returns-in-Err-clause-turn : goal.returns-in-Err-clause-turn
returns-in-Err-clause-turn g c = goes_stopped (beginning_of c.args.hall.now) c.clear.new.room c.clear.new.pass c.in-Err.fault c.in-Err.ensures.clears.0

pub returns-in-Err-clause-makes : goal.returns-in-Err-clause-makes
returns-in-Err-clause-makes g c = not_cleared (beginning_of c.args.hall.now).seats c.args.from c.args.room.now c.clear.new.room c.in-Err.fault c.in-Err.ensures.clears.1
