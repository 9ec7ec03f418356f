-- A room in which two were merged is cleared.
use Rattle.std.proofs.Common.{subst}
use Rattle.hall_rooms.specs.Rooms.{beginning_of}
use Rattle.hall_rooms.specs.Making.{ClearsTo}
use Rattle.hall_rooms.proofs.Made.{goes_stopped}
use Rattle.hall_rooms.proofs.making.clear_merged.Goals as goal

pub returns-then-is_cleared-clause-turn : goal.returns-then-is_cleared-clause-turn
returns-then-is_cleared-clause-turn g c = c.in-Ok.ensures.clears.turn

pub returns-then-is_cleared-clause-ahead : goal.returns-then-is_cleared-clause-ahead
returns-then-is_cleared-clause-ahead g c = c.in-Ok.ensures.clears.ahead

pub returns-then-is_cleared-clause-publishes : goal.returns-then-is_cleared-clause-publishes
returns-then-is_cleared-clause-publishes g c = c.in-Ok.ensures.clears.publishes

pub returns-then-is_cleared-clause-clears : goal.returns-then-is_cleared-clause-clears
returns-then-is_cleared-clause-clears g c = subst (ClearsTo (beginning_of c.args.hall.now).seats c.args.room.now c.clear.new.room) c.if-is_cleared.true c.in-Ok.ensures.clears.clears

pub returns-else-is_cleared-clause-turn : goal.returns-else-is_cleared-clause-turn
returns-else-is_cleared-clause-turn g c = c.in-Ok.ensures.clears.turn

pub returns-else-is_cleared-clause-ahead : goal.returns-else-is_cleared-clause-ahead
returns-else-is_cleared-clause-ahead g c = c.in-Ok.ensures.clears.ahead

pub returns-else-is_cleared-clause-publishes : goal.returns-else-is_cleared-clause-publishes
returns-else-is_cleared-clause-publishes g c = c.in-Ok.ensures.clears.publishes

pub returns-else-is_cleared-clause-clears : goal.returns-else-is_cleared-clause-clears
returns-else-is_cleared-clause-clears g c = subst (ClearsTo (beginning_of c.args.hall.now).seats c.args.room.now c.clear.new.room) c.if-is_cleared.false c.in-Ok.ensures.clears.clears

pub returns-in-Err-clause-turn : goal.returns-in-Err-clause-turn
returns-in-Err-clause-turn g c = goes_stopped (beginning_of c.args.hall.now) c.clear.new.room c.clear.new.pass c.in-Err.fault c.in-Err.ensures.clears.0

pub returns-in-Err-clause-clears : goal.returns-in-Err-clause-clears
returns-in-Err-clause-clears g c = c.in-Err.ensures.clears.1
