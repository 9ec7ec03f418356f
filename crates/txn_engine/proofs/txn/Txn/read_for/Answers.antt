use Rattle.hall_rooms.specs.Rooms.{beginning_of}
use Rattle.txn_engine.proofs.Open.{numbered}
use Rattle.txn_engine.proofs.txn.Txn.read_for.Goals as goal

pub read-requires-clause-held : goal.read-requires-clause-held
read-requires-clause-held g c = (c.requires.call.1, numbered (beginning_of c.args.hall.now) c.args.self.now c.args.pass.now c.requires.open.0)
