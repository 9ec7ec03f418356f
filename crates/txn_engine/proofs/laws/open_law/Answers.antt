use Rattle.txn_engine.proofs.Idle.{begins_law, seen_law}
use Rattle.txn_engine.proofs.laws.open_law.Goals as goal

pub returns : goal.returns
returns c = record { begins = begins_law; seen = seen_law }
