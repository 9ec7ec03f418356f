use Rattle.key_locks.proofs.Held.{held_alike, held_beside}
use Rattle.key_locks.proofs.laws.hold_law.Goals as goal

pub returns : goal.returns
returns g c = record { same = held_alike; room = held_beside }
