-- Whatever rows the bytes are, they have these keys up to a place.
use Rattle.std.proofs.Common.{◌-◌, List, length}
use Rattle.fine_model.specs.declared.Row.{Row}
use Rattle.node_record.specs.Keys.{AreRows}
use Rattle.node_record.proofs.KeysRead.{KeyedTo}
use Rattle.node_record.proofs.key.keys_of.Given as goal

abbrev pub invariant-loop-at : goal.invariant-loop-at
invariant-loop-at l = (rows : List Row) → AreRows l.bytes rows → KeyedTo rows l.bytes l.keys.items l.at

abbrev pub decreases-loop-at : goal.decreases-loop-at
decreases-loop-at l = length l.bytes - l.at
