use Rattle.std.proofs.Common.{◌≡◌, nat_eq, map, length}
use Rattle.indexmap.specs.IndexMap.{IsUnique}
use Rattle.node_cache.specs.Entries.{settled_entry}
use Rattle.node_cache.specs.Originals.{originals}
use Rattle.node_cache.specs.Saves.{saved_in, IsOnce}
use Rattle.node_cache.proofs.stamp_all.Given as goal

abbrev pub invariant-loop-number : goal.invariant-loop-number
invariant-loop-number l = record {
  nodes : map (settled_entry l.epoch (originals (saved_in l.saved))) l.nodes.entries ≡ map (settled_entry l.epoch (originals (saved_in l.initial.saved))) l.initial.nodes.entries;
  unique : IsUnique nat_eq l.nodes;
  once : IsOnce l.saved;
}

abbrev pub decreases-loop-number : goal.decreases-loop-number
decreases-loop-number l = length (saved_in l.saved)
