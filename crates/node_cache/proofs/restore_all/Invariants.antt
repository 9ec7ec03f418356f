use Rattle.std.proofs.Common.{◌≡◌, ℕ, nat_eq, IfSome, length}
use Rattle.std.specs.List.{filter_map}
use Rattle.std.specs.Map.{lookup}
use Rattle.indexmap.specs.IndexMap.{IsUnique}
use Rattle.node_cache.specs.Entries.{as_saved}
use Rattle.node_cache.specs.Originals.{originals, Stands}
use Rattle.node_cache.specs.Marked.{AreMarked}
use Rattle.node_cache.specs.Saves.{saved_in, IsOnce}
use Rattle.node_cache.proofs.restore_all.Given as goal

abbrev pub invariant-loop-number : goal.invariant-loop-number
invariant-loop-number l = record {
  nodes : filter_map (as_saved (originals (saved_in l.saved))) l.nodes.entries ≡ filter_map (as_saved (originals (saved_in l.initial.saved))) l.initial.nodes.entries;
  unique : IsUnique nat_eq l.nodes;
  once : IsOnce l.saved;
  marks : (bucket : ℕ) → AreMarked bucket l.initial.marks l.initial.nodes.entries → AreMarked bucket l.marks l.nodes.entries;
  stands : (q : ℕ) → IfSome (lookup (nat_eq q) (saved_in l.saved)) (λ o. Stands o (lookup (nat_eq q) l.nodes.entries));
}

abbrev pub decreases-loop-number : goal.decreases-loop-number
decreases-loop-number l = length (saved_in l.saved)
