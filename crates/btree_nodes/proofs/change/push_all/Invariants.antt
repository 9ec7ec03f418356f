use Rattle.std.proofs.Common.{◌≡◌, ◌≤◌, ◌++◌}
use Rattle.std.specs.List.{AllByRecursion}
use Rattle.fine_model.specs.RowBytes.{FitsRec, greatest}
use Rattle.node_cache.specs.Cache.{Cache}
use Rattle.node_cache.specs.Given.{IsCached}
use Rattle.btree_nodes.specs.Changes.{Saves, Pushes, AreReady}
use Rattle.btree_nodes.proofs.change.push_all.Given as goal

-- what was pushed so far, and then what is left, is what was to be pushed
abbrev pub invariant-loop-row : goal.invariant-loop-row
invariant-loop-row l = record {
  of_bucket : AllByRecursion (λ row. row.node.bucket ≡ l.bucket.bucket) l.row-iterator.rest.items;
  ready : AreReady (IsCached l.bucket) l.row-iterator.rest.items;
  recs : AllByRecursion (λ row. FitsRec row.rec × (row.version ≤ greatest)) l.row-iterator.rest.items;
  saves : Saves l.initial.bucket l.bucket;
  pushes : (c : Cache) → Pushes l.bucket c l.row-iterator.rest.items → Pushes l.initial.bucket c l.initial.row-iterator.rest.items;
  log : l.log ++ l.row-iterator.rest.items ≡ l.initial.log ++ l.initial.row-iterator.rest.items;
}
