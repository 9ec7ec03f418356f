use Rattle.std.proofs.Common.{◌≡◌, ◌+◌, ◌≤◌, length, count_by}
use Rattle.indexmap.specs.IndexMap.{index_map_len}
use Rattle.node_cache.specs.Entries.{is_published}
use Rattle.node_cache.proofs.count_published.Given as goal

abbrev pub invariant-loop-number : goal.invariant-loop-number
invariant-loop-number l = record {
  counted : l.count + count_by (is_published l.published) l._number-iterator ≡ count_by (is_published l.published) l.nodes.entries;
  few : l.count + length l._number-iterator ≤ index_map_len l.nodes;
}
