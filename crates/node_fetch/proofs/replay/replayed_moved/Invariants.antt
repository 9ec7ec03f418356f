use Rattle.std.proofs.Common.{◌≡◌}
use Rattle.std.specs.List.{AllByRecursion}
use Rattle.fine_model.specs.Nodes.{replay}
use Rattle.fine_model.specs.RowBytes.{FitsRec}
use Rattle.fine_model.specs.BoundLaws.{FitsNode}
use Rattle.node_fetch.proofs.replay.replayed_moved.Given as goal

abbrev pub invariant-loop-row : goal.invariant-loop-row
invariant-loop-row l = record {
  fits : FitsNode l.after.0;
  rows : AllByRecursion (λ row. FitsRec row.rec) l.row-iterator.rest.items;
  left : replay l.fn.before l.fn.rows ≡ replay l.after l.row-iterator.rest.items;
}
