use Rattle.std.proofs.Common.{◌≡◌, drop}
use Rattle.std.specs.List.{AllByRecursion}
use Rattle.fine_model.specs.Nodes.{replay}
use Rattle.fine_model.specs.RowBytes.{FitsRec}
use Rattle.fine_model.specs.BoundLaws.{FitsNode}
use Rattle.node_fetch.proofs.replay.replayed.Given as goal

abbrev pub invariant-loop-row : goal.invariant-loop-row
invariant-loop-row l = record {
  fits : FitsNode l.content;
  rows : AllByRecursion (λ row. FitsRec row.rec) (drop l.row-index l.rows);
  left : replay l.fn.before l.rows ≡ replay (l.content, l.version) (drop l.row-index l.rows);
}
