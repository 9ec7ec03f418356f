use Rattle.std.proofs.Common.{◌≡◌, ◌+◌, ◌<◌, IsTrue}
use Rattle.std.specs.List.{AllByRecursion}
use Rattle.fine_model.specs.Merge.{is_ordered}
use Rattle.partition_merge.specs.Merging.{FitRows}
use Rattle.partition_merge_tests.proofs.tests.add_many.Given as goal

abbrev pub invariant-loop-i : goal.invariant-loop-i
invariant-loop-i l = record {
  order : IsTrue (is_ordered l.rows);
  fit : FitRows l.rows;
  so_far : AllByRecursion (λ row. (row.node.bucket ≡ 97) × (row.node.number < l.fn.puts.0 + l.i)) l.rows;
}
