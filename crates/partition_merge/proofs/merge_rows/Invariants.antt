use Rattle.std.proofs.Common.{◌≡◌, ◌+◌, ◌++◌, length}
use Rattle.std.specs.Prelude.{IsTrue}
use Rattle.fine_model.specs.Merge.{is_ordered, merged}
use Rattle.partition_merge.specs.Merging.{FitRows}
use Rattle.partition_merge.proofs.merge_rows.Given as goal

abbrev pub invariant-loop-node : goal.invariant-loop-node
invariant-loop-node l = record {
  old_order : IsTrue (is_ordered l.old_left);
  new_order : IsTrue (is_ordered l.new_left);
  old_fit : FitRows l.old_left;
  new_fit : FitRows l.new_left;
  left : merged l.older l.newer ≡ l.merged ++ merged l.old_left l.new_left;
}

abbrev pub decreases-loop-node : goal.decreases-loop-node
decreases-loop-node l = length l.old_left + length l.new_left
