use Rattle.std.proofs.Common.{◌≡◌}
use Rattle.partition_index.specs.Parts.{SameEye}
use Rattle.partition_merge.specs.Mergers.{AreKept, both_left, older_part, newer_part}
use Rattle.partition_merge_tests.proofs.tests.node_by_node.Given as goal

abbrev pub invariant-loop-rows : goal.invariant-loop-rows
invariant-loop-rows g l = record {
  same : SameEye (g.E.LogEye.state l.initial.eye) (g.E.LogEye.state l.eye);
  older : older_part l.merger ≡ older_part l.fn.merger;
  newer : newer_part l.merger ≡ newer_part l.fn.merger;
  region_len : l.merger.region_len ≡ l.fn.merger.region_len;
  kept : AreKept (g.E.LogEye.state l.initial.eye).told l.merger;
}

abbrev pub decreases-loop-rows : goal.decreases-loop-rows
decreases-loop-rows g l = both_left l.merger
