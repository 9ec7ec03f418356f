use Rattle.partition_index.specs.Parts.{SameEye}
use Rattle.partition_merge.specs.Blocks.{SameBlocks}
use Rattle.partition_merge.specs.Mergers.{AreKept}
use Rattle.partition_merge_tests.proofs.tests.count_blocks.Given as goal

abbrev pub invariant-loop-count : goal.invariant-loop-count
invariant-loop-count g l = record {
  eye : SameEye (g.E.LogEye.state l.fn.eye) (g.E.LogEye.state l.eye);
  same : SameBlocks l.fn.blocks l.blocks;
  kept : AreKept (g.E.LogEye.state l.fn.eye).told l.blocks.merger;
}
