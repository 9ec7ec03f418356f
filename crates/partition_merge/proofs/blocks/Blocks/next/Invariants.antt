use Rattle.std.proofs.Common.{◌≡◌, ◌+◌, ◌*◌, ◌-◌, ◌≤◌, ◌++◌, ℕ, List, [], Some, cond, false, true, length}
use Rattle.fine_model.specs.declared.Row.{Row}
use Rattle.fine_model.specs.Regions.{Image}
use Rattle.partition_index.specs.Parts.{SameEye}
use Rattle.partition_merge.specs.Mergers.{AreKept}
use Rattle.partition_merge.specs.Blocks.{IsAhead, SameBlocks, steps_left}
use Rattle.partition_merge.specs.Joined.{IsJoined}
use Rattle.partition_merge.specs.Streams.{AreInOrder, both_bytes_left}
use Rattle.partition_merge.specs.declared.merger.Merger.{Merger}
use Rattle.partition_merge.proofs.blocks.Blocks.next.Given as goal

abbrev pub invariant-loop-more : goal.invariant-loop-more
invariant-loop-more g l = record {
  same : SameBlocks l.fn.self l.self;
  eye : SameEye (g.E.LogEye.state l.fn.eye) (g.E.LogEye.state l.eye);
  steady : (g.E.LogEye.state l.eye).faults ≡ (g.E.LogEye.state l.fn.eye).faults;
  kept : AreKept (g.E.LogEye.state l.fn.eye).told l.self.merger;
  most : length l.self.block ≤ l.self.most;
  some : 1 ≤ l.self.most;
  ended : l.more ≡ false → (l.self.waiting ≡ []) × (l.self.is_whole ≡ true);
  ahead : (handed : List ℕ) (a b : List Row) → IsAhead (g.E.LogEye.state l.fn.eye) l.fn.self handed a b → IsAhead (g.E.LogEye.state l.eye) l.self (handed ++ l.self.block) a b;
  joined : (start : Merger) (handed : List ℕ) → IsJoined (g.E.LogEye.state l.fn.eye).told start l.fn.self handed → IsJoined (g.E.LogEye.state l.fn.eye).told start l.self (handed ++ l.self.block);
  order : (image : Image) → (g.E.LogEye.state l.fn.eye).told ≡ Some image → AreInOrder image l.fn.self.merger → AreInOrder image l.self.merger;
  bytes : (image : Image) → (g.E.LogEye.state l.fn.eye).told ≡ Some image → AreInOrder image l.fn.self.merger
      → (g.E.LogEye.state l.eye).taken + both_bytes_left l.self.merger ≤ (g.E.LogEye.state l.fn.eye).taken + both_bytes_left l.fn.self.merger;
}

abbrev pub decreases-loop-more : goal.decreases-loop-more
decreases-loop-more g l = steps_left l.self * (l.self.most + 1) + (l.self.most - length l.self.block) + cond l.more 1 0
