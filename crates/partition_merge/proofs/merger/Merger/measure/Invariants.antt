use Rattle.std.proofs.Common.{◌≡◌, ◌+◌, ◌≤◌, List, Some}
use Rattle.fine_model.specs.declared.Row.{Row}
use Rattle.fine_model.specs.Regions.{Image, body_len}
use Rattle.partition_index.specs.Parts.{SameEye}
use Rattle.partition_index.specs.Search.{TellsRows}
use Rattle.partition_merge.specs.Mergers.{AreKept, IsCounted, both_left, older_part, newer_part, start_of}
use Rattle.partition_merge.specs.Streams.{AreInOrder, both_bytes_left}
use Rattle.partition_merge.proofs.Handed.{Handed}
use Rattle.partition_merge.proofs.Measured.{Measured}
use Rattle.partition_merge.proofs.merger.Merger.measure.Given as goal

abbrev pub invariant-loop-pass : goal.invariant-loop-pass
invariant-loop-pass g l = record {
  stays : l.self ≡ l.fn.self;
  same : SameEye (g.E.LogEye.state l.initial.eye) (g.E.LogEye.state l.eye);
  steady : (g.E.LogEye.state l.eye).faults ≡ (g.E.LogEye.state l.initial.eye).faults;
  older : older_part l.pass ≡ older_part l.self;
  newer : newer_part l.pass ≡ newer_part l.self;
  region_len : l.pass.region_len ≡ l.self.region_len;
  kept : AreKept (g.E.LogEye.state l.initial.eye).told l.pass;
  amounts : IsCounted l.measure;
  few : l.measure.nodes + both_left l.pass ≤ (older_part l.self).header.nodes + (newer_part l.self).header.nodes;
  handed : Handed (g.E.LogEye.state l.initial.eye).told (start_of l.self) l.pass l.last l.measure;
  counted : (older newer : List Row) → TellsRows (g.E.LogEye.state l.initial.eye) (older_part l.self) older → TellsRows (g.E.LogEye.state l.initial.eye) (newer_part l.self) newer → Measured (g.E.LogEye.state l.eye) l.pass older newer l.last l.measure;
  order : (image : Image) → (g.E.LogEye.state l.initial.eye).told ≡ Some image → AreInOrder image l.pass;
  bytes : (image : Image) → (g.E.LogEye.state l.initial.eye).told ≡ Some image
      → (g.E.LogEye.state l.eye).taken + both_bytes_left l.pass ≤ (g.E.LogEye.state l.initial.eye).taken + (body_len (older_part l.self).header + body_len (newer_part l.self).header);
}

abbrev pub decreases-loop-pass : goal.decreases-loop-pass
decreases-loop-pass g l = both_left l.pass
