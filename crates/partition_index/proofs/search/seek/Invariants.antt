use Rattle.std.proofs.Common.{◌≡◌, ◌⊎◌, true, ◌+◌, ◌-◌, ◌*◌, ◌≤◌, List}
use Rattle.fine_model.specs.declared.Row.{Row}
use Rattle.fine_model.specs.Seek.{binary_digits}
use Rattle.partition_index.specs.Parts.{SameEye}
use Rattle.fine_model.specs.Merge.{is_node_below}
use Rattle.partition_index.specs.declared.entries.IndexEntry.{IndexEntry}
use Rattle.partition_index.specs.Search.{IsEntryAt, TellsRows}
use Rattle.partition_index.proofs.Halving.{IsLeft}
use Rattle.partition_index.proofs.Narrowed.{Narrowed}
use Rattle.partition_index.proofs.search.seek.Given as goal

abbrev pub invariant-loop-low : goal.invariant-loop-low
invariant-loop-low g l = record {
  order : l.low ≤ l.high;
  within : l.high ≤ l.part.header.nodes;
  same : SameEye (g.E.LogEye.state l.initial.eye) (g.E.LogEye.state l.eye);
  steady : (g.E.LogEye.state l.eye).faults ≡ (g.E.LogEye.state l.initial.eye).faults;
  taken : (g.E.LogEye.state l.eye).taken + 14 * binary_digits (l.high - l.low) ≤ (g.E.LogEye.state l.initial.eye).taken + 14 * binary_digits l.part.header.nodes;
  before : (l.low ≡ 0) ⊎ ((entry : IndexEntry) × IsEntryAt (g.E.LogEye.state l.initial.eye).told l.part (l.low - 1) entry × (is_node_below entry.node l.node ≡ true));
  behind : (l.high ≡ l.part.header.nodes) ⊎ ((entry : IndexEntry) × IsEntryAt (g.E.LogEye.state l.initial.eye).told l.part l.high entry × (is_node_below l.node entry.node ≡ true));
  left : IsLeft (g.E.LogEye.state l.initial.eye).told l.part l.node l.low l.high;
  narrowed : (rows : List Row) → TellsRows (g.E.LogEye.state l.initial.eye) l.part rows → Narrowed rows l.node l.low l.high;
}

abbrev pub decreases-loop-low : goal.decreases-loop-low
decreases-loop-low g l = l.high - l.low
