use Rattle.std.proofs.Common.{◌≡◌}
use Rattle.open_txn.specs.Steps.{Gathers}
use Rattle.open_txn.specs.Traces.{ScansBelow}
use Rattle.open_txn.proofs.scanning.gather_all.Given as goal

abbrev pub invariant-loop-at : goal.invariant-loop-at
invariant-loop-at g l =
    g.S.NodeSource.later l.initial.source l.source × g.S.NodeSource.clean l.initial.source l.source × (l.scan.next ≡ l.at)
    × Gathers (g.S.NodeSource.tells l.initial.source) (g.S.NodeSource.tells l.source) (g.S.NodeSource.upper l.initial.source) l.initial.buckets l.buckets l.low l.high l.limit l.initial.scan l.scan
    × ScansBelow (g.S.NodeSource.tells l.initial.source) (g.S.NodeSource.finds l.initial.source) (g.S.NodeSource.upper l.initial.source) l.at l.low l.high l.limit l.initial.buckets l.buckets
