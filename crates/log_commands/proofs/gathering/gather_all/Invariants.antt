use Rattle.log_commands.specs.Reading.{Gathers}
use Rattle.log_commands.proofs.gathering.gather_all.Given as goal

-- the pairs of the buckets so far, and no load failed
abbrev pub invariant-loop-number : goal.invariant-loop-number
invariant-loop-number g l =
    g.S.NodeSource.later l.initial.source l.source × g.S.NodeSource.clean l.initial.source l.source × Gathers (g.S.NodeSource.tells l.initial.source) (g.S.NodeSource.finds l.initial.source) l.number l.pairs
