use Rattle.std.proofs.Common.{◌≡◌, length, reverse}
use Rattle.node_cache.specs.Undo.{CanTakeAll, all_back}
use Rattle.node_cache.proofs.undo.take_all_back.Given as goal

abbrev pub invariant-loop-alloc : goal.invariant-loop-alloc
invariant-loop-alloc l = CanTakeAll (reverse l.steps) l.pairs × (all_back (reverse l.steps) l.pairs ≡ all_back (reverse l.initial.steps) l.initial.pairs)

abbrev pub decreases-loop-alloc : goal.decreases-loop-alloc
decreases-loop-alloc l = length l.steps
