use Rattle.std.proofs.Common.{◌≡◌, ◌≤◌, ◌+◌, ◌-◌, length, vec_len, vec_capacity}
use Rattle.node_cache.proofs.Poured.{IsPoured}
use Rattle.node_cache.proofs.undo.pour.Given as goal

abbrev pub invariant-loop-pairs : goal.invariant-loop-pairs
invariant-loop-pairs l = IsPoured l.from l.initial.pairs l.pairs l.initial.room.items l.room.items × (vec_len l.room + (length l.pairs - l.from) ≤ vec_capacity l.room) × (vec_capacity l.room ≡ vec_capacity l.initial.room)

abbrev pub decreases-loop-pairs : goal.decreases-loop-pairs
decreases-loop-pairs l = length l.pairs
