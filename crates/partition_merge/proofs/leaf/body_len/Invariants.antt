use Rattle.std.proofs.Common.{◌≡◌, ◌+◌, length, min, take}
use Rattle.std.specs.List.{flat_map}
use Rattle.partition_merge.proofs.leaf.body_len.Given as goal

-- the length of the pairs so far
abbrev pub invariant-loop-pair : goal.invariant-loop-pair
invariant-loop-pair l = l.len ≡ min (1 + length (flat_map (λ t. t.now) (take l.pair-index l.pairs))) 18446744073709551615
