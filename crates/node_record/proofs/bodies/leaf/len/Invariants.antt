use Rattle.std.proofs.Common.{◌≡◌, ◌+◌, ◌*◌, ◌≤◌, length, take}
use Rattle.std.specs.List.{flat_map}
use Rattle.fine_model.specs.RowBytes.{pair_bytes}
use Rattle.node_record.proofs.bodies.leaf.len.Given as goal

-- the length of the pairs so far
abbrev pub invariant-loop-pair : goal.invariant-loop-pair
invariant-loop-pair l = (l.len ≡ 1 + length (flat_map pair_bytes (take l.pair-index l.pairs))) × (l.len ≤ 1 + 323 * l.pair-index)
