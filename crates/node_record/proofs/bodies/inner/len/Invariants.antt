use Rattle.std.proofs.Common.{◌≡◌, ◌+◌, ◌*◌, ◌≤◌, length, take}
use Rattle.std.specs.List.{flat_map}
use Rattle.fine_model.specs.RowBytes.{key_bytes}
use Rattle.node_record.proofs.bodies.inner.len.Given as goal

-- the length of the separators so far
abbrev pub invariant-loop-key : goal.invariant-loop-key
invariant-loop-key l = (l.len ≡ 1 + 4 * length l.kids + length (flat_map key_bytes (take l.key-index l.seps))) × (l.len ≤ 1 + 4 * length l.kids + 65 * l.key-index)
