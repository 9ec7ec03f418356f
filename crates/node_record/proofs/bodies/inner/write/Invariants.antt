use Rattle.std.proofs.Common.{◌∷◌, ◌++◌, length, take}
use Rattle.std.specs.List.{flat_map}
use Rattle.std.specs.Int.{to_be_bytes, w32}
use Rattle.fine_model.specs.RowBytes.{key_bytes}
use Rattle.node_record.specs.Writing.{Appends}
use Rattle.node_record.proofs.bodies.inner.write.Given as goal

-- the children so far are written
abbrev pub invariant-loop-kid : goal.invariant-loop-kid
invariant-loop-kid l = Appends l.fn.out l.out (length l.seps ∷ flat_map (to_be_bytes w32) (take l.kid-index l.kids))

-- the children, and the separators so far
abbrev pub invariant-loop-key : goal.invariant-loop-key
invariant-loop-key l = Appends l.fn.out l.out (length l.seps ∷ flat_map (to_be_bytes w32) l.kids ++ flat_map key_bytes (take l.key-index l.seps))
