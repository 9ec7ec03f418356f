use Rattle.std.proofs.Common.{◌∷◌, length, take}
use Rattle.std.specs.List.{flat_map}
use Rattle.fine_model.specs.RowBytes.{pair_bytes}
use Rattle.node_record.specs.Writing.{Appends}
use Rattle.node_record.proofs.bodies.leaf.write.Given as goal

-- the pairs so far are written
abbrev pub invariant-loop-pair : goal.invariant-loop-pair
invariant-loop-pair l = Appends l.fn.out l.out (length l.pairs ∷ flat_map pair_bytes (take l.pair-index l.pairs))
