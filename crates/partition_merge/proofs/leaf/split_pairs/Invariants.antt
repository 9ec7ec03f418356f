use Rattle.std.proofs.Common.{◌≡◌, length, map, List}
use Rattle.fine_model.specs.declared.Rec.TheVariants as rec
use Rattle.fine_model.specs.Map.{Pair}
use Rattle.fine_model.specs.RowBytes.{FitsRec, body}
use Rattle.partition_merge.proofs.Leaves.{PairsLeft}
use Rattle.partition_merge.proofs.leaf.split_pairs.Given as goal

abbrev pub invariant-loop-left : goal.invariant-loop-left
invariant-loop-left l = (pairs : List Pair) → FitsRec (rec.LeafImage pairs) → l.text ≡ body (rec.LeafImage pairs) → PairsLeft pairs (map (λ t. t.now) l.pairs) l.left

abbrev pub decreases-loop-left : goal.decreases-loop-left
decreases-loop-left l = length l.left
