use Rattle.std.proofs.Common.{◌≡◌, length}
use Rattle.std.specs.Prelude.{fold}
use Rattle.btree_nodes.specs.Hashes.{low_step}
use Rattle.btree_nodes.proofs.hash.bucket_number.Given as goal

-- the hash so far, and then of the bytes that are left, is that of the key
abbrev pub invariant-loop-left : goal.invariant-loop-left
invariant-loop-left l = fold low_step l.hash l.left ≡ fold low_step 0 l.key

abbrev pub decreases-loop-left : goal.decreases-loop-left
decreases-loop-left l = length l.left
