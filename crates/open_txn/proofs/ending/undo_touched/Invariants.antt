use Rattle.node_cache.specs.Cache.{before, undone, evicted}
use Rattle.txn_draft.specs.Standing.{IsLeft}
use Rattle.open_txn.specs.Touched.{number_set}
use Rattle.open_txn.proofs.Endings.{SoFar}
use Rattle.open_txn.proofs.ending.undo_touched.Given as goal

abbrev pub invariant-loop-at : goal.invariant-loop-at
invariant-loop-at l = SoFar (λ b. evicted l.published l.keep (undone b)) (λ b new. IsLeft l.published (before b) b new) l.initial.touched l.touched l.initial.buckets l.buckets

abbrev pub decreases-loop-at : goal.decreases-loop-at
decreases-loop-at l = number_set l.touched
