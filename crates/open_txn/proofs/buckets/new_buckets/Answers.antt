use Rattle.std.proofs.Common.{◌∙◌, ◌++◌, ◌∷◌, [], sym, arith}
use Rattle.std.proofs.lemmas.List.FromFn.{map-range_with_len_more}
use Rattle.open_txn.specs.Buckets.{new_bucket}
use Rattle.open_txn.proofs.buckets.new_buckets.Goals as goal

pub loop-number-preserved : goal.loop-number-preserved
loop-number-preserved c = c.in_ok-push.ensures.items ∙ (λ i. c.loop-number.invariant i ++ c.new.ensures i ∷ []) ∙ sym (map-range_with_len_more new_bucket 0 c.loop-number.number c.loop-number.number (omega arith))
