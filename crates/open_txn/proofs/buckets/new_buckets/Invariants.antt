use Rattle.std.proofs.Common.{◌≡◌, map}
use Rattle.std.specs.List.{range_with_len}
use Rattle.open_txn.specs.Buckets.{new_bucket}
use Rattle.open_txn.proofs.buckets.new_buckets.Given as goal

abbrev pub invariant-loop-number : goal.invariant-loop-number
invariant-loop-number l = l.made.items ≡ map new_bucket (range_with_len 0 l.number)
