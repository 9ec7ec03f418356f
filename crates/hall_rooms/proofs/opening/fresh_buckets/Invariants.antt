use Rattle.std.proofs.Common.{◌≡◌, ◌≤◌, ℕ, length}
use Rattle.std.specs.Prelude.{vec_len, vec_capacity}
use mathlib.Core.Option.{some}
use lib.ListN.{get_elem?}
use Rattle.node_cache.specs.Cache.{Cache}
use Rattle.hall_rooms.proofs.Fresh.{empty_bucket}
use Rattle.hall_rooms.proofs.opening.fresh_buckets.Given as goal

abbrev pub invariant-loop-number : goal.invariant-loop-number
invariant-loop-number l = record {
  len : vec_len l.buckets ≡ l.number;
  long : length l.buckets.items ≡ l.number;
  room : 256 ≤ vec_capacity l.buckets;
  each : (k : ℕ) (b : Cache) → get_elem? l.buckets.items k ≡ some b → b ≡ empty_bucket k;
}
