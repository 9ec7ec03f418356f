-- The buckets of a store, and what they stand for together.
use Rattle.std.specs.Prelude.{◌≡◌, ℕ, Bool, false, List, [], length, replicate, slice_get, Some}
use Rattle.fine_model.specs.declared.Row.{Row}
use Rattle.fine_model.specs.declared.law.Origin.{Origin}
use Rattle.fine_model.specs.History.{Commit}
use Rattle.node_cache.specs.Cache.{Cache}
use Rattle.btree_nodes.specs.Trees.{Holds, Restores, Serves}
use Rattle.txn_draft.specs.Standing.{StandsFor}

-- the buckets in the order of their numbers, and of each whether the open transaction touched it
pub record BucketsValue : Type 0 where
  pub buckets : List Cache
  pub touched : List Bool

-- P of each bucket and its place
abbrev pub EachBucket : (ℕ → Cache → Type 0) → BucketsValue → Type 0
EachBucket P v = (k : ℕ) (b : Cache) → slice_get v.buckets k ≡ Some b → P k b

-- P of each bucket before and behind, by its place; none is lost
abbrev pub EachPair : (ℕ → Cache → Cache → Type 0) → BucketsValue → BucketsValue → Type 0
EachPair P old new = (k : ℕ) (b : Cache) → slice_get old.buckets k ≡ Some b → (b' : Cache) × (slice_get new.buckets k ≡ Some b') × P k b b'

-- there are 256, each at the place of its number, and of each it is known whether it was touched
pub record AreBuckets (v : BucketsValue) : Type 0 where
  pub many : length v.buckets ≡ 256
  pub flags : length v.touched ≡ 256
  pub numbered : EachBucket (λ k b. b.bucket ≡ k) v

-- a bucket that caches nothing
abbrev pub new_bucket : ℕ → Cache
new_bucket k = record { bucket = k; nodes = []; saved = [] }

-- buckets that cache nothing
abbrev pub AreNew : BucketsValue → Type 0
AreNew v = EachBucket (λ k c. c ≡ new_bucket k) v

-- no bucket is touched
abbrev pub none_touched : List Bool
none_touched = replicate 256 false

-- Between transactions: each bucket stands for the history, while an epoch is published, and none is touched.
pub record StandAll (log : Origin) (published : ℕ) (v : BucketsValue) (history : List Commit) : Type 0 where
  pub many : length v.buckets ≡ 256
  pub untouched : v.touched ≡ none_touched
  pub each : EachBucket (λ k b. StandsFor log k published b history) v

-- each bucket holds what rows, and then a transaction's, leave
abbrev pub HoldAll : List Row → List Row → BucketsValue → Type 0
HoldAll rows log v = EachBucket (λ k b. Holds b rows log) v

-- undoing each bucket restores what rows leave
abbrev pub RestoreAll : List Row → BucketsValue → Type 0
RestoreAll rows v = EachBucket (λ k b. Restores b rows) v

-- a source serves each bucket
abbrev pub ServeAll : (List Row → Type 0) → List Row → BucketsValue → Type 0
ServeAll tells rows v = EachBucket (λ k b. Serves tells b rows) v
