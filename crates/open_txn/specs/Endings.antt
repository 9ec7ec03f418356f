-- The end of a transaction, bucket by bucket.
use Rattle.std.specs.Prelude.{◌≡◌, ℕ, Bool, true, if◌then◌else◌, List, length, slice_get, Some}
use Rattle.node_cache.specs.Cache.{Cache}

-- The buckets that are touched are made into others, and of each of these more is known; all others stay.
pub record EndEach (f : Cache → Cache) (Left : Cache → Cache → Type 0) (touched : List Bool) (old new : List Cache) : Type 0 where
  pub many : length new ≡ length old
  pub each : (k : ℕ) (b : Cache) (t : Bool) → slice_get old k ≡ Some b → slice_get touched k ≡ Some t → slice_get new k ≡ Some (if t then f b else b)
  pub left : (k : ℕ) (b : Cache) → slice_get old k ≡ Some b → slice_get touched k ≡ Some true → Left b (f b)
