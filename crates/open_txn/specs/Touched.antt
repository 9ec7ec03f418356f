-- Flags of buckets, with the numbers of those that are set.
use Rattle.std.specs.Prelude.{◌≡◌, ℕ, ◌+◌, ◌<◌, ◌≤◌, Bool, true, false, cond, List, [], ◌∷◌, length, Option, Some, None, slice_get, slice_set}
use Rattle.fine_model.proofs.Ordered.Times.{times}

-- 1 for a flag that is set
unfoldable pub here : Option Bool → ℕ
here None = 0
here (Some flag) = cond flag 1 0

unfoldable pub number_set : List Bool → ℕ
number_set [] = 0
number_set (flag ∷ flags) = cond flag 1 0 + number_set flags

-- There are 256 flags. The list has the number of each that is set once, and no other, and room for all.
pub record AreNumbered (flags : List Bool) (numbers : List ℕ) (room : ℕ) : Type 0 where
  pub all : length flags ≡ 256
  pub once : (k : ℕ) → times k numbers ≡ here (slice_get flags k)
  pub as_many : length numbers ≡ number_set flags
  pub reserved : 256 ≤ room

-- a flag was set, and is cleared; all others are as they were
pub record Clears (flags flags' : List Bool) (k : ℕ) : Type 0 where
  pub within : k < length flags
  pub was : slice_get flags k ≡ Some true
  pub cleared : flags' ≡ slice_set flags k false
  pub fewer : number_set flags' < number_set flags
