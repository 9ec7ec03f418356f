-- Counts of faults, which never fall.
use Rattle.std.specs.Prelude.{◌≡◌, ℕ, ◌+◌, ◌≤◌, min}

-- the greatest number of 64 bits, at which a counter stands still
abbrev pub last_count : ℕ
last_count = 18446744073709551615

-- a counter has risen; at its last value it counts as risen
abbrev pub HasRisen : ℕ → ℕ → Type 0
HasRisen before now = min (before + 1) last_count ≤ now

-- The count of a call's object: it rises where the call failed, and else stands still.
pub record CountsFault (failed : Type 0) (before now : ℕ) : Type 0 where
  pub rises : failed → HasRisen before now
  pub no_lower : before ≤ now
  pub else_same : (failed → ⊥) → now ≡ before
