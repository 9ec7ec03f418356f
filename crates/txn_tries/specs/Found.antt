-- What a scan finds, be the log sound or not.
use Rattle.std.specs.Prelude.{All, ◌≡◌, ◌<◌, ◌≤◌, ◌&&◌, not, ℕ, Bool, true, List}
use Rattle.std.specs.List.{AllByRecursion}
use Rattle.fine_model.specs.Map.{Pair, is_below}
use Rattle.fine_model.specs.ScanLaws.{times_of}
use Rattle.fine_model.specs.Trees.{bucket_of}

-- a key is in a range
abbrev pub is_inside : List ℕ → List ℕ → Pair → Bool
is_inside low high p = not (is_below p.0 low) && is_below p.0 high

-- The pairs that a scan found in the buckets below a number, on every disk: of its range, of these buckets, and no key twice.
pub record AreFound (low high : List ℕ) (next : ℕ) (pairs : List Pair) : Type 0 where
  pub inside : All (λ p. is_inside low high p ≡ true) pairs
  pub of_buckets : AllByRecursion (λ p. bucket_of p.0 < next) pairs
  pub once : (key : List ℕ) → times_of key pairs ≤ 1
