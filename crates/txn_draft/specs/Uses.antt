-- What was done to a bucket since a transaction took it, whatever is told.
use Rattle.std.specs.Prelude.{◌≡◌, ℕ, ◌≤◌, List, None, IfSome, Result, Ok, Err}
use Rattle.std.specs.List.{AllByRecursion}
use Rattle.fine_model.specs.declared.Row.{Row}
use Rattle.node_cache.specs.Cache.{Cache, cached, before, IsSaved}
use Rattle.node_cache.specs.Given.{Finds, IsCached, IsLoaded}
use Rattle.btree_nodes.specs.declared.fault.TreeFault.{TreeFault}
use Rattle.btree_nodes.specs.declared.fault.TreeFault.TheVariants.{NoMemory}

-- What was cached when the bucket was taken is what undoing restores; every other node that it leaves was loaded from a source whose
-- upper epoch is low or later.
pub record Undoes (low : ℕ) (taken now : Cache) : Type 0 where
  pub bucket : now.bucket ≡ taken.bucket
  pub stays : (n : ℕ) → IsCached taken n → before now n ≡ cached taken n
  pub loaded : (n : ℕ) → cached taken n ≡ None → IfSome (before now n) (λ kept. low ≤ kept.epoch)

-- besides, what was cached still is, and each node on which the transaction has a row is cached and was saved
pub record IsUsed (low : ℕ) (taken now : Cache) (rows : List Row) : Type 0 where
  pub undoes : Undoes low taken now
  pub there : (n : ℕ) → IsCached taken n → IsCached now n
  pub named : AllByRecursion (λ row. row.node.bucket ≡ now.bucket → IsSaved now row.node.number × IsCached now row.node.number) rows

-- what an answer leaves so: after want of memory only what undoing leaves is known
abbrev pub UsedAfter : {A : Type 0} → ℕ → Cache → Cache → List Row → Result A TreeFault → Type 0
UsedAfter low taken now rows (Err NoMemory) = Undoes low taken now
UsedAfter low taken now rows _ = IsUsed low taken now rows

-- a refusal, want of memory apart, leaves all nodes as they were, but for those that were loaded
abbrev pub OnlyLoads : {A : Type 0} → (List Row → Type 0) → Finds → ℕ → Cache → Cache → Result A TreeFault → Type 0
OnlyLoads tells finds upper old new (Ok done) = Unit {0}
OnlyLoads tells finds upper old new (Err NoMemory) = Unit {0}
OnlyLoads tells finds upper old new (Err _) = IsLoaded tells finds upper old new

-- with every answer but want of memory
abbrev pub OnKept : {A : Type 0} → Result A TreeFault → Type 0 → Type 0
OnKept (Err NoMemory) P = Unit {0}
OnKept _ P = P
