-- Of which cached leaves it is known that all their keys are of the bucket.
use Rattle.std.specs.Prelude.{◌≡◌, ℕ, ◌-◌, ◌==◌, nat_eq, nat_lt, if◌then◌else◌, Bool, true, false, List, get_or, IfSome}
use Rattle.std.specs.List.{list_all}
use Rattle.std.specs.Map.{lookup}
use Rattle.fine_model.specs.declared.Node.{Node}
use Rattle.fine_model.specs.Trees.{bucket_of, pairs_of}
use Rattle.node_cache.specs.declared.cached.Cached.{Cached}
use Rattle.node_cache.specs.declared.saved.Saved.{Saved}
use Rattle.node_cache.specs.Saves.{saved_in, IsOnce}
use Rattle.node_cache.specs.Originals.{IsKept}
use Rattle.node_cache.specs.declared.marks.Marks.{Marks}

abbrev pub is_marked : Marks → ℕ → Bool
is_marked m n = if nat_lt n 64 then get_or m.near n false else get_or m.far.items (n - 64) false

-- all keys of a leaf are of a bucket; a node that is no leaf has none
abbrev pub HasOwnKeys : ℕ → Node → Type 0
HasOwnKeys bucket n = list_all (λ p. bucket_of p.0 == bucket) (pairs_of n) ≡ true

-- each node that is cached of a marked number has keys of the bucket alone
pub record AreMarked (bucket : ℕ) (m : Marks) (nodes : List (ℕ × Cached)) : Type 0 where
  pub each : (n : ℕ) → is_marked m n ≡ true → IfSome (lookup (nat_eq n) nodes) (λ kept. HasOwnKeys bucket kept.node)

-- what holds of each bucket inside
pub record IsInside (bucket : ℕ) (nodes : List (ℕ × Cached)) (saved : Saved) (m : Marks) : Type 0 where
  pub kept : IsKept nodes (saved_in saved)
  pub once : IsOnce saved
  pub marked : AreMarked bucket m nodes
