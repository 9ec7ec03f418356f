-- What calls that push rows do to a bucket.
use Rattle.std.specs.Prelude.{◌≡◌, ◌≢◌, ◌≤◌, ◌⊎◌, ℕ, nat_eq, ◌==◌, Bool, true, ◌||◌, List, [], ◌∷◌, ◌++◌, None, is_some}
use Rattle.std.specs.Map.{keys_of}
use Rattle.std.specs.List.{AllByRecursion, list_all, list_any}
use Rattle.fine_model.specs.declared.Rec.{Rec}
use Rattle.fine_model.specs.declared.Rec.TheVariants as rec
use Rattle.fine_model.specs.declared.Row.{Row}
use Rattle.fine_model.specs.Merge.{is_image}
use Rattle.fine_model.specs.RowBytes.{FitsRec, greatest}
use Rattle.fine_model.specs.Trees.{bucket_of}
use Rattle.fine_model.specs.Nodes.{Content, replay, step, rows_of}
use Rattle.node_cache.specs.declared.cached.Cached.{Cached}
use Rattle.node_cache.specs.Cache.{Cache, cached, original, before, rewritten, IsSaved}
use Rattle.node_cache.specs.Given.{given, IsCached}
use Rattle.btree_nodes.specs.Trees.{node_at}

-- the numbers that are cached stay in their order, and those that were added stand behind
pub record Adds (old new : Cache) : Type 0 where
  pub added : List ℕ
  pub is : keys_of new.nodes ≡ keys_of old.nodes ++ added

-- Each node that was changed or added was saved, no original is lost, what would be restored is the same, and the order of last use
-- stays, with what was added as the last used.
pub record Saves (old new : Cache) : Type 0 where
  pub bucket : new.bucket ≡ old.bucket
  pub originals : (n : ℕ) → IsSaved old n → original new n ≡ original old n
  pub before : (n : ℕ) → before new n ≡ before old n
  pub changed : (n : ℕ) → IsSaved new n ⊎ (cached new n ≡ cached old n)
  pub order : Adds old new

-- one node is what a row makes of it, in its place
pub record IsChanged (old new : Cache) (row : Row) : Type 0 where
  pub kept : Cached
  pub is : new ≡ rewritten old row.node.number kept
  pub same : (kept.node, kept.version) ≡ step (given old row.node.number) row

-- a row names a number
abbrev pub is_named : ℕ → List Row → Bool
is_named n rows = list_any (λ row. nat_eq row.node.number n) rows

-- Rows were pushed: each node is what they make of it, and each that they name is saved and cached, and those that they make anew are
-- made by images. A node is saved exactly where it was before or a row names it.
pub record Pushes (old new : Cache) (rows : List Row) : Type 0 where
  pub saves : Saves old new
  pub saved : (n : ℕ) → is_some (original new n) ≡ (is_some (original old n) || is_named n rows)
  pub nodes : (n : ℕ) → given new n ≡ replay (given old n) (rows_of (node_at old n) rows)
  pub kept : (n : ℕ) → IsCached old n → IsCached new n
  pub named : AllByRecursion (λ row. IsSaved new row.node.number × IsCached new row.node.number) rows
  pub others : (n : ℕ) → cached new n ≡ None → rows_of (node_at old n) rows ≡ []
  pub added : (n : ℕ) → cached old n ≡ None → IsCached new n → (c d : Content) → replay c (rows_of (node_at old n) rows) ≡ replay d (rows_of (node_at old n) rows)

-- a node's place is held: it is cached, and what the bucket gives is the same
pub record HoldsPlace (old new : Cache) (number : ℕ) : Type 0 where
  pub there : IsCached new number
  pub given : (n : ℕ) → given new n ≡ given old n
  pub others : (n : ℕ) → n ≢ number → cached new n ≡ cached old n
  pub saves : Saves old new
  pub saved : ((n : ℕ) → is_some (original new n) ≡ is_some (original old n)) ⊎ ((n : ℕ) → is_some (original new n) ≡ (is_some (original old n) || nat_eq number n))

-- a row of a cached node, within the format's bounds
pub record IsRowOf (b : Cache) (row : Row) : Type 0 where
  pub of_bucket : row.node.bucket ≡ b.bucket
  pub there : IsCached b row.node.number
  pub rec : FitsRec row.rec
  pub version : row.version ≤ greatest

-- an image of a leaf, or a change of its pairs, that brings no key but those of a bucket
abbrev pub IsOwnChange : ℕ → Rec → Type 0
IsOwnChange bucket (rec.Put key value) = bucket ≡ bucket_of key
IsOwnChange bucket (rec.Del key) = bucket ≡ bucket_of key
IsOwnChange bucket (rec.Plus key by) = bucket ≡ bucket_of key
IsOwnChange bucket (rec.CutLeaf key) = Unit {0}
IsOwnChange bucket (rec.LeafImage pairs) = list_all (λ p. bucket_of p.0 == bucket) pairs ≡ true
IsOwnChange bucket _ = ⊥

-- a row is of a node that is there, or makes it
abbrev pub IsReady : (ℕ → Type 0) → Row → Type 0
IsReady There row = There row.node.number ⊎ (is_image row.rec ≡ true)

-- each row is of a node that is there, or that it or an earlier one makes
abbrev pub AreReady : (ℕ → Type 0) → List Row → Type 0
AreReady There [] = Unit {0}
AreReady There (row ∷ rows) = IsReady There row × AreReady (λ n. There n ⊎ (n ≡ row.node.number)) rows
