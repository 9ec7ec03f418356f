-- What setting a pair pushes below a node, and what it leaves there.
use Rattle.std.proofs.Common.{◌≡◌, ◌⊎◌, ℕ, ◌<◌, ◌≤◌, IsTrue, List, ◌++◌, Some, None}
use Rattle.std.specs.Prelude.{Option}
use Rattle.std.specs.List.{AllByRecursion}
use Rattle.fine_model.specs.Types.{Row}
use Rattle.fine_model.specs.Nodes.{Content}
use Rattle.fine_model.specs.Trees.{Bounds, nodes_of, reached}
use Rattle.fine_model.specs.Pushed.{Growth}
use Rattle.fine_model.specs.Laws.{is_small}
use Rattle.fine_model.proofs.Trees.Buckets.{AreOfBucket}
use Rattle.fine_model.proofs.Ordered.Times.{times}
use Rattle.fine_model.proofs.Trees.Grown.{GrownWhole, GrownSplit}

module _ (bucket : ℕ) (old : ℕ → Content) (key value : List ℕ) (next height : ℕ) (bounds : Bounds) (number : ℕ) where
  -- the subtree has the pair set, alone or split
  abbrev pub GrownAs : (ℕ → Content) → ℕ → Option (List ℕ × ℕ) → Type 0
  GrownAs new hi None = GrownWhole bucket old new key value next hi height bounds number
  GrownAs new hi (Some split) = GrownSplit bucket old new key value next hi height bounds number split.0 split.1

  -- besides, no node changes but those of the subtree and new ones
  pub record GrowsIn (new : ℕ → Content) (hi : ℕ) (split : Option (List ℕ × ℕ)) : Type 0 where
    pub outcome : GrownAs new hi split
    pub others : (n : ℕ) → times n (reached height old number) ≡ 0 → (n < next) ⊎ (hi ≤ n) → new n ≡ old n

-- what a growth leaves behind rows
pub record Grows (rows : List Row) (bucket : ℕ) (key value : List ℕ) (next height : ℕ) (bounds : Bounds) (number : ℕ) (g : Growth) : Type 0 where
  pub grown : GrowsIn bucket (nodes_of rows bucket) key value next height bounds number (nodes_of (rows ++ g.rows) bucket) g.next g.split
  pub ordered : next ≤ g.next
  pub of_bucket : AreOfBucket bucket g.rows
  pub small : AllByRecursion (λ row. IsTrue (is_small row.rec)) g.rows
