-- What a descent answers.
use Rattle.std.specs.Prelude.{◌≡◌, ℕ, List, Some, None, Result, Ok, Err}
use Rattle.fine_model.specs.declared.FetchFault.{FetchFault}
use Rattle.fine_model.specs.Paths.{unfit_from}
use Rattle.fine_model.specs.Pushed.{leaf_for}
use Rattle.fine_model.specs.Trees.{Bounds}
use Rattle.node_cache.specs.Cache.{Cache}
use Rattle.btree_nodes.specs.declared.fault.TreeFault.{TreeFault}
use Rattle.btree_nodes.specs.Faults.{OnFault}
use Rattle.node_cache.specs.Given.{given, IsCached}

-- by what a bucket gives, all nodes on the way from a number are fit, and this leaf stands at its end
pub record IsWay (b : Cache) (height next : ℕ) (key : List ℕ) (bounds : Bounds) (number leaf : ℕ) : Type 0 where
  pub fit : unfit_from height b.bucket (given b) next key bounds number ≡ None
  pub ends : leaf ≡ leaf_for height (given b) key number
  pub there : IsCached b leaf

-- by what a bucket gives, this is the first node on the way that is not fit
pub record IsUnfit (b : Cache) (height next : ℕ) (key : List ℕ) (bounds : Bounds) (number bucket unfit : ℕ) : Type 0 where
  pub of_bucket : bucket ≡ b.bucket
  pub first : unfit_from height b.bucket (given b) next key bounds number ≡ Some unfit
  pub there : IsCached b unfit

-- the answer of a descent from a number
abbrev pub Descends : Cache → ℕ → ℕ → List ℕ → Bounds → ℕ → (FetchFault → Type 0) → Result ℕ TreeFault → Type 0
Descends b height next key bounds number Failed (Ok leaf) = IsWay b height next key bounds number leaf
Descends b height next key bounds number Failed (Err fault) =
    OnFault fault Failed (λ id. IsUnfit b height next key bounds number id.bucket id.number) ⊥
