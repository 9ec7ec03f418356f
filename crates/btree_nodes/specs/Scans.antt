-- What a scan of a tree finds.
use Rattle.std.specs.Prelude.{◌≡◌, ℕ, ◌-◌, List, ◌++◌, take, drop, length, slice_get, Some, Result, Ok, Err}
use Rattle.fine_model.specs.declared.FetchFault.{FetchFault}
use Rattle.fine_model.specs.declared.NodeId.{NodeId}
use Rattle.fine_model.specs.Map.{Pair, between}
use Rattle.fine_model.specs.Nodes.{Content}
use Rattle.fine_model.specs.Paths.{seps_of, scan_kids, scan_from}
use Rattle.fine_model.specs.Trees.{Bounds, kids_of}
use Rattle.node_cache.specs.Cache.{Cache}
use Rattle.btree_nodes.specs.declared.descent.Step.{Step}
use Rattle.btree_nodes.specs.declared.fault.TreeFault.{TreeFault}
use Rattle.btree_nodes.specs.Faults.{OnFault}
use Rattle.node_cache.specs.Given.{given, IsCached}
use Rattle.btree_nodes.specs.Descent.{bound_at, low_of, high_of}
use Rattle.btree_nodes.specs.Trees.{kids_met, pairs_met}
use Rattle.btree_nodes.specs.Walks.{visited_kids, visited_from}

-- a list has more behind
pub record IsLonger (old new : List Pair) : Type 0 where
  pub more : List Pair
  pub is : new ≡ old ++ more

-- the first of these pairs, as many as are wanted, were put behind a list, and so many are wanted still
pub record IsTaken (wanted left : ℕ) (old new pairs : List Pair) : Type 0 where
  pub is : new ≡ old ++ take wanted pairs
  pub rest : left ≡ wanted - length pairs

-- a subtree was scanned, with all nodes on the way fit
pub record IsScanned (b : Cache) (height next : ℕ) (low high : List ℕ) (bounds : Bounds) (number wanted left : ℕ) (old new : List Pair) : Type 0 where
  pub fit : scan_from height b.bucket (given b) next low high bounds number wanted ≡ Ok left
  pub taken : IsTaken wanted left old new (between low high (pairs_met height (given b) low high bounds number))

-- the first node that is not fit on the way of a scan of a subtree
pub record IsUnfitUnder (b : Cache) (height next : ℕ) (low high : List ℕ) (bounds : Bounds) (number wanted : ℕ) (id : NodeId) : Type 0 where
  pub of_bucket : id.bucket ≡ b.bucket
  pub first : scan_from height b.bucket (given b) next low high bounds number wanted ≡ Err id.number
  pub there : IsCached b id.number

-- the answer of a scan of a subtree: how many pairs are wanted still
abbrev pub ScansFrom : Cache → ℕ → ℕ → List ℕ → List ℕ → Bounds → ℕ → ℕ → List Pair → List Pair → (FetchFault → Type 0) → Result ℕ TreeFault → Type 0
ScansFrom b height next low high bounds number wanted old new Failed (Ok left) = IsScanned b height next low high bounds number wanted left old new
ScansFrom b height next low high bounds number wanted old new Failed (Err fault) = OnFault fault Failed (IsUnfitUnder b height next low high bounds number wanted) (Unit {0})

-- the child at a place of a node, with its bounds
pub record IsChildAt (nodes : ℕ → Content) (at : Step) (place : ℕ) (child : Step) : Type 0 where
  pub number : slice_get (kids_of (nodes at.number).0) place ≡ Some child.number
  pub low : child.low ≡ low_of at.number place at.low
  pub high : child.high ≡ high_of at.number place (length (seps_of (nodes at.number).0)) at.high

-- the bounds of the children of a node from a place on
abbrev pub rest_bounds : (ℕ → Content) → Step → ℕ → Bounds
rest_bounds nodes at place = record { low = bound_at nodes (low_of at.number place at.low); high = bound_at nodes at.high }

-- the numbers that a scan of these children visits
abbrev pub visited_of : ℕ → ℕ → (ℕ → Content) → ℕ → List ℕ → List ℕ → Step → ℕ → ℕ → List ℕ
visited_of height bucket nodes next low high at place wanted =
    visited_kids (scan_from height bucket nodes next low high) (visited_from height bucket nodes next low high) low high (rest_bounds nodes at place) (drop place (seps_of (nodes at.number).0)) (drop place (kids_of (nodes at.number).0)) wanted

-- the children of a node were scanned from a place on
pub record AreScanned (b : Cache) (height next : ℕ) (low high : List ℕ) (at : Step) (place wanted left : ℕ) (old new : List Pair) : Type 0 where
  pub fit : scan_kids (scan_from height b.bucket (given b) next low high) low high (rest_bounds (given b) at place) (drop place (seps_of (given b at.number).0)) (drop place (kids_of (given b at.number).0)) wanted ≡ Ok left
  pub taken : IsTaken wanted left old new (between low high (kids_met (pairs_met height (given b) low high) low high (rest_bounds (given b) at place) (drop place (seps_of (given b at.number).0)) (drop place (kids_of (given b at.number).0))))

-- the first node that is not fit on the way of a scan of these children
pub record IsUnfitAmong (b : Cache) (height next : ℕ) (low high : List ℕ) (at : Step) (place wanted : ℕ) (id : NodeId) : Type 0 where
  pub of_bucket : id.bucket ≡ b.bucket
  pub first : scan_kids (scan_from height b.bucket (given b) next low high) low high (rest_bounds (given b) at place) (drop place (seps_of (given b at.number).0)) (drop place (kids_of (given b at.number).0)) wanted ≡ Err id.number
  pub there : IsCached b id.number

-- the answer of a scan of the children of a node from a place on
abbrev pub ScansKids : Cache → ℕ → ℕ → List ℕ → List ℕ → Step → ℕ → ℕ → List Pair → List Pair → (FetchFault → Type 0) → Result ℕ TreeFault → Type 0
ScansKids b height next low high at place wanted old new Failed (Ok left) = AreScanned b height next low high at place wanted left old new
ScansKids b height next low high at place wanted old new Failed (Err fault) = OnFault fault Failed (IsUnfitAmong b height next low high at place wanted) (Unit {0})
