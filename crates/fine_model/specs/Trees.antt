-- The trees of the buckets, and the map in their leaves.
use Rattle.std.specs.Prelude.{◌≡◌, ℕ, zero, suc, ◌+◌, ◌-◌, ◌*◌, ◌%◌, ◌<◌, ◌≤◌, ◌==◌, Bool, true, false, not, ◌&&◌, IsTrue, nat_eq, List, [], ◌∷◌, map, fold, flat_map, Option, Some, None}
use Rattle.std.specs.List.{AllByRecursion, range_with_len, list_any, list_all}
use Rattle.fine_model.specs.Types.{Row, Node}
use Rattle.fine_model.specs.Types.node
use Rattle.fine_model.specs.Map.{Pair, is_below, is_ascending, from_pairs}
use Rattle.fine_model.specs.Nodes.{Content, content}
use Rattle.fine_model.specs.RowBytes.{buckets}

-- the bucket of a key
unfoldable pub bucket_of : List ℕ → ℕ
bucket_of key = fold (λ h byte. (31 * h + byte) % 4294967296) 0 key % buckets

-- a key lies at a bound or above it, and below a bound; no bound holds back nothing
abbrev pub is_from : Option (List ℕ) → List ℕ → Bool
is_from None key = true
is_from (Some low) key = not (is_below key low)

-- a key lies above a low bound
abbrev pub is_above : Option (List ℕ) → List ℕ → Bool
is_above None key = true
is_above (Some low) key = is_below low key

-- a key lies below a high bound
abbrev pub is_up_to : Option (List ℕ) → List ℕ → Bool
is_up_to None key = true
is_up_to (Some high) key = is_below key high

-- the bounds of a subtree's keys: the low one is included, the high one is not
pub record Bounds : Type 0 where
  pub low : Option (List ℕ)
  pub high : Option (List ℕ)

-- no bounds
abbrev pub whole : Bounds
whole = record { low = None; high = None }

-- P holds of each child within the separators beside it; there is one child more than separators
unfoldable pub AllBetween : (Bounds → ℕ → Type 0) → Bounds → List (List ℕ) → List ℕ → Type 0
AllBetween P bounds [] [] = ⊥
AllBetween P bounds [] (kid ∷ []) = P bounds kid
AllBetween P bounds [] (kid ∷ kid' ∷ kids) = ⊥
AllBetween P bounds (sep ∷ seps) [] = ⊥
AllBetween P bounds (sep ∷ seps) (kid ∷ kids) =
    P (record { low = bounds.low; high = Some sep }) kid × AllBetween P (record { low = Some sep; high = bounds.high }) seps kids

-- a key lies within bounds and belongs to a bucket
abbrev pub is_key_within : ℕ → Bounds → List ℕ → Bool
is_key_within bucket bounds key = is_from bounds.low key && (is_up_to bounds.high key && (bucket_of key == bucket))

-- a leaf whose keys ascend, lie within the bounds and belong to the bucket
abbrev pub is_leaf : ℕ → Bounds → Node → Bool
is_leaf bucket bounds (node.Leaf pairs) = is_ascending (map (λ p. p.0) pairs) && list_all (λ p. is_key_within bucket bounds p.0) pairs
is_leaf bucket bounds _ = false

-- separators that ascend and lie strictly within the bounds
abbrev pub are_separators : Bounds → List (List ℕ) → Bool
are_separators bounds seps = is_ascending seps && list_all (λ sep. is_above bounds.low sep && is_up_to bounds.high sep) seps

-- an inner node whose separators are in order, and whose children have P within the separators beside them
abbrev pub IsInner : (Bounds → ℕ → Type 0) → Bounds → Node → Type 0
IsInner P bounds (node.Inner seps kids) = IsTrue (are_separators bounds seps) × AllBetween P bounds seps kids
IsInner P bounds _ = ⊥

-- A subtree of some height, of the nodes of a bucket. Its leaves stand at height 0.
unfoldable pub IsSubtree : ℕ → ℕ → (ℕ → Content) → Bounds → ℕ → Type 0
IsSubtree zero bucket nodes bounds number = IsTrue (is_leaf bucket bounds (nodes number).0)
IsSubtree (suc height) bucket nodes bounds number = IsInner (IsSubtree height bucket nodes) bounds (nodes number).0

-- the children of an inner node
abbrev pub kids_of : Node → List ℕ
kids_of (node.Inner seps kids) = kids
kids_of _ = []

-- the pairs of a leaf
abbrev pub pairs_of : Node → List Pair
pairs_of (node.Leaf pairs) = pairs
pairs_of _ = []

-- the numbers that are reached from a number down to height 0
unfoldable pub reached : ℕ → (ℕ → Content) → ℕ → List ℕ
reached zero nodes number = number ∷ []
reached (suc height) nodes number = number ∷ flat_map (reached height nodes) (kids_of (nodes number).0)

-- the pairs of the leaves that are reached, from left to right
unfoldable pub pairs_under : ℕ → (ℕ → Content) → ℕ → List Pair
pairs_under zero nodes number = pairs_of (nodes number).0
pairs_under (suc height) nodes number = flat_map (pairs_under height nodes) (kids_of (nodes number).0)

-- no number stands twice
unfoldable pub is_distinct : List ℕ → Bool
is_distinct [] = true
is_distinct (n ∷ ns) = not (list_any (nat_eq n) ns) && is_distinct ns

-- A bucket's tree as its head says: the root's subtree has the height of the depth, no number is reached twice, every
-- number that is reached is below next, and the nodes from next on are as they began.
pub record IsTree (bucket : ℕ) (nodes : ℕ → Content) (root next depth : ℕ) : Type 0 where
  pub deep : 1 ≤ depth
  pub subtree : IsSubtree (depth - 1) bucket nodes whole root
  pub distinct : IsTrue (is_distinct (reached (depth - 1) nodes root))
  pub below : AllByRecursion (λ number. number < next) (reached (depth - 1) nodes root)
  pub unused : (number : ℕ) → next ≤ number → nodes number ≡ (node.Leaf [], 0)

-- the tree is fit as this head says; no other content is a head
abbrev pub IsFitFrom : ℕ → (ℕ → Content) → Node → Type 0
IsFitFrom bucket nodes (node.Head root next depth) = IsTree bucket nodes root next depth
IsFitFrom bucket nodes _ = ⊥

-- the nodes of a bucket, as rows leave them
abbrev pub nodes_of : List Row → ℕ → ℕ → Content
nodes_of rows bucket number = content rows (record { bucket = bucket; number = number })

-- the tree of a bucket is fit
abbrev pub IsFit : List Row → ℕ → Type 0
IsFit rows bucket = IsFitFrom bucket (nodes_of rows bucket) (nodes_of rows bucket 0).0

-- all trees are fit
pub record IsSound (rows : List Row) : Type 0 where
  pub fit : (bucket : ℕ) → bucket < buckets → IsFit rows bucket

-- the pairs of a tree, as its head says
abbrev pub pairs_from : (ℕ → Content) → Node → List Pair
pairs_from nodes (node.Head root next depth) = pairs_under (depth - 1) nodes root
pairs_from nodes _ = []

-- the numbers that a tree reaches from its head on
abbrev pub numbers_from : (ℕ → Content) → Node → List ℕ
numbers_from nodes (node.Head root next depth) = 0 ∷ reached (depth - 1) nodes root
numbers_from nodes _ = []

-- the numbers that the tree of a bucket reaches, its head among them
unfoldable pub tree_numbers : List Row → ℕ → List ℕ
tree_numbers rows bucket = numbers_from (nodes_of rows bucket) (nodes_of rows bucket 0).0

-- the map of a bucket's tree
unfoldable pub tree_map : List Row → ℕ → List Pair
tree_map rows bucket = pairs_from (nodes_of rows bucket) (nodes_of rows bucket 0).0

-- the map of all trees
unfoldable pub map_of : List Row → List Pair
map_of rows = from_pairs (flat_map (tree_map rows) (range_with_len 0 buckets))
