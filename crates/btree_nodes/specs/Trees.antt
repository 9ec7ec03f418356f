-- What a bucket holds of a tree, what a source serves, and which nodes lie on a way.
use Rattle.std.specs.Prelude.{◌≡◌, ◌≢◌, ℕ, zero, suc, ◌-◌, ◌<◌, ◌≤◌, nat_eq, nat_lt, if◌then◌else◌, List, [], ◌∷◌, ◌++◌, find, Option, Some, None, option_map, IfSome, Contains}
use Rattle.std.specs.List.{AllByRecursion}
use Rattle.std.specs.Map.{keys_of}
use Rattle.fine_model.specs.declared.NodeId.{NodeId}
use Rattle.fine_model.specs.declared.Node.{Node}
use Rattle.fine_model.specs.declared.Node.TheVariants as node
use Rattle.fine_model.specs.declared.Mark.TheVariants as mark
use Rattle.fine_model.specs.declared.Row.{Row}
use Rattle.fine_model.specs.Map.{Pair, between}
use Rattle.fine_model.specs.Nodes.{Content, rows_of}
use Rattle.fine_model.specs.Paths.{place_among, kid_at, seps_of, meets, unfit_under}
use Rattle.fine_model.specs.Pushed.{leaf_for, pairs_beside}
use Rattle.fine_model.specs.RowBytes.{greatest, FitsRow, greatest_depth, node_numbers}
use Rattle.fine_model.specs.Trees.{Bounds, whole, bucket_of, kids_of, pairs_of, nodes_of}
use Rattle.node_cache.specs.Cache.{Cache, cached, before}
use Rattle.node_cache.specs.Given.{given, IsCached}
use Rattle.btree_nodes.specs.declared.tree.Path.{Path}

-- a node of a bucket
abbrev pub node_at : Cache → ℕ → NodeId
node_at b n = record { bucket = b.bucket; number = n }

-- ---- rows and a bucket

-- Of each node that is not cached, a source tells what rows leave there, unless they leave it broken.
pub record Serves (tells : List Row → Type 0) (b : Cache) (rows : List Row) : Type 0 where
  pub known : List Row
  pub is_told : tells known
  pub each : (n : ℕ) → cached b n ≡ None → (nodes_of rows b.bucket n).0 ≢ node.Broken → nodes_of known b.bucket n ≡ nodes_of rows b.bucket n

-- each node, once what was saved is restored, is what rows leave
pub record Restores (b : Cache) (rows : List Row) : Type 0 where
  pub each : (n : ℕ) → IfSome (before b n) (λ kept. (kept.node, kept.version) ≡ nodes_of rows b.bucket n)

-- The bucket holds what rows, and then a transaction's, leave, broken nodes included; and no row of the transaction is of a node
-- that is not cached.
pub record Holds (b : Cache) (rows log : List Row) : Type 0 where
  pub same : (n : ℕ) → IsCached b n → given b n ≡ nodes_of (rows ++ log) b.bucket n
  pub others : (n : ℕ) → cached b n ≡ None → rows_of (node_at b n) log ≡ []
  pub restores : Restores b rows

-- ---- ways

-- the numbers on the way to a key, from a number down
unfoldable pub way : ℕ → (ℕ → Content) → List ℕ → ℕ → List ℕ
way zero nodes key number = number ∷ []
way (suc height) nodes key number = number ∷ way height nodes key (kid_at (nodes number).0 (place_among key (seps_of (nodes number).0)))

-- and from a head down
abbrev pub way_from : (ℕ → Content) → List ℕ → Node → List ℕ
way_from nodes key (node.Head root next depth) = 0 ∷ way (depth - 1) nodes key root
way_from nodes key _ = 0 ∷ []

-- the way to a key, by what a bucket gives
abbrev pub way_in : Cache → List ℕ → List ℕ
way_in b key = way_from (given b) key (given b 0).0

-- without the first that is this number
abbrev pub without : ℕ → List ℕ → List ℕ
without n [] = []
without n (k ∷ ks) = if nat_eq n k then ks else k ∷ without n ks

-- each of some numbers is put behind all others, one after the other
abbrev pub last_used : List ℕ → List ℕ → List ℕ
last_used ks [] = ks
last_used ks (n ∷ ns) = last_used (without n ks ++ n ∷ []) ns

-- these numbers are cached as the last used, in their order, and the others stay in theirs
abbrev pub AreUsed : Cache → Cache → List ℕ → Type 0
AreUsed old new numbers = keys_of new.nodes ≡ last_used (keys_of old.nodes) numbers

-- what is met of the children of a node that hold keys of a range, from left to right
abbrev pub kids_met : {A : Type 0} → (Bounds → ℕ → List A) → List ℕ → List ℕ → Bounds → List (List ℕ) → List ℕ → List A
kids_met below low high bounds seps [] = []
kids_met below low high bounds [] (kid ∷ kids) = if meets low high bounds then below bounds kid else []
kids_met below low high bounds (sep ∷ seps) (kid ∷ kids) =
    (if meets low high (record { low = bounds.low; high = Some sep }) then below (record { low = bounds.low; high = Some sep }) kid else [])
    ++ kids_met below low high (record { low = Some sep; high = bounds.high }) seps kids

-- the pairs of the leaves that are reached from a number through children which hold keys of a range
unfoldable pub pairs_met : ℕ → (ℕ → Content) → List ℕ → List ℕ → Bounds → ℕ → List Pair
pairs_met zero nodes low high bounds number = pairs_of (nodes number).0
pairs_met (suc height) nodes low high bounds number =
    kids_met (pairs_met height nodes low high) low high bounds (seps_of (nodes number).0) (kids_of (nodes number).0)

-- the pairs of a range, from a head down
unfoldable pub pairs_between : (ℕ → Content) → List ℕ → List ℕ → Node → List Pair
pairs_between nodes low high (node.Head root next depth) = between low high (pairs_met (depth - 1) nodes low high whole root)
pairs_between nodes low high _ = []

-- what was loaded is among some numbers
pub record LoadsAmong (old new : Cache) (numbers : List ℕ) : Type 0 where
  pub each : (n : ℕ) → cached old n ≡ None → IsCached new n → Contains numbers n

-- what was loaded lies on the way to a key
abbrev pub LoadsOnWay : Cache → Cache → List ℕ → Type 0
LoadsOnWay old new key = LoadsAmong old new (way_in new key)

-- ---- rows

-- pushed rows are within the format's bounds, and of this bucket
pub record FitsLog (bucket : ℕ) (rows : List Row) : Type 0 where
  pub fit : AllByRecursion (FitsRow mark.Two) rows
  pub here : AllByRecursion (λ row. row.node.bucket ≡ bucket) rows

-- what a head says of the next unused number and the depth
abbrev pub HeadSays : Node → ℕ → ℕ → Type 0
HeadSays (node.Head root next depth) n d = (n ≡ next) × (d ≡ depth)
HeadSays _ n d = ⊥

-- the node of the first row whose version would pass the limit
abbrev pub first_over : List Row → Option NodeId
first_over rows = option_map (λ row. row.node) (find (λ row. nat_lt greatest row.version) rows)

-- ---- a way that was gone

-- the first node on a key's way from the head down that is not fit, by what the bucket gives
abbrev pub unfit_in : Cache → List ℕ → Option ℕ
unfit_in b key = unfit_under b.bucket (given b) key (given b 0).0

-- the pairs of the leaf in which a key belongs, by what the bucket gives
abbrev pub pairs_in : Cache → List ℕ → List Pair
pairs_in b key = pairs_beside (given b) key (given b 0).0

-- what a head says, where its root is below next; nothing is said of any other node
abbrev pub HeadIs : Node → Option (ℕ × ℕ × ℕ) → Type 0
HeadIs (node.Head root next depth) (Some h) = (h ≡ (root, next, depth)) × (root < next) × (1 ≤ depth) × (depth ≤ greatest_depth) × (next ≤ node_numbers)
HeadIs (node.Head root next depth) None = next ≤ root
HeadIs _ (Some h) = ⊥
HeadIs _ None = Unit {0}

-- a way from the head down to the leaf in which a key of the bucket belongs, with all nodes on it fit
pub record IsPath (b : Cache) (key : List ℕ) (path : Path) : Type 0 where
  pub of_key : b.bucket ≡ bucket_of key
  pub here : IsCached b 0
  pub head : (given b 0).0 ≡ node.Head path.root path.next path.depth
  pub below : path.root < path.next
  pub deep : (1 ≤ path.depth) × (path.depth ≤ greatest_depth)
  pub small : path.next ≤ node_numbers
  pub fit : unfit_in b key ≡ None
  pub leaf : path.leaf ≡ leaf_for (path.depth - 1) (given b) key path.root
  pub there : IsCached b path.leaf
