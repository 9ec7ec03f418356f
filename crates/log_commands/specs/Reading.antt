-- What reading all pairs of a source of nodes finds.
use Rattle.std.specs.Prelude.{◌≡◌, ◌⊎◌, ℕ, ◌+◌, ◌<◌, ◌≤◌, List, [], ◌++◌, length, flat_map, replicate, None, Some, Result, Ok, Err}
use Rattle.std.specs.List.{AllByRecursion, range_with_len}
use Rattle.fine_model.specs.declared.FetchFault.{FetchFault}
use Rattle.fine_model.specs.declared.Node.{Node}
use Rattle.fine_model.specs.declared.Node.TheVariants as node
use Rattle.fine_model.specs.declared.NodeId.{NodeId}
use Rattle.fine_model.specs.declared.Row.{Row}
use Rattle.fine_model.specs.Map.{Pair, from_pairs}
use Rattle.fine_model.specs.Nodes.{Content}
use Rattle.fine_model.specs.Paths.{unfit_between}
use Rattle.fine_model.specs.RowBytes.{buckets, most_in_key}
use Rattle.fine_model.specs.ScanLaws.{AreBytes, KeysAscend}
use Rattle.fine_model.specs.Trees.{IsSound, bucket_of, map_of, nodes_of, pairs_from}
use Rattle.node_cache.specs.Given.{Finds}
use Rattle.btree_nodes.specs.declared.fault.TreeFault.{TreeFault}
use Rattle.btree_nodes.specs.Faults.{OnFault}

-- one more than the most pairs that are read
abbrev pub most_pairs : ℕ
most_pairs = 4294967295

-- bytes that stand behind every key
abbrev pub behind_keys : List ℕ
behind_keys = replicate (most_in_key + 1) 255

-- ---- the bytes of keys

-- the keys and separators of a node are of bytes
abbrev pub HasByteKeys : Node → Type 0
HasByteKeys (node.Leaf pairs) = AllByRecursion (λ p. AreBytes p.0) pairs
HasByteKeys (node.Inner seps kids) = AllByRecursion AreBytes seps
HasByteKeys _ = Unit {0}

-- the next unused number of a head; 0 of any other node
abbrev pub next_of : Node → ℕ
next_of (node.Head root next depth) = next
next_of _ = 0

-- ---- what is found

-- A content that is found in a node, and that each list of rows which is told leaves there; or nothing was found, which counts as broken.
abbrev pub IsGiven : (List Row → Type 0) → Finds → ℕ → ℕ → Content → Type 0
IsGiven tells finds bucket number content =
    (finds (record { bucket = bucket; number = number }) content × ((rows : List Row) → tells rows → content ≡ nodes_of rows bucket number)) ⊎ (content ≡ (node.Broken, 0))

-- The pairs of all trees, in the order of their keys. A scan of all keys meets no node of theirs unfit, and wants more pairs than there are; and of rows that
-- are told they are the map.
pub record FindsAll (tells : List Row → Type 0) (finds : Finds) (pairs : List Pair) : Type 0 where
  pub nodes : ℕ → ℕ → Content
  pub each : (bucket number : ℕ) → IsGiven tells finds bucket number (nodes bucket number)
  pub few : length pairs < most_pairs
  pub fit : (bucket : ℕ) → bucket < buckets → unfit_between bucket (nodes bucket) [] behind_keys most_pairs (nodes bucket 0).0 ≡ None
  pub are : pairs ≡ from_pairs (flat_map (λ bucket. pairs_from (nodes bucket) (nodes bucket 0).0) (range_with_len 0 buckets))
  pub map : (rows : List Row) → tells rows → pairs ≡ map_of rows

-- A node that is found, and that a scan of all keys meets unfit first, over nodes of its bucket that are found: no sound rows are told.
pub record MeetsUnfit (tells : List Row → Type 0) (finds : Finds) (id : NodeId) : Type 0 where
  pub in_bucket : id.bucket < buckets
  pub nodes : ℕ → Content
  pub each : (number : ℕ) → IsGiven tells finds id.bucket number (nodes number)
  pub itself : finds id (nodes id.number)
  pub unfit : unfit_between id.bucket nodes [] behind_keys most_pairs (nodes 0).0 ≡ Some id.number
  pub none_sound : (rows : List Row) → tells rows → IsSound rows → ⊥

-- what reading all pairs answers; `Failed` is what a fault of the source says
abbrev pub ReadsAll : (List Row → Type 0) → Finds → (FetchFault → Type 0) → Result (List Pair) TreeFault → Type 0
ReadsAll tells finds Failed (Ok pairs) = FindsAll tells finds pairs
ReadsAll tells finds Failed (Err fault) = OnFault fault Failed (MeetsUnfit tells finds) (Unit {0})

-- ---- bucket by bucket

-- The pairs of one bucket's tree: its nodes are found, a scan of all keys meets none unfit, and their keys ascend and are of this bucket.
pub record FindsTree (tells : List Row → Type 0) (finds : Finds) (bucket : ℕ) (nodes : ℕ → Content) : Type 0 where
  pub each : (number : ℕ) → IsGiven tells finds bucket number (nodes number)
  pub fit : unfit_between bucket nodes [] behind_keys most_pairs (nodes 0).0 ≡ None
  pub ascends : KeysAscend (pairs_from nodes (nodes 0).0)
  pub of_bucket : AllByRecursion (λ p. bucket_of p.0 ≡ bucket) (pairs_from nodes (nodes 0).0)
  pub same : (rows : List Row) → tells rows → pairs_from nodes (nodes 0).0 ≡ pairs_from (nodes_of rows bucket) (nodes_of rows bucket 0).0

-- the pairs of the trees of the buckets below a number, bucket by bucket
pub record Gathers (tells : List Row → Type 0) (finds : Finds) (next : ℕ) (pairs : List Pair) : Type 0 where
  pub nodes : ℕ → ℕ → Content
  pub each : (bucket : ℕ) → bucket < next → FindsTree tells finds bucket (nodes bucket)
  pub others : (bucket number : ℕ) → next ≤ bucket → nodes bucket number ≡ (node.Broken, 0)
  pub are : pairs ≡ flat_map (λ bucket. pairs_from (nodes bucket) (nodes bucket 0).0) (range_with_len 0 next)
  pub few : length pairs < most_pairs

-- the pairs of a bucket were put behind those of the buckets below it
pub record GathersOne (tells : List Row → Type 0) (finds : Finds) (bucket : ℕ) (old new : List Pair) : Type 0 where
  pub nodes : ℕ → Content
  pub tree : FindsTree tells finds bucket nodes
  pub behind : new ≡ old ++ pairs_from nodes (nodes 0).0
  pub few : length new < most_pairs
