-- What the laws of a scan over all buckets say. Each is the contract of a function of its name.
use Rattle.std.specs.Prelude.{◌≡◌, ℕ, ◌+◌, ◌<◌, ◌≤◌, IsTrue, if◌then◌else◌, List, [], ◌++◌, length, map, replicate, take, flat_map, sum_by, bytes_eq, IsPermutation, IsSortedBy}
use Rattle.std.specs.List.{AllByRecursion, range_with_len}
use Rattle.fine_model.specs.Types.{Row, Mark}
use Rattle.fine_model.specs.Types.call
use Rattle.fine_model.specs.Types.reply
use Rattle.fine_model.specs.RowBytes.{rows_len, FitsPair, FitsRow, buckets, most_in_key}
use Rattle.fine_model.specs.Map.{Pair, is_below, is_ascending, between, from_pairs}
use Rattle.fine_model.specs.Store.{answer}
use Rattle.fine_model.specs.Regions.{Image}
use Rattle.fine_model.specs.Chain.{Shows}
use Rattle.fine_model.specs.Trees.{IsSound, bucket_of, tree_map, map_of}

-- the keys of pairs ascend strictly
abbrev pub KeysAscend : List Pair → Type 0
KeysAscend pairs = IsTrue (is_ascending (map (λ p. p.0) pairs))

-- the first pairs of a range in each tree of the buckets below a number, bucket by bucket
unfoldable pub gathered : List Row → List ℕ → List ℕ → ℕ → ℕ → List Pair
gathered rows low high limit next = flat_map (λ b. take limit (between low high (tree_map rows b))) (range_with_len 0 next)

-- gathered from all trees of sound rows and put in order, the first pairs are those of the map
abbrev pub RangeLaw : Type 0
RangeLaw =
    (rows : List Row) (low high : List ℕ) (limit : ℕ) (found : List Pair) → IsSound rows → IsPermutation (gathered rows low high limit buckets) found → KeysAscend found
    → take limit found ≡ take limit (between low high (map_of rows))

-- pairs that were put in order are the map of them
abbrev pub OrderLaw : Type 0
OrderLaw = (pairs found : List Pair) → IsPermutation pairs found → KeysAscend found → found ≡ from_pairs pairs

-- Pairs that are cut to their first ones in order: whatever is gathered besides, the first pairs of all are the same.
abbrev pub CutLaw : Type 0
CutLaw = (limit : ℕ) (pairs more : List Pair) → take limit (from_pairs (take limit (from_pairs pairs) ++ more)) ≡ take limit (from_pairs (pairs ++ more))

-- ---- from bucket to bucket

-- how often a key stands among pairs
abbrev pub times_of : List ℕ → List Pair → ℕ
times_of key pairs = sum_by (λ p. if bytes_eq p.0 key then 1 else 0) pairs

-- What is kept of the pairs that were gathered from the buckets below a number: no key twice, keys of these buckets alone, and
-- whatever is gathered besides, the first pairs in order are the same.
pub record IsKept (rows : List Row) (low high : List ℕ) (limit next : ℕ) (kept : List Pair) : Type 0 where
  pub same : (more : List Pair) → take limit (from_pairs (kept ++ more)) ≡ take limit (from_pairs (gathered rows low high limit next ++ more))
  pub once : (key : List ℕ) → times_of key kept ≤ 1
  pub of_buckets : AllByRecursion (λ p. bucket_of p.0 < next) kept

-- kept pairs that were sorted by their keys
pub record IsSorted (pairs found : List Pair) : Type 0 where
  pub permuted : IsPermutation pairs found
  pub sorted : IsSortedBy (λ a b. is_below a.0 b.0) found

-- nothing is kept at first; then the pairs of the next bucket are put behind
abbrev pub KeptFirst : Type 0
KeptFirst = (rows : List Row) (low high : List ℕ) (limit : ℕ) → IsKept rows low high limit 0 []

abbrev pub KeptMore : Type 0
KeptMore =
    (rows : List Row) (low high : List ℕ) (limit next : ℕ) (kept : List Pair) → IsSound rows → next < buckets → IsKept rows low high limit next kept
    → IsKept rows low high limit (next + 1) (kept ++ take limit (between low high (tree_map rows next)))

-- they may be sorted and cut to the first ones at any time
abbrev pub KeptCut : Type 0
KeptCut = (rows : List Row) (low high : List ℕ) (limit next : ℕ) (kept found : List Pair) → IsKept rows low high limit next kept → IsSorted kept found → IsKept rows low high limit next (take limit found)

-- after the last bucket the first ones are the reply of the store
pub record IsWholeScan (rows : List Row) (low high : List ℕ) (limit : ℕ) (found : List Pair) : Type 0 where
  pub ascends : KeysAscend found
  pub first : take limit found ≡ take limit (between low high (map_of rows))
  pub reply : answer (map_of rows) (call.Scan low high limit) ≡ (reply.Found (take limit found), [])

abbrev pub KeptAll : Type 0
KeptAll = (rows : List Row) (low high : List ℕ) (limit : ℕ) (kept found : List Pair) → IsSound rows → IsKept rows low high limit buckets kept → IsSorted kept found → IsWholeScan rows low high limit found

-- ---- keys and values

-- the map of rows within the format's bounds has keys and values within them
abbrev pub PairsFit : Type 0
PairsFit = (mark : Mark) (rows : List Row) → AllByRecursion (FitsRow mark) rows → AllByRecursion FitsPair (map_of rows)

-- and has no more pairs than the rows have bytes
abbrev pub FewPairs : Type 0
FewPairs = (rows : List Row) → IsSound rows → length (map_of rows) ≤ rows_len rows

-- bytes, and pairs whose keys are of bytes
abbrev pub AreBytes : List ℕ → Type 0
AreBytes bytes = AllByRecursion (λ byte. byte < 256) bytes

abbrev pub HaveByteKeys : List Pair → Type 0
HaveByteKeys pairs = AllByRecursion (λ p. AreBytes p.0) pairs

-- the keys of a log that an image of bytes shows are of bytes
abbrev pub ByteKeys : Type 0
ByteKeys = (region_len : ℕ) (image : Image) (e : ℕ) (rows : List Row) → AllByRecursion AreBytes image → Shows region_len image e rows → HaveByteKeys (map_of rows)

-- A range from the empty key to bytes of 255, one more than a key may have, holds all pairs of the format.
abbrev pub WholeRange : Type 0
WholeRange = (pairs : List Pair) → AllByRecursion (λ p. (length p.0 ≤ most_in_key) × AreBytes p.0) pairs → between [] (replicate (most_in_key + 1) 255) pairs ≡ pairs

-- and so all pairs of a log that an image of bytes shows
abbrev pub WholeMap : Type 0
WholeMap =
    (region_len : ℕ) (image : Image) (e : ℕ) (rows : List Row) → AllByRecursion AreBytes image → Shows region_len image e rows
    → between [] (replicate (most_in_key + 1) 255) (map_of rows) ≡ map_of rows

-- the keys of a map stand in order, each once
abbrev pub MapAscends : Type 0
MapAscends = (rows : List Row) → KeysAscend (map_of rows)

-- What is kept of this range from bucket to bucket, sorted after the last one: its first pairs are the whole map, where it has no more.
abbrev pub WholeScan : Type 0
WholeScan =
    (region_len : ℕ) (image : Image) (e : ℕ) (rows : List Row) (limit : ℕ) (kept found : List Pair) → AllByRecursion AreBytes image → Shows region_len image e rows → IsSound rows
    → length (map_of rows) ≤ limit → IsKept rows [] (replicate (most_in_key + 1) 255) limit buckets kept → IsSorted kept found → take limit found ≡ map_of rows
