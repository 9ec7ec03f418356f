-- The keys of a log that an image of bytes shows are of bytes.
use Rattle.std.proofs.Common.{◌≡◌, ℕ, ◌+◌, ◌<◌, ◌≤◌, Bool, true, false, cond, not, ◌&&◌, nat_eq, List, [], ◌∷◌, ◌++◌, length, take, drop, replicate, slice_get, Option, Some, None, refl, sym, ap, subst, ◌∙◌, ℤ, ◌+ℤ◌, leb, take_all}
use Rattle.std.specs.Prelude.{flat_map, unwrap_or, bytes_eq}
use Rattle.std.specs.Int.{to_be_bytes, w16, w32, w64}
use Rattle.std.specs.List.{AllByRecursion, range_with_len, list_any}
use Rattle.fine_model.specs.Types.{Rec, Row, Node, Part}
use Rattle.fine_model.specs.Types.rec
use Rattle.fine_model.specs.Types.node
use Rattle.fine_model.specs.Map.{Pair, is_below, pairs_below, get, set, unset, from_pairs}
use Rattle.fine_model.specs.NumberText.{number_of, number_text, is_i64}
use Rattle.fine_model.specs.Nodes.{Content, base, leaf, added, with_sum, changed, replay, is_node, rows_of, content, linked, keys_below, keys_above}
use Rattle.fine_model.specs.RowBytes.{FitsPair, FitsRec, body, pair_bytes, row_bytes, rows_bytes}
use Rattle.fine_model.specs.Regions.{Image, region_of, continuations, body_start, body_in, body_bytes, IsSealed}
use Rattle.fine_model.specs.Chain.{AreRowsOf}
use Rattle.fine_model.specs.Trees.{pairs_of, tree_map, map_of}
use Rattle.fine_model.specs.ScanLaws.{AreBytes, HaveByteKeys, ByteKeys, WholeMap, WholeScan, MapAscends}
use Rattle.fine_model.proofs.Ordered.Sets.{all_filter, all_append}
use Rattle.fine_model.proofs.Ordered.Lists.{all_drop, all_at}
use Rattle.fine_model.proofs.Ordered.Zip.{all_left, all_right}
use Rattle.fine_model.proofs.Ordered.Parts.{all_both}
use Rattle.fine_model.proofs.Ordered.AllPairs.{pairs_set, map_all}
use Rattle.fine_model.proofs.Trees.NodeBounds.{recs_fit, node_fits_of}
use Rattle.fine_model.proofs.Ordered.Gathered.{joined-ascends}
use Rattle.fine_model.proofs.Ordered.KeptPairs.{pairs_fit_node, whole_range, kept_all}
use Rattle.fine_model.proofs.Trees.NodeLaws.{replay_keeps}

abbrev HasByteKey : Pair → Type 0
HasByteKey p = AreBytes p.0

-- ---- what is spelled by bytes

-- the pairs and the key that a change puts into a leaf
abbrev KeysIn : Rec → Type 0
KeysIn (rec.LeafImage pairs) = HaveByteKeys pairs
KeysIn (rec.Put key value) = AreBytes key
KeysIn (rec.Plus key by) = AreBytes key
KeysIn _ = Unit {0}

pairs_in : (pairs : List Pair) → AreBytes (flat_map pair_bytes pairs) → HaveByteKeys pairs
pairs_in [] all = tt
pairs_in (p ∷ pairs) all =
    let here = all_left (λ b. b < 256) (pair_bytes p) (flat_map pair_bytes pairs) all in
    (all_left (λ b. b < 256) p.0 _ here.1, pairs_in pairs (all_right (λ b. b < 256) (pair_bytes p) (flat_map pair_bytes pairs) all))

keys_in : (r : Rec) → AreBytes (body r) → KeysIn r
unfolding body
keys_in (rec.LeafImage pairs) all = pairs_in pairs all.1
keys_in (rec.Put key value) all = all_left (λ b. b < 256) key _ all.1
keys_in (rec.Plus key by) all = all_left (λ b. b < 256) key _ all.1
keys_in _ all = tt

row_keys : (row : Row) → AreBytes (row_bytes row) → KeysIn row.rec
unfolding row_bytes
row_keys row all =
    keys_in row.rec (all_right (λ b. b < 256) (to_be_bytes w16 row.node.bucket ++ to_be_bytes w32 row.node.number ++ to_be_bytes w64 row.version ++ to_be_bytes w32 (length (body row.rec))) (body row.rec) all.1)

abbrev RowsKeys : List Row → Type 0
RowsKeys rows = AllByRecursion (λ row. KeysIn row.rec) rows

rows_keys : (rows : List Row) → AreBytes (rows_bytes rows) → RowsKeys rows
unfolding rows_bytes
rows_keys [] all = tt
rows_keys (row ∷ rows) all =
    (row_keys row (all_left (λ b. b < 256) (row_bytes row) (rows_bytes rows) all), rows_keys rows (all_right (λ b. b < 256) (row_bytes row) (rows_bytes rows) all))

module _ (image : Image) (all : AllByRecursion AreBytes image) where
  region_bytes : (region : ℕ) → AreBytes (region_of image region)
  region_bytes region = by (slice_get image region) refl
    where
      by : (o : Option (List ℕ)) → slice_get image region ≡ o → AreBytes (unwrap_or o [])
      by None is = tt
      by (Some bytes) is = all_at AreBytes region image bytes all is

  behind_gates : (regions : List ℕ) → AreBytes (flat_map (λ region. drop 1 (region_of image region)) regions)
  behind_gates [] = tt
  behind_gates (r ∷ regions) = all_append (λ b. b < 256) (drop 1 (region_of image r)) _ (all_drop (λ b. b < 256) 1 (region_of image r) (region_bytes r)) (behind_gates regions)

  sealed_keys : (region_len lead : ℕ) (rows : List Row) (range : _) → IsSealed region_len image lead range rows → RowsKeys rows
  unfolding body_in
  sealed_keys region_len lead rows range s =
      let n = body_start s.header.mark in
      let whole : AreBytes (body_in image lead s.header) =
      all_append (λ b. b < 256) (drop n (region_of image lead)) _ (all_drop (λ b. b < 256) n (region_of image lead) (region_bytes lead)) (behind_gates (continuations s.header)) in
      let parts = all_left (λ b. b < 256) (body_bytes rows) s.spelled.0 (subst AreBytes s.spelled.1 whole) in
      rows_keys rows (all_left (λ b. b < 256) (rows_bytes rows) _ parts)

  parts_keys : (region_len : ℕ) (parts : List Part) (rows : List Row) → AreRowsOf region_len image parts rows → RowsKeys rows
  unfolding AreRowsOf
  parts_keys region_len [] rows are = subst RowsKeys (sym are) tt
  parts_keys region_len (p ∷ parts) rows (own, more, is, sealed, rest) =
      subst RowsKeys (sym is) (all_append (λ row. KeysIn row.rec) own more (sealed_keys region_len p.region own p.header.range sealed) (parts_keys region_len parts more rest))

-- ---- what such rows leave in a node

abbrev KeysOf : Node → Type 0
KeysOf n = HaveByteKeys (pairs_of n)

leaf_keys : (pairs : List Pair) → HaveByteKeys pairs → KeysOf (leaf pairs)
leaf_keys pairs all = by (leb (length pairs) 32)
  where
    by : (b : Bool) → KeysOf (cond b (node.Leaf pairs) node.Broken)
    by true = all
    by false = tt

sum_keys : (pairs : List Pair) (key : List ℕ) (sum : ℤ) → HaveByteKeys pairs → AreBytes key → KeysOf (with_sum pairs key sum)
sum_keys pairs key sum all one = by (is_i64 sum)
  where
    by : (b : Bool) → KeysOf (cond b (node.Leaf (set pairs key (number_text sum))) node.Broken)
    by true = pairs_set HasByteKey pairs key (number_text sum) all one
    by false = tt

add_keys : (pairs : List Pair) (key : List ℕ) (n : ℤ) (o : Option (List ℕ)) → HaveByteKeys pairs → AreBytes key → KeysOf (added pairs key n o)
unfolding added
add_keys pairs key n None all one = tt
add_keys pairs key n (Some text) all one = by (number_of text) refl
  where
    by : (o : Option ℤ) → number_of text ≡ o → KeysOf (added pairs key n (Some text))
    by None e = rw e tt
    by (Some m) e = rw e (sum_keys pairs key (m +ℤ n) all one)

linked_keys : (seps : List (List ℕ)) (kids : List ℕ) (key : List ℕ) (child : ℕ) → KeysOf (linked seps kids key child)
linked_keys seps kids key child = by (not (list_any (bytes_eq key) seps) && leb (length seps + 1) 32)
  where
    by : (b : Bool) → KeysOf (cond b (node.Inner (keys_below key seps ++ key ∷ keys_above key seps) (take (length (keys_below key seps) + 1) kids ++ child ∷ drop (length (keys_below key seps) + 1) kids)) node.Broken)
    by true = tt
    by false = tt

changed_keys : (n : Node) (r : Rec) → KeysOf n → KeysIn r → KeysOf (changed n r)
unfolding changed unset
changed_keys (node.Leaf pairs) (rec.Put key value) all one = leaf_keys (set pairs key value) (pairs_set HasByteKey pairs key value all one)
changed_keys (node.Leaf pairs) (rec.Del key) all one = all_append HasByteKey (pairs_below key pairs) _ (all_filter HasByteKey (λ q. is_below q.0 key) pairs all) (all_filter HasByteKey (λ q. is_below key q.0) pairs all)
changed_keys (node.Leaf pairs) (rec.CutLeaf key) all one = all_filter HasByteKey (λ q. is_below q.0 key) pairs all
changed_keys (node.Leaf pairs) (rec.Plus key by) all one = add_keys pairs key by (get pairs key) all one
changed_keys (node.Inner seps kids) (rec.CutInner key) all one = tt
changed_keys (node.Inner seps kids) (rec.Link key child) all one = linked_keys seps kids key child
changed_keys _ _ all one = tt

replay_keys : (rows : List Row) (old : Content) → RowsKeys rows → KeysOf old.0 → KeysOf (replay old rows).0
replay_keys = replay_keeps KeysOf KeysIn tt changed_keys (λ root next depth one. tt) (λ pairs one. one) (λ seps kids one. tt)

node_keys : (rows : List Row) (id : _) → RowsKeys rows → KeysOf (content rows id).0
unfolding content
node_keys rows id all = replay_keys (rows_of id rows) (base id) (all_filter (λ row. KeysIn row.rec) (λ row. is_node id row.node) rows all) (by (nat_eq id.number 0))
  where
    by : (b : Bool) → KeysOf (cond {A = Content} b (node.Head 1 2 1, 0) (node.Leaf [], 0)).0
    by true = tt
    by false = tt

-- ---- and in the map

pub byte_keys : ByteKeys
byte_keys region_len image e rows all shows =
    map_all HasByteKey rows (λ id. (node_keys rows id (parts_keys image all region_len shows.parts rows shows.are_rows)))

-- ---- all of the map

shown_fits : (region_len : ℕ) (image : Image) (parts : List Part) (rows : List Row) → AreRowsOf region_len image parts rows → AllByRecursion (λ row. FitsRec row.rec) rows
unfolding AreRowsOf
shown_fits region_len image [] rows are = subst (AllByRecursion (λ row. FitsRec row.rec)) (sym are) tt
shown_fits region_len image (p ∷ parts) rows (own, more, is, sealed, rest) =
    subst (AllByRecursion (λ row. FitsRec row.rec)) (sym is)
    (all_append (λ row. FitsRec row.rec) own more (recs_fit sealed.header.mark own sealed.rows_fit) (shown_fits region_len image parts more rest))

pub whole_map : WholeMap
whole_map region_len image e rows all shows =
    whole_range (map_of rows) (all_both FitsPair HasByteKey (λ p. (length p.0 ≤ 64) × AreBytes p.0) (λ p fits bytes. (fits.0.1, bytes)) (map_of rows)
    (map_all FitsPair rows (λ id. pairs_fit_node (content rows id).0 (node_fits_of rows id (shown_fits region_len image shows.parts rows shows.are_rows)))) (byte_keys region_len image e rows all shows))

pub map_ascends : MapAscends
unfolding map_of from_pairs
map_ascends rows = joined-ascends [] (flat_map (tree_map rows) (range_with_len 0 256)) refl

pub whole_scan : WholeScan
whole_scan region_len image e rows limit kept found all shows sound few are_kept sorted =
    let s = kept_all rows [] (replicate 65 255) limit kept found sound are_kept sorted in
    s.first ∙ ap (take limit) (whole_map region_len image e rows all shows) ∙ take_all limit (map_of rows) few
