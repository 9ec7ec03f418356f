-- A map has no more pairs than its rows have bytes.
use Rattle.std.proofs.Common.{◌≡◌, ℕ, zero, suc, ◌+◌, ◌-◌, ◌<◌, ◌≤◌, ◌==◌, nat_eq, nat_le, Bool, true, false, cond, not, ◌&&◌, List, [], ◌∷◌, ◌++◌, length, map, take, drop, refl, sym, ap, ◌∙◌, arith, true≢false, eq-eqb, ne_eqb, length-append, Option, Some, None, ℤ, ◌+ℤ◌}
use Rattle.std.specs.Prelude.{flat_map, bytes_eq}
use Rattle.std.specs.List.{AllByRecursion, list_any, range_with_len}
use Rattle.std.proofs.lemmas.Bool.{and_right, not-true}
use Rattle.std.proofs.lemmas.List.{map-append}
use Rattle.std.proofs.lemmas.List.Sums.{sum_by-cons}
use Rattle.fine_model.specs.Types.{NodeId, Rec, Row, Node}
use Rattle.fine_model.specs.Types.rec
use Rattle.fine_model.specs.Types.node
use Rattle.fine_model.specs.NumberText.{number_of, number_text, is_i64}
use Rattle.fine_model.specs.RowBytes.{pair_bytes, body, row_len, rows_len}
use Rattle.fine_model.specs.Map.{Pair, is_below, pairs_below, pairs_above, get, set, unset, from_pairs}
use Rattle.fine_model.specs.Nodes.{Content, base, keys_below, keys_above, added, changed, step_node, step, replay, is_node, rows_of, content}
use Rattle.fine_model.specs.Trees.{IsSound, IsFitFrom, is_distinct, kids_of, pairs_of, pairs_under, pairs_from, reached, nodes_of, tree_map, map_of}
use Rattle.fine_model.specs.ScanLaws.{FewPairs}
use Rattle.fine_model.proofs.Ordered.Order.{all_map, first_of_both}
use Rattle.fine_model.proofs.Ordered.Sets.{all_append}
use Rattle.fine_model.proofs.Ordered.Nothing.{any_none}
use Rattle.fine_model.proofs.Trees.Small.{exclusive, length-filter_le, apart_pairs}
use Rattle.fine_model.proofs.Trees.Joined.{joined}
use Rattle.fine_model.proofs.Merging.MergedLen.{total, len_of, Apart, by_node}

-- ---- the pairs of a node

abbrev pairs_len : Node → ℕ
pairs_len n = length (pairs_of n)

set_len : (m : List Pair) (key value : List ℕ) → length (set m key value) ≤ length m + 1
unfolding set
set_len m key value =
    let a = length-append (pairs_below key m) ((key, value) ∷ pairs_above key m) in
    let e = exclusive (λ (p : Pair). is_below p.0 key) (λ p. is_below key p.0) m (apart_pairs key) in omega (arith, a, e)

unset_len : (m : List Pair) (key : List ℕ) → length (unset m key) ≤ length m
unfolding unset
unset_len m key =
    let a = length-append (pairs_below key m) (pairs_above key m) in
    let e = exclusive (λ (p : Pair). is_below p.0 key) (λ p. is_below key p.0) m (apart_pairs key) in omega (arith, a, e)

cond_len : (b : Bool) (n : Node) (k : ℕ) → pairs_len n ≤ k → pairs_len (cond b n node.Broken) ≤ k
cond_len true n k few = few
cond_len false n k few = omega arith

added_len : (pairs : List Pair) (key : List ℕ) (by : ℤ) (o : Option (List ℕ)) → pairs_len (added pairs key by o) ≤ length pairs + 1
unfolding added
added_len pairs key n None = omega arith
added_len pairs key n (Some text) = by (number_of text) refl
  where
    by : (z : Option ℤ) → number_of text ≡ z → pairs_len (added pairs key n (Some text)) ≤ length pairs + 1
    by None e = rw e (omega arith)
    by (Some z) e = rw e (cond_len (is_i64 (z +ℤ n)) (node.Leaf (set pairs key (number_text (z +ℤ n)))) (length pairs + 1) (set_len pairs key (number_text (z +ℤ n))))

changed_len : (n : Node) (change : Rec) → pairs_len (changed n change) ≤ pairs_len n + 1
unfolding changed
changed_len (node.Leaf pairs) (rec.Put key value) = cond_len (nat_le (length (set pairs key value)) 32) (node.Leaf (set pairs key value)) (length pairs + 1) (set_len pairs key value)
changed_len (node.Leaf pairs) (rec.Del key) = let e = unset_len pairs key in omega (arith, e)
changed_len (node.Leaf pairs) (rec.CutLeaf key) = let e = length-filter_le (λ (p : Pair). is_below p.0 key) pairs in omega (arith, e)
changed_len (node.Leaf pairs) (rec.Plus key by) = added_len pairs key by (get pairs key)
changed_len (node.Inner seps kids) (rec.CutInner key) = omega arith
changed_len (node.Inner seps kids) (rec.Link key child) =
    cond_len (not (list_any (bytes_eq key) seps) && nat_le (length seps + 1) 32)
    (node.Inner (keys_below key seps ++ key ∷ keys_above key seps) (take (length (keys_below key seps) + 1) kids ++ child ∷ drop (length (keys_below key seps) + 1) kids)) 1 (omega arith)
changed_len _ _ = omega arith

bytes_len : (pairs : List Pair) → length pairs ≤ length (flat_map pair_bytes pairs)
bytes_len [] = omega arith
bytes_len (p ∷ pairs) =
    let a = length-append (pair_bytes p) (flat_map pair_bytes pairs) in
    let rest = bytes_len pairs in
    omega (arith, a, rest)

-- a change that is no image
change_len : (c : Content) (version : ℕ) (change : Rec) → pairs_len (cond (version == c.1 + 1) (changed c.0 change) node.Broken) ≤ pairs_len c.0 + (19 + length (body change))
change_len c version change =
    let e = changed_len c.0 change in cond_len (version == c.1 + 1) (changed c.0 change) (pairs_len c.0 + (19 + length (body change))) (omega (arith, e))

step_len : (c : Content) (version : ℕ) (change : Rec) → pairs_len (step_node c version change) ≤ pairs_len c.0 + (19 + length (body change))
unfolding body
step_len c version (rec.HeadImage root next depth) = omega arith
step_len c version (rec.LeafImage pairs) = let e = bytes_len pairs in omega (arith, e)
step_len c version (rec.InnerImage seps kids) = omega arith
step_len c version change = change_len c version change

replay_len : (c : Content) (rows : List Row) → pairs_len (replay c rows).0 ≤ pairs_len c.0 + rows_len rows
unfolding replay step
replay_len c [] = omega arith
replay_len c (row ∷ rows) =
    let here = step_len c row.version row.rec in
    let rest = replay_len (step c row) rows in
    let all = sum_by-cons row_len row rows in omega (arith, here, rest, all)

base_len : (b : Bool) → pairs_len (cond {A = Content} b (node.Head 1 2 1, 0) (node.Leaf [], 0)).0 ≡ 0
base_len true = refl
base_len false = refl

abbrev weight : List Row → NodeId → ℕ
weight rows id = pairs_len (content rows id).0

node_len : (rows : List Row) (id : NodeId) → weight rows id ≤ len_of rows id
unfolding content
node_len rows id = let r = replay_len (base id) (rows_of id rows) in let z = base_len (id.number == 0) in omega (arith, r, z)

-- ---- the pairs of trees

total-append : (f : NodeId → ℕ) (xs ys : List NodeId) → total f (xs ++ ys) ≡ total f xs + total f ys
unfolding total
total-append f [] ys = omega arith
total-append f (x ∷ xs) ys = let rest = total-append f xs ys in omega (arith, rest)

total-le : (f g : NodeId → ℕ) → ((id : NodeId) → f id ≤ g id) → (ids : List NodeId) → total f ids ≤ total g ids
unfolding total
total-le f g each [] = omega arith
total-le f g each (id ∷ ids) = let here = each id in let rest = total-le f g each ids in omega (arith, here, rest)

abbrev id_of : ℕ → ℕ → NodeId
id_of bucket number = record { bucket = bucket; number = number }

module _ (rows : List Row) (bucket : ℕ) where
  abbrev ids : List ℕ → List NodeId
  ids numbers = map (id_of bucket) numbers

  kids_few : (f : ℕ → List Pair) (g : ℕ → List ℕ) → ((k : ℕ) → length (f k) ≤ total (weight rows) (ids (g k))) → (kids : List ℕ) → length (flat_map f kids) ≤ total (weight rows) (ids (flat_map g kids))
  unfolding total
  kids_few f g each [] = omega arith
  kids_few f g each (k ∷ kids) =
      let a = length-append (f k) (flat_map f kids) in
      let here = each k in
      let rest = kids_few f g each kids in
      let joined_ids : total (weight rows) (ids (g k ++ flat_map g kids)) ≡ total (weight rows) (ids (g k)) + total (weight rows) (ids (flat_map g kids)) =
      ap (total (weight rows)) (map-append (id_of bucket) (g k) (flat_map g kids)) ∙ total-append (weight rows) (ids (g k)) (ids (flat_map g kids)) in omega (arith, a, here, rest, joined_ids)

  under_few : (height number : ℕ) → length (pairs_under height (nodes_of rows bucket) number) ≤ total (weight rows) (ids (reached height (nodes_of rows bucket) number))
  unfolding pairs_under reached total
  under_few zero number = omega arith
  under_few (suc height) number =
      let k = kids_few (pairs_under height (nodes_of rows bucket)) (reached height (nodes_of rows bucket)) (under_few height) (kids_of (nodes_of rows bucket number).0) in omega (arith, k)

  -- the numbers that a head reaches
  numbers : Node → List ℕ
  numbers (node.Head root next depth) = reached (depth - 1) (nodes_of rows bucket) root
  numbers _ = []

  from_few : (n : Node) → length (pairs_from (nodes_of rows bucket) n) ≤ total (weight rows) (ids (numbers n))
  unfolding total numbers
  from_few (node.Head root next depth) = under_few (depth - 1) root
  from_few (node.Leaf pairs) = omega arith
  from_few (node.Inner seps kids) = omega arith
  from_few node.Broken = omega arith

  numbers_distinct : (n : Node) → IsFitFrom bucket (nodes_of rows bucket) n → is_distinct (numbers n) ≡ true
  unfolding numbers is_distinct
  numbers_distinct (node.Head root next depth) fit = fit.distinct
  numbers_distinct (node.Leaf pairs) fit = absurd fit
  numbers_distinct (node.Inner seps kids) fit = absurd fit
  numbers_distinct node.Broken fit = absurd fit

  abbrev own_ids : List NodeId
  own_ids = ids (numbers (nodes_of rows bucket 0).0)

  tree_few : length (tree_map rows bucket) ≤ total (weight rows) own_ids
  unfolding tree_map
  tree_few = from_few (nodes_of rows bucket 0).0

  -- no node twice
  others : (n : ℕ) (ns : List ℕ) → AllByRecursion (λ m. nat_eq n m ≡ false) ns → AllByRecursion (λ i. is_node i (id_of bucket n) ≡ false) (ids ns)
  others n [] apart = tt
  others n (m ∷ ns) apart = (and_right (bucket == bucket) (m == n) (ne_eqb m n (λ e. true≢false (sym (eq-eqb n m (sym e)) ∙ apart.0))), others n ns apart.1)

  ids_apart : (ns : List ℕ) → is_distinct ns ≡ true → Apart (ids ns)
  unfolding is_distinct
  ids_apart [] distinct = tt
  ids_apart (n ∷ ns) distinct =
      let both = first_of_both (not (list_any (nat_eq n) ns)) (is_distinct ns) distinct in
      (others n ns (any_none (nat_eq n) ns (not-true (list_any (nat_eq n) ns) both.0)), ids_apart ns both.1)

  ids_bucket : (ns : List ℕ) → AllByRecursion (λ i. i.bucket ≡ bucket) (ids ns)
  ids_bucket [] = tt
  ids_bucket (n ∷ ns) = (refl, ids_bucket ns)

-- ---- all trees

apart_both : (bucket : ℕ) (xs ys : List NodeId) → AllByRecursion (λ i. i.bucket ≡ bucket) xs → AllByRecursion (λ i. bucket < i.bucket) ys → Apart xs → Apart ys → Apart (xs ++ ys)
apart_both bucket [] ys here behind apart apart' = apart'
apart_both bucket (x ∷ xs) ys here behind apart apart' = (
  all_append (λ i. is_node i x ≡ false) xs ys apart.0
      (all_map (λ i. bucket < i.bucket) (λ i. is_node i x ≡ false) (λ i h. ap (λ b. b && (i.number == x.number)) (ne_eqb i.bucket x.bucket (λ e. let at = here.0 in absurd (omega (arith, h, e, at))))) ys behind),
  apart_both bucket xs ys here.1 behind apart.1 apart',
)

module _ (rows : List Row) (sound : IsSound rows) where
  all_ids : (from count : ℕ) → List NodeId
  all_ids from zero = []
  all_ids from (suc count) = own_ids rows from ++ all_ids (from + 1) count

  all_behind : (from count : ℕ) → AllByRecursion (λ i. from ≤ i.bucket) (all_ids from count)
  unfolding all_ids
  all_behind from zero = tt
  all_behind from (suc count) =
      all_append (λ i. from ≤ i.bucket) (own_ids rows from) (all_ids (from + 1) count)
      (all_map (λ i. i.bucket ≡ from) (λ i. from ≤ i.bucket) (λ i e. omega (arith, e)) (own_ids rows from) (ids_bucket rows from (numbers rows from (nodes_of rows from 0).0)))
      (all_map (λ i. from + 1 ≤ i.bucket) (λ i. from ≤ i.bucket) (λ i h. omega (arith, h)) (all_ids (from + 1) count) (all_behind (from + 1) count))

  all_apart : (from count : ℕ) → from + count ≤ 256 → Apart (all_ids from count)
  unfolding all_ids
  all_apart from zero few = tt
  all_apart from (suc count) few =
      apart_both from (own_ids rows from) (all_ids (from + 1) count) (ids_bucket rows from (numbers rows from (nodes_of rows from 0).0))
      (all_map (λ i. from + 1 ≤ i.bucket) (λ i. from < i.bucket) (λ i h. omega (arith, h)) (all_ids (from + 1) count) (all_behind (from + 1) count))
      (ids_apart rows from (numbers rows from (nodes_of rows from 0).0) (numbers_distinct rows from (nodes_of rows from 0).0 (sound.fit from (omega (arith, few)))))
      (all_apart (from + 1) count (omega (arith, few)))

  trees_few : (from count : ℕ) → length (flat_map (tree_map rows) (range_with_len from count)) ≤ total (weight rows) (all_ids from count)
  unfolding all_ids total
  trees_few from zero = omega arith
  trees_few from (suc count) =
      let a = length-append (tree_map rows from) (flat_map (tree_map rows) (range_with_len (from + 1) count)) in
      let here = tree_few rows from in
      let rest = trees_few (from + 1) count in
      let b = total-append (weight rows) (own_ids rows from) (all_ids (from + 1) count) in omega (arith, a, here, rest, b)

joined_len : (m pairs : List Pair) → length (joined m pairs) ≤ length m + length pairs
joined_len m [] = omega arith
joined_len m (p ∷ pairs) = let here = set_len m p.0 p.1 in let rest = joined_len (set m p.0 p.1) pairs in omega (arith, here, rest)

pub few_pairs : FewPairs
unfolding map_of from_pairs
few_pairs rows sound =
    let a = joined_len [] (flat_map (tree_map rows) (range_with_len 0 256)) in
    let b = trees_few rows sound 0 256 in
    let c = total-le (weight rows) (len_of rows) (node_len rows) (all_ids rows sound 0 256) in
    let d = by_node rows (all_ids rows sound 0 256) (all_apart rows sound 0 256 (omega arith)) in omega (arith, a, b, c, d)
