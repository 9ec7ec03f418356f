-- How long merged rows are, and which nodes they name.
use Rattle.std.proofs.Common.{◌≡◌, ℕ, ◌+◌, ◌≤◌, ◌&&◌, ◌||◌, Bool, true, false, cond, List, [], ◌∷◌, ◌++◌, map, refl, sym, ap, ◌∙◌, subst, arith, nat_le}
use Rattle.std.specs.Prelude.{flat_map, Option, Some, None}
use Rattle.std.specs.List.{AllByRecursion, list_any}
use Rattle.std.proofs.lemmas.Bool.{leb-true, and_parts}
use Rattle.std.proofs.lemmas.List.Sums.{sum_by-cons, sum_by-append}
use Rattle.fine_model.specs.Types.{NodeId, Rec, Row}
use Rattle.fine_model.specs.RowBytes.{row_len, rows_len}
use Rattle.fine_model.specs.Nodes.{is_node, rows_of, content}
use Rattle.fine_model.specs.Merge.{is_node_below, nodes_in, image_of, starts_afresh, merged_into, merged_node, merged}
use Rattle.fine_model.specs.MergeSteps.{MergedLen}
use Rattle.fine_model.proofs.Ordered.Order.{all_map}
use Rattle.fine_model.proofs.Merging.NodesIn.{same_node, times-nodes_in}
use Rattle.fine_model.proofs.Merging.NodesAscend.{Ascend, nodes_ascend, same_nodes}
use Rattle.fine_model.proofs.Merging.NodeOrder.{below-other}
use Rattle.fine_model.proofs.Merging.MergedRows.{rows_of-merged}

-- ---- the nodes that rows name

abbrev pub names : NodeId → List Row → Bool
names id rows = list_any (is_node id) (map (λ r. r.node) rows)

some_of : List Row → Bool
some_of [] = false
some_of (row ∷ rows) = true

-- a node is named by rows where some are its own
names_some : (id : NodeId) (rows : List Row) → names id rows ≡ some_of (rows_of id rows)
unfolding some_of
names_some id [] = refl
names_some id (row ∷ rows) = by (is_node id row.node) (names_some id rows)
  where
    by : (b : Bool) → names id rows ≡ some_of (rows_of id rows) → (b || names id rows) ≡ some_of (cond b (row ∷ rows_of id rows) (rows_of id rows))
    by true rest = refl
    by false rest = rest

-- rows that name the same nodes have the same nodes
pub nodes_alike : (xs ys : List Row) → ((id : NodeId) → names id xs ≡ names id ys) → nodes_in xs ≡ nodes_in ys
nodes_alike xs ys same =
    same_nodes (nodes_in xs) (nodes_in ys) (nodes_ascend xs) (nodes_ascend ys)
    (λ id. times-nodes_in id xs ∙ ap (λ b. cond b (id ∷ []) []) (same id) ∙ sym (times-nodes_in id ys))

some_chosen : (test : Bool) (row : Row) (r : Row) (rows : List Row) → some_of (cond test (row ∷ []) (r ∷ rows)) ≡ true
unfolding some_of
some_chosen true row r rows = refl
some_chosen false row r rows = refl

-- some rows are merged into some, and none into none
some_merged : (id : NodeId) (own : List Row) (version : ℕ) (o : Option Rec) → some_of (merged_into id own version o) ≡ some_of own
unfolding merged_into some_of
some_merged id own version None = refl
some_merged id [] version (Some image) = refl
some_merged id (r ∷ rows) version (Some image) = some_chosen _ _ r rows

pub names_merged : (older newer : List Row) (id : NodeId) → names id (merged older newer) ≡ names id (older ++ newer)
unfolding merged_node
names_merged older newer id =
    names_some id (merged older newer) ∙ ap some_of (rows_of-merged id older newer)
    ∙ some_merged id (rows_of id (older ++ newer)) (content (older ++ newer) id).1 (image_of (content (older ++ newer) id).0) ∙ sym (names_some id (older ++ newer))

-- ---- lengths

-- what a function of nodes gives, added up
unfoldable pub total : (NodeId → ℕ) → List NodeId → ℕ
total f [] = 0
total f (id ∷ ids) = f id + total f ids

len_flat : (f : NodeId → List Row) (g : NodeId → ℕ) → ((id : NodeId) → rows_len (f id) ≤ g id) → (ids : List NodeId) → rows_len (flat_map f ids) ≤ total g ids
unfolding total
len_flat f g each [] = omega arith
len_flat f g each (id ∷ ids) =
    let a = sum_by-append row_len (f id) (flat_map f ids) in
    let here = each id in
    let rest = len_flat f g each ids in omega (arith, a, here, rest)

-- a node's merged rows are no longer than its rows
into_len : (id : NodeId) (own : List Row) (version : ℕ) (o : Option Rec) → rows_len (merged_into id own version o) ≤ rows_len own
unfolding merged_into
into_len id own version None = omega arith
into_len id own version (Some image) = by (starts_afresh own && nat_le (row_len row) (rows_len own)) refl
  where
    row : Row
    row = record { node = id; version = version; rec = image }

    by : (b : Bool) → (starts_afresh own && nat_le (row_len row) (rows_len own)) ≡ b → rows_len (cond b (row ∷ []) own) ≤ rows_len own
    by true e =
        let one = sum_by-cons row_len row [] in
        let few = leb-true (row_len row) (rows_len own) (and_parts (starts_afresh own) (nat_le (row_len row) (rows_len own)) e).1 in omega (arith, few, one)
    by false e = omega arith

abbrev pub len_of : List Row → NodeId → ℕ
len_of rows id = rows_len (rows_of id rows)

node_len : (rows : List Row) (id : NodeId) → rows_len (merged_node rows id) ≤ len_of rows id
unfolding merged_node
node_len rows id = into_len id (rows_of id rows) (content rows id).1 (image_of (content rows id).0)

-- a row of another node adds nothing
other_row : (row : Row) (rows : List Row) (ids : List NodeId) → AllByRecursion (λ id. is_node id row.node ≡ false) ids → total (len_of (row ∷ rows)) ids ≡ total (len_of rows) ids
unfolding total
other_row row rows [] others = refl
other_row row rows (id ∷ ids) others =
    let here : len_of (row ∷ rows) id ≡ len_of rows id = ap (λ b. rows_len (cond b (row ∷ rows_of id rows) (rows_of id rows))) others.0 in
    let rest = other_row row rows ids others.1 in omega (arith, here, rest)

-- no node stands twice
abbrev pub Apart : List NodeId → Type 0
Apart [] = Unit {0}
Apart (id ∷ ids) = AllByRecursion (λ i. is_node i id ≡ false) ids × Apart ids

ascend_apart : (ids : List NodeId) → Ascend ids → Apart ids
ascend_apart [] up = tt
ascend_apart (id ∷ ids) up = (all_map (λ i. is_node_below id i ≡ true) (λ i. is_node i id ≡ false) (λ i h. (below-other id i h).1) ids up.0, ascend_apart ids up.1)

-- a row adds its length at one node at most
one_row : (row : Row) (rows : List Row) (ids : List NodeId) → Apart ids → total (len_of (row ∷ rows)) ids ≤ row_len row + total (len_of rows) ids
unfolding total
one_row row rows [] up = omega arith
one_row row rows (id ∷ ids) up = by (is_node id row.node) refl (one_row row rows ids up.1)
  where
    by : (b : Bool) → is_node id row.node ≡ b → total (len_of (row ∷ rows)) ids ≤ row_len row + total (len_of rows) ids
        → rows_len (cond (is_node id row.node) (row ∷ rows_of id rows) (rows_of id rows)) + total (len_of (row ∷ rows)) ids ≤ row_len row + (len_of rows id + total (len_of rows) ids)
    by true e rest =
        let here : rows_len (cond (is_node id row.node) (row ∷ rows_of id rows) (rows_of id rows)) ≡ row_len row + len_of rows id =
        ap (λ b. rows_len (cond b (row ∷ rows_of id rows) (rows_of id rows))) e ∙ sum_by-cons row_len row (rows_of id rows) in
        let others = other_row row rows ids
        (all_map (λ i. is_node i id ≡ false) (λ i. is_node i row.node ≡ false) (λ i h. subst (λ k. is_node i k ≡ false) (same_node id row.node e) h) ids up.0) in omega (arith, here, others)
    by false e rest =
        let here : rows_len (cond (is_node id row.node) (row ∷ rows_of id rows) (rows_of id rows)) ≡ len_of rows id = ap (λ b. rows_len (cond b (row ∷ rows_of id rows) (rows_of id rows))) e in
        omega (arith, here, rest)

no_rows : (ids : List NodeId) → total (len_of []) ids ≡ 0
unfolding total
no_rows [] = refl
no_rows (id ∷ ids) = let rest = no_rows ids in omega (arith, rest)

-- rows by node are no longer than the rows
pub by_node : (rows : List Row) (ids : List NodeId) → Apart ids → total (len_of rows) ids ≤ rows_len rows
by_node [] ids up = let z = no_rows ids in omega (arith, z)
by_node (row ∷ rows) ids up =
    let one = one_row row rows ids up in
    let rest = by_node rows ids up in
    let all = sum_by-cons row_len row rows in omega (arith, one, rest, all)

pub merged_len : MergedLen
unfolding merged
merged_len older newer = record {
  rows =
      let flat = len_flat (merged_node (older ++ newer)) (len_of (older ++ newer)) (node_len (older ++ newer)) (nodes_in (older ++ newer)) in
      let few = by_node (older ++ newer) (nodes_in (older ++ newer)) (ascend_apart (nodes_in (older ++ newer)) (nodes_ascend (older ++ newer))) in
      let both = sum_by-append row_len older newer in omega (arith, flat, few, both);
  nodes = nodes_alike (merged older newer) (older ++ newer) (names_merged older newer);
}
