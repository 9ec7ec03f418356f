-- The nodes of rows whose lowest node is known.
use Rattle.std.proofs.Common.{◌≡◌, Bool, true, false, cond, ◌||◌, List, [], ◌∷◌, ◌++◌, map, refl, sym, ap, ◌∙◌, subst, inl, inr, true≢false}
use Rattle.std.specs.Prelude.{filter, fold, flat_map}
use Rattle.std.specs.List.{AllByRecursion, list_any}
use Rattle.fine_model.specs.declared.NodeId.{NodeId}
use Rattle.fine_model.specs.declared.Row.{Row}
use Rattle.fine_model.specs.Nodes.{is_node, rows_of, content}
use Rattle.fine_model.specs.Merge.{is_node_below, with_node, nodes_in, merged_node}
use Rattle.fine_model.proofs.Merging.NodesIn.{node_cases, is_node_below-self, same_node}
use Rattle.fine_model.proofs.Merging.NodeOrder.{below-asym}
use Rattle.fine_model.proofs.Ordered.Order.{filter_all, filter_none, all_map}
use Rattle.fine_model.proofs.Ordered.Sets.{all_filter, all_pass, all_append}
use Rattle.partition_merge.specs.Merging.{merged_of}
use Rattle.partition_index.proofs.RowOrder.{AllFrom}

all_with : (P : NodeId → Type 0) (acc : List NodeId) (id : NodeId) → AllByRecursion P acc → P id → AllByRecursion P (with_node acc id)
all_with P acc id all here =
    all_append P (filter (λ i. is_node_below i id) acc) (id ∷ filter (λ i. is_node_below id i) acc) (all_filter P (λ i. is_node_below i id) acc all) (here, all_filter P (λ i. is_node_below id i) acc all)

all_folded : (P : NodeId → Type 0) (acc : List NodeId) (rows : List Row) → AllByRecursion P acc → AllByRecursion (λ r. P r.node) rows → AllByRecursion P (fold with_node acc (map (λ r. r.node) rows))
all_folded P acc [] all each = all
all_folded P acc (r ∷ rows) all each = all_folded P (with_node acc r.node) rows (all_with P acc r.node all each.0) each.1

abbrev Over : NodeId → List NodeId → Type 0
Over n ids = AllByRecursion (λ i. is_node_below n i ≡ true) ids

-- a node in front of others, where it is there
abbrev lead : NodeId → Bool → List NodeId → List NodeId
lead n there ids = cond there (n ∷ ids) ids

none_lower : (n : NodeId) (ids : List NodeId) → Over n ids → filter (λ i. is_node_below i n) ids ≡ []
none_lower n ids over = filter_none (λ i. is_node_below i n) ids (all_map (λ i. is_node_below n i ≡ true) (λ i. is_node_below i n ≡ false) (λ i h. below-asym n i h) ids over)

with_lead : (n : NodeId) (there : Bool) (ids : List NodeId) → Over n ids → with_node (lead n there ids) n ≡ n ∷ ids
with_lead n false ids over = ap (λ xs. xs ++ n ∷ filter (λ i. is_node_below n i) ids) (none_lower n ids over) ∙ ap (λ xs. n ∷ xs) (filter_all (λ i. is_node_below n i) ids over)
with_lead n true ids over =
    ap (λ t. cond t (n ∷ filter (λ i. is_node_below i n) ids) (filter (λ i. is_node_below i n) ids) ++ n ∷ filter (λ i. is_node_below n i) (n ∷ ids)) (is_node_below-self n)
    ∙ ap (λ xs. xs ++ n ∷ filter (λ i. is_node_below n i) (n ∷ ids)) (none_lower n ids over)
    ∙ ap (λ t. n ∷ cond t (n ∷ filter (λ i. is_node_below n i) ids) (filter (λ i. is_node_below n i) ids)) (is_node_below-self n)
    ∙ ap (λ xs. n ∷ xs) (filter_all (λ i. is_node_below n i) ids over)

with_over : (n : NodeId) (there : Bool) (ids : List NodeId) (id : NodeId) → is_node_below n id ≡ true → with_node (lead n there ids) id ≡ lead n there (with_node ids id)
with_over n false ids id h = refl
with_over n true ids id h =
    ap (λ t. cond t (n ∷ filter (λ i. is_node_below i id) ids) (filter (λ i. is_node_below i id) ids) ++ id ∷ filter (λ i. is_node_below id i) (n ∷ ids)) h
    ∙ ap (λ t. n ∷ filter (λ i. is_node_below i id) ids ++ id ∷ cond t (n ∷ filter (λ i. is_node_below id i) ids) (filter (λ i. is_node_below id i) ids)) (below-asym n id h)

-- the rows of higher nodes
abbrev pub rest_of : NodeId → List Row → List Row
rest_of n rows = filter (λ r. is_node_below n r.node) rows

abbrev pub names : NodeId → List Row → Bool
names n rows = list_any (is_node n) (map (λ r. r.node) rows)

-- where no row's node is below a node, this node goes in front of the others
fold_lead : (n : NodeId) (there : Bool) (ids : List NodeId) (rows : List Row) → Over n ids → AllFrom n rows
    → fold with_node (lead n there ids) (map (λ r. r.node) rows) ≡ lead n (there || names n rows) (fold with_node ids (map (λ r. r.node) (rest_of n rows)))
fold_lead n true ids [] over from = refl
fold_lead n false ids [] over from = refl
fold_lead n there ids (r ∷ rows) over from = by (is_node n r.node) refl (λ b acc o. fold_lead n b acc rows o from.1)
  where
    Rest : Type 0
    Rest = (b : Bool) (acc : List NodeId) → Over n acc → fold with_node (lead n b acc) (map (λ r. r.node) rows) ≡ lead n (b || names n rows) (fold with_node acc (map (λ r. r.node) (rest_of n rows)))

    goal_at : (same higher : Bool) → Type 0
    goal_at same higher = fold with_node (with_node (lead n there ids) r.node) (map (λ r. r.node) rows) ≡ lead n (there || (same || names n rows)) (fold with_node ids (map (λ r. r.node) (cond higher (r ∷ rest_of n rows) (rest_of n rows))))

    always : (b c : Bool) (xs : List NodeId) → lead n (true || c) xs ≡ lead n (b || (true || c)) xs
    always true c xs = refl
    always false c xs = refl

    at : (same higher : Bool) → is_node n r.node ≡ same → is_node_below n r.node ≡ higher → goal_at same higher → goal_at (is_node n r.node) (is_node_below n r.node)
    at same higher s h done = subst (λ t. goal_at (is_node n r.node) t) (sym h) (subst (λ t. goal_at t higher) (sym s) done)

    by : (same : Bool) → is_node n r.node ≡ same → Rest → goal_at (is_node n r.node) (is_node_below n r.node)
    by true s rest =
        at true false s (subst (λ k. is_node_below n k ≡ false) (same_node n r.node s) (is_node_below-self n))
        (ap (λ k. fold with_node (with_node (lead n there ids) k) (map (λ r. r.node) rows)) (sym (same_node n r.node s))
        ∙ ap (λ xs. fold with_node xs (map (λ r. r.node) rows)) (with_lead n there ids over)
        ∙ rest true ids over ∙ always there (names n rows) (fold with_node ids (map (λ r. r.node) (rest_of n rows))))
    by false s rest = elim (node_cases n r.node s) [
      | inl up ↦ at false true s up.0 (ap (λ xs. fold with_node xs (map (λ r. r.node) rows)) (with_over n there ids r.node up.0) ∙ rest there (with_node ids r.node) (all_with (λ i. is_node_below n i ≡ true) ids r.node over up.0))
      | inr down ↦ absurd (true≢false (sym down.0 ∙ from.0))
    ]

pub nodes_first : (n : NodeId) (rows : List Row) → AllFrom n rows → names n rows ≡ true → nodes_in rows ≡ n ∷ nodes_in (rest_of n rows)
unfolding nodes_in
nodes_first n rows from named = fold_lead n false [] rows tt from ∙ ap (λ t. lead n t (fold with_node [] (map (λ r. r.node) (rest_of n rows)))) named

pub nodes_over : (n : NodeId) (rows : List Row) → Over n (nodes_in (rest_of n rows))
unfolding nodes_in
nodes_over n rows = all_folded (λ i. is_node_below n i ≡ true) [] (rest_of n rows) tt (all_pass (λ r. is_node_below n r.node) rows)

-- the rows of a higher node are among the rows of higher nodes
pub rows_over : (n id : NodeId) (rows : List Row) → is_node_below n id ≡ true → rows_of id rows ≡ rows_of id (rest_of n rows)
rows_over n id [] h = refl
rows_over n id (r ∷ rows) h = by (is_node id r.node) (is_node_below n r.node) refl refl (rows_over n id rows h)
  where
    by : (a b : Bool) → is_node id r.node ≡ a → is_node_below n r.node ≡ b → rows_of id rows ≡ rows_of id (rest_of n rows)
        → cond (is_node id r.node) (r ∷ rows_of id rows) (rows_of id rows) ≡ rows_of id (cond (is_node_below n r.node) (r ∷ rest_of n rows) (rest_of n rows))
    by true true ae be rest =
        ap (λ t. cond t (r ∷ rows_of id rows) (rows_of id rows)) ae ∙ ap (λ xs. r ∷ xs) rest ∙ sym (ap (λ t. cond t (r ∷ rows_of id (rest_of n rows)) (rows_of id (rest_of n rows))) ae)
        ∙ sym (ap (λ t. rows_of id (cond t (r ∷ rest_of n rows) (rest_of n rows))) be)
    by true false ae be rest = absurd (true≢false (sym (subst (λ k. is_node_below n k ≡ true) (same_node id r.node ae) h) ∙ be))
    by false true ae be rest =
        ap (λ t. cond t (r ∷ rows_of id rows) (rows_of id rows)) ae ∙ rest ∙ sym (ap (λ t. cond t (r ∷ rows_of id (rest_of n rows)) (rows_of id (rest_of n rows))) ae)
        ∙ sym (ap (λ t. rows_of id (cond t (r ∷ rest_of n rows) (rest_of n rows))) be)
    by false false ae be rest = ap (λ t. cond t (r ∷ rows_of id rows) (rows_of id rows)) ae ∙ rest ∙ sym (ap (λ t. rows_of id (cond t (r ∷ rest_of n rows) (rest_of n rows))) be)

flat_same : (f g : NodeId → List Row) (ids : List NodeId) → AllByRecursion (λ i. f i ≡ g i) ids → flat_map f ids ≡ flat_map g ids
flat_same f g [] all = refl
flat_same f g (i ∷ ids) all = ap (λ xs. xs ++ flat_map f ids) all.0 ∙ ap (λ xs. g i ++ xs) (flat_same f g ids all.1)

pub merged_by : (rows : List Row) (id : NodeId) → merged_node rows id ≡ merged_of id (rows_of id rows)
unfolding merged_node merged_of content
merged_by rows id = refl

abbrev pub merged_all : List Row → List Row
merged_all rows = flat_map (merged_node rows) (nodes_in rows)

-- what the lowest node's rows are merged into comes first, and then what the rows of the others are merged into
pub lowest_first : (n : NodeId) (rows : List Row) → AllFrom n rows → names n rows ≡ true → merged_all rows ≡ merged_of n (rows_of n rows) ++ merged_all (rest_of n rows)
lowest_first n rows from named =
    ap (flat_map (merged_node rows)) (nodes_first n rows from named) ∙ ap (λ xs. xs ++ flat_map (merged_node rows) (nodes_in (rest_of n rows))) (merged_by rows n)
    ∙ ap (λ xs. merged_of n (rows_of n rows) ++ xs)
    (flat_same (merged_node rows) (merged_node (rest_of n rows)) (nodes_in (rest_of n rows))
    (all_map (λ i. is_node_below n i ≡ true) (λ i. merged_node rows i ≡ merged_node (rest_of n rows) i) (λ i h. merged_by rows i ∙ ap (merged_of i) (rows_over n i rows h) ∙ sym (merged_by (rest_of n rows) i)) (nodes_in (rest_of n rows)) (nodes_over n rows)))
