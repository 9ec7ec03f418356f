-- What merging leaves in each node.
use Rattle.std.proofs.Common.{◌≡◌, ◌≢◌, ℕ, Bool, true, false, cond, ◌||◌, List, [], ◌∷◌, ◌++◌, map, refl, sym, ap, ◌∙◌, subst, inl, inr, true≢false, append-nil}
use Rattle.std.specs.Prelude.{flat_map}
use Rattle.std.specs.List.{list_any, AllByRecursion}
use Rattle.fine_model.specs.Types.{NodeId, Row, Node}
use Rattle.fine_model.specs.Types.node
use Rattle.fine_model.specs.Nodes.{Content, base, step, replay, is_node, rows_of, content}
use Rattle.fine_model.specs.Merge.{nodes_in, image_of, merged_into, merged_node, merged}
use Rattle.fine_model.proofs.Trees.NodeLaws.{content-append, rows_of-append}
use Rattle.fine_model.proofs.Merging.NodesIn.{same_node, times, times-nodes_in}
use Rattle.fine_model.proofs.Merging.MergeLaws.{IsBase, replay-merged_into}

-- the rows of a node among those of another: all, or none
rows_of-rows_of : (id j : NodeId) (rows : List Row) → rows_of id (rows_of j rows) ≡ cond (is_node id j) (rows_of j rows) []
rows_of-rows_of id j [] = by (is_node id j)
  where
    by : (b : Bool) → ◌≡◌ {A = List Row} [] (cond b [] [])
    by true = refl
    by false = refl
rows_of-rows_of id j (row ∷ rows) = by (rows_of-rows_of id j rows) (is_node j row.node) (is_node id j) refl refl
  where
    by : rows_of id (rows_of j rows) ≡ cond (is_node id j) (rows_of j rows) [] → (a b : Bool) → is_node j row.node ≡ a → is_node id j ≡ b
        → rows_of id (cond (is_node j row.node) (row ∷ rows_of j rows) (rows_of j rows)) ≡ cond (is_node id j) (cond (is_node j row.node) (row ∷ rows_of j rows) (rows_of j rows)) []
    by rest false b here same = ap (λ c. rows_of id (cond c (row ∷ rows_of j rows) (rows_of j rows))) here ∙ rest ∙ sym (ap (λ c. cond (is_node id j) (cond c (row ∷ rows_of j rows) (rows_of j rows)) []) here)
    by rest true true here same =
        ap (λ c. rows_of id (cond c (row ∷ rows_of j rows) (rows_of j rows))) here
        ∙ ap (λ c. cond c (row ∷ rows_of id (rows_of j rows)) (rows_of id (rows_of j rows))) (subst (λ k. is_node k row.node ≡ true) (sym (same_node id j same)) here)
        ∙ ap (λ xs. row ∷ xs) (rest ∙ ap (λ c. cond c (rows_of j rows) []) same)
        ∙ sym (ap (λ c. cond (is_node id j) (cond c (row ∷ rows_of j rows) (rows_of j rows)) []) here ∙ ap (λ c. cond c (row ∷ rows_of j rows) []) same)
    by rest true false here same =
        ap (λ c. rows_of id (cond c (row ∷ rows_of j rows) (rows_of j rows))) here
        ∙ ap (λ c. cond c (row ∷ rows_of id (rows_of j rows)) (rows_of id (rows_of j rows))) (subst (λ k. is_node id k ≡ false) (same_node j row.node here) same)
        ∙ rest ∙ ap (λ c. cond c (rows_of j rows) []) same
        ∙ sym (ap (λ c. cond (is_node id j) (cond c (row ∷ rows_of j rows) (rows_of j rows)) []) here ∙ ap (λ c. cond c (row ∷ rows_of j rows) []) same)

-- one row, or else rows, of which all or none are of the node
rows_of-chosen : (id j : NodeId) (test : Bool) (row : Row) (own : List Row) → row.node ≡ j → rows_of id own ≡ cond (is_node id j) own []
    → rows_of id (cond test (row ∷ []) own) ≡ cond (is_node id j) (cond test (row ∷ []) own) []
rows_of-chosen id j true row own of_j all = ap (λ k. cond (is_node id k) (row ∷ []) []) of_j
rows_of-chosen id j false row own of_j all = all

-- the rows of a node among the merged rows of another: all, or none
rows_of-merged_into : (id j : NodeId) (own : List Row) (version : ℕ) (n : Node) → rows_of id own ≡ cond (is_node id j) own [] → rows_of id (merged_into j own version (image_of n)) ≡ cond (is_node id j) (merged_into j own version (image_of n)) []
unfolding merged_into
rows_of-merged_into id j own version (node.Head root next depth) all = rows_of-chosen id j _ _ own refl all
rows_of-merged_into id j own version (node.Leaf pairs) all = rows_of-chosen id j _ _ own refl all
rows_of-merged_into id j own version (node.Inner seps kids) all = rows_of-chosen id j _ _ own refl all
rows_of-merged_into id j own version node.Broken all = all

rows_of-merged_node : (id j : NodeId) (rows : List Row) → rows_of id (merged_node rows j) ≡ cond (is_node id j) (merged_node rows j) []
unfolding merged_node
rows_of-merged_node id j rows = rows_of-merged_into id j (rows_of j rows) (content rows j).1 (content rows j).0 (rows_of-rows_of id j rows)

-- the rows of a node among the merged rows of nodes: its merged rows, as often as it stands among these
rows_of-flat_map : (id : NodeId) (rows : List Row) (ids : List NodeId) → rows_of id (flat_map (merged_node rows) ids) ≡ flat_map (merged_node rows) (times id ids)
rows_of-flat_map id rows [] = refl
rows_of-flat_map id rows (j ∷ ids) =
    rows_of-append id (merged_node rows j) (flat_map (merged_node rows) ids)
    ∙ ap (λ xs. rows_of id (merged_node rows j) ++ xs) (rows_of-flat_map id rows ids)
    ∙ ap (λ xs. xs ++ flat_map (merged_node rows) (times id ids)) (rows_of-merged_node id j rows) ∙ by (is_node id j)
  where
    by : (b : Bool) → cond b (merged_node rows j) [] ++ flat_map (merged_node rows) (times id ids) ≡ flat_map (merged_node rows) (cond b (j ∷ times id ids) (times id ids))
    by true = refl
    by false = refl

-- a node that no row names has no rows
no_rows : (id : NodeId) (rows : List Row) → list_any (is_node id) (map (λ r. r.node) rows) ≡ false → rows_of id rows ≡ []
no_rows id [] none = refl
no_rows id (row ∷ rows) none = by (no_rows id rows) (is_node id row.node) refl none
  where
    by : (list_any (is_node id) (map (λ r. r.node) rows) ≡ false → rows_of id rows ≡ []) → (b : Bool) → is_node id row.node ≡ b → (is_node id row.node || list_any (is_node id) (map (λ r. r.node) rows)) ≡ false → cond (is_node id row.node) (row ∷ rows_of id rows) (rows_of id rows) ≡ []
    by rest true is none = absurd (true≢false (sym (ap (λ c. c || list_any (is_node id) (map (λ r. r.node) rows)) is) ∙ none))
    by rest false is none = ap (λ c. cond c (row ∷ rows_of id rows) (rows_of id rows)) is ∙ rest (sym (ap (λ c. c || list_any (is_node id) (map (λ r. r.node) rows)) is) ∙ none)

-- no rows are merged into none
nothing_merged : (id : NodeId) (rows : List Row) → rows_of id rows ≡ [] → merged_node rows id ≡ []
unfolding merged_node merged_into
nothing_merged id rows none = ap (λ own. merged_into id own (content rows id).1 (image_of (content rows id).0)) none ∙ by (content rows id).0
  where
    by : (n : Node) → merged_into id [] (content rows id).1 (image_of n) ≡ []
    by (node.Head root next depth) = refl
    by (node.Leaf pairs) = refl
    by (node.Inner seps kids) = refl
    by node.Broken = refl

-- the merged rows of a node are those that its rows are merged into
pub rows_of-merged : (id : NodeId) (older newer : List Row) → rows_of id (merged older newer) ≡ merged_node (older ++ newer) id
unfolding merged
rows_of-merged id older newer =
    rows_of-flat_map id (older ++ newer) (nodes_in (older ++ newer)) ∙ ap (flat_map (merged_node (older ++ newer))) (times-nodes_in id (older ++ newer))
    ∙ by (list_any (is_node id) (map (λ r. r.node) (older ++ newer))) refl
  where
    by : (b : Bool) → list_any (is_node id) (map (λ r. r.node) (older ++ newer)) ≡ b → flat_map (merged_node (older ++ newer)) (cond b (id ∷ []) []) ≡ merged_node (older ++ newer) id
    by true named = append-nil (merged_node (older ++ newer) id)
    by false none = sym (nothing_merged id (older ++ newer) (no_rows id (older ++ newer) none))

-- rows with versions from 1 on leave a node as it began, or with a version
replay_based : (id : NodeId) (rows : List Row) (c : Content) → AllByRecursion (λ row. row.version ≢ 0) rows → IsBase id c → IsBase id (replay c (rows_of id rows))
unfolding replay step
replay_based id [] c versions from = from
replay_based id (row ∷ rows) c versions from = by (replay_based id rows (step c row) versions.1 (inr versions.0)) (replay_based id rows c versions.1 from) (is_node id row.node)
  where
    by : IsBase id (replay (step c row) (rows_of id rows)) → IsBase id (replay c (rows_of id rows)) → (b : Bool) → IsBase id (replay c (cond b (row ∷ rows_of id rows) (rows_of id rows)))
    by with without true = with
    by with without false = without

-- Merged rows in place of the two lists that they were merged from change nothing, whatever stands before and after them.
pub content-merged : (before older newer after : List Row) (id : NodeId) → AllByRecursion (λ row. row.version ≢ 0) before
    → (content (before ++ ((older ++ newer) ++ after)) id).0 ≢ node.Broken
    → content (before ++ (merged older newer ++ after)) id ≡ content (before ++ ((older ++ newer) ++ after)) id
unfolding content merged_node
content-merged before older newer after id versions whole =
    content-append before (merged older newer ++ after) id
    ∙ ap (replay (content before id)) (rows_of-append id (merged older newer) after ∙ ap (λ xs. xs ++ rows_of id after) (rows_of-merged id older newer))
    ∙ replay-merged_into id own (rows_of id after) (content before id) (replay_based id before (base id) versions (inl refl)) (λ broken. whole (ap (λ c. c.0) laid_out ∙ broken))
    ∙ sym laid_out
  where
    own : List Row
    own = rows_of id (older ++ newer)

    laid_out : content (before ++ ((older ++ newer) ++ after)) id ≡ replay (content before id) (own ++ rows_of id after)
    laid_out = content-append before ((older ++ newer) ++ after) id ∙ ap (replay (content before id)) (rows_of-append id (older ++ newer) after)
