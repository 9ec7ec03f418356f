-- The order of nodes, and what a row more does to the entries of rows.
use Rattle.std.proofs.Common.{◌≡◌, ℕ, ◌+◌, Bool, true, false, cond, List, [], ◌∷◌, ◌++◌, map, length, refl, sym, ap, ◌∙◌, subst, append-nil, length-append}
use Rattle.std.specs.Prelude.{filter}
use Rattle.std.specs.List.{AllByRecursion}
use Rattle.std.proofs.lemmas.List.Elements.{filter-append}
use Rattle.fine_model.specs.declared.NodeId.{NodeId}
use Rattle.fine_model.specs.declared.Row.{Row}
use Rattle.fine_model.specs.Nodes.{is_node, rows_of}
use Rattle.fine_model.specs.RowBytes.{rows_len}
use Rattle.fine_model.specs.Merge.{is_node_below}
use Rattle.fine_model.proofs.Merging.NodesIn.{is_node_below-self, is_node-self}
use Rattle.fine_model.proofs.Ordered.Order.{filter_all, filter_none, all_map}
use Rattle.partition_index.specs.Entries.{entry_for}
pub use Rattle.fine_model.proofs.Merging.NodeOrder.{AllBelow, below-trans, below-asym, below-other, above_or_same, not_above_below, nodes_more, with_above, with_last}

-- where the rows of a node begin, and how many there are
abbrev pub offset_of : List Row → NodeId → ℕ
offset_of rows id = rows_len (filter (λ r. is_node_below r.node id) rows)

filter_more : (p : Row → Bool) (rows : List Row) (row : Row) (t : Bool) → p row ≡ t → filter p (rows ++ row ∷ []) ≡ filter p rows ++ cond t (row ∷ []) []
filter_more p rows row t h = filter-append p rows (row ∷ []) ∙ ap (λ b. filter p rows ++ cond b (row ∷ []) []) h

offset_kept : (rows : List Row) (row : Row) (id : NodeId) → is_node_below row.node id ≡ false → offset_of (rows ++ row ∷ []) id ≡ offset_of rows id
offset_kept rows row id h = ap rows_len (filter_more (λ r. is_node_below r.node id) rows row false h ∙ append-nil (filter (λ r. is_node_below r.node id) rows))

rows_kept : (rows : List Row) (row : Row) (id : NodeId) → is_node id row.node ≡ false → rows_of id (rows ++ row ∷ []) ≡ rows_of id rows
rows_kept rows row id h = filter_more (λ r. is_node id r.node) rows row false h ∙ append-nil (rows_of id rows)

-- a row of a node above another leaves the other's entry
pub entry_kept : (rows : List Row) (row : Row) (id : NodeId) → is_node_below id row.node ≡ true → entry_for (rows ++ row ∷ []) id ≡ entry_for rows id
entry_kept rows row id h =
    let a = offset_kept rows row id (below-asym id row.node h) in
    let b = ap length (rows_kept rows row id (below-other id row.node h).0) in λ k. record { node = id; offset = a k; rows = b k }

pub entries_kept : (rows : List Row) (row : Row) (ids : List NodeId) → AllBelow row.node ids → map (entry_for (rows ++ row ∷ [])) ids ≡ map (entry_for rows) ids
entries_kept rows row [] below = refl
entries_kept rows row (i ∷ ids) below = let a = entry_kept rows row i below.0 in let b = entries_kept rows row ids below.1 in λ k. a k ∷ b k

-- one row more of the last node
pub entry_counts : (rows : List Row) (row : Row) (id : NodeId) → row.node ≡ id → entry_for (rows ++ row ∷ []) id ≡ record { node = id; offset = offset_of rows id; rows = length (rows_of id rows) + 1 }
entry_counts rows row id same =
    let a = offset_kept rows row id (subst (λ k. is_node_below k id ≡ false) (sym same) (is_node_below-self id)) in
    let e : rows_of id (rows ++ row ∷ []) ≡ rows_of id rows ++ row ∷ [] = filter_more (λ r. is_node id r.node) rows row true (subst (λ k. is_node id k ≡ true) (sym same) (is_node-self id)) in
    let b : length (rows_of id (rows ++ row ∷ [])) ≡ length (rows_of id rows) + 1 = ap length e ∙ length-append (rows_of id rows) (row ∷ []) in λ k. record { node = id; offset = a k; rows = b k }

-- the first row of a node above all others
pub entry_begins : (rows : List Row) (row : Row) → AllByRecursion (λ r. is_node_below r.node row.node ≡ true) rows → entry_for (rows ++ row ∷ []) row.node ≡ record { node = row.node; offset = rows_len rows; rows = 1 }
entry_begins rows row below =
    let a : offset_of (rows ++ row ∷ []) row.node ≡ rows_len rows = offset_kept rows row row.node (is_node_below-self row.node) ∙ ap rows_len (filter_all (λ r. is_node_below r.node row.node) rows below) in
    let none : rows_of row.node rows ≡ [] = filter_none (λ r. is_node row.node r.node) rows (all_map (λ r. is_node_below r.node row.node ≡ true) (λ r. is_node row.node r.node ≡ false) (λ r h. (below-other r.node row.node h).1) rows below) in
    let e : rows_of row.node (rows ++ row ∷ []) ≡ row ∷ [] = filter_more (λ r. is_node row.node r.node) rows row true (is_node-self row.node) ∙ ap (λ xs. xs ++ row ∷ []) none in
    let b : length (rows_of row.node (rows ++ row ∷ [])) ≡ 1 = ap length e in λ k. record { node = row.node; offset = a k; rows = b k }
