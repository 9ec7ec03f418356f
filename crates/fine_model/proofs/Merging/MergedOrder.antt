-- When merged rows are in order.
use Rattle.std.proofs.Common.{◌≡◌, ℕ, ◌&&◌, Bool, true, false, cond, List, [], ◌∷◌, ◌++◌, refl, sym, ap, ◌∙◌, subst, is_lt, nat_cmp}
use Rattle.std.specs.Prelude.{flat_map, Option, Some, None}
use Rattle.std.specs.Ordering.{ordering_then}
use Rattle.std.specs.List.{AllByRecursion, list_all}
use Rattle.fine_model.specs.Types.{NodeId, Rec, Row}
use Rattle.fine_model.specs.Nodes.{is_node, rows_of, content}
use Rattle.fine_model.specs.Merge.{node_cmp, is_node_below, is_row_below, is_ordered, nodes_in, image_of, merged_into, merged_node, merged}
use Rattle.fine_model.specs.MergeSteps.{MergedOrder}
use Rattle.fine_model.proofs.Ordered.Order.{less, all_map}
use Rattle.fine_model.proofs.Ordered.Sets.{all_append, all_pass}
use Rattle.fine_model.proofs.Merging.NodesIn.{same_node}
use Rattle.fine_model.proofs.Merging.NodesAscend.{AllAbove, Ascend, nodes_ascend}

-- all rows are of a node, or of nodes above it
abbrev AreOf : NodeId → List Row → Type 0
AreOf id rows = AllByRecursion (λ row. row.node ≡ id) rows

abbrev AreAbove : NodeId → List Row → Type 0
AreAbove id rows = AllByRecursion (λ row. is_node_below id row.node ≡ true) rows

lower_row : (a b : Row) → is_node_below a.node b.node ≡ true → is_row_below a b ≡ true
lower_row a b h = ap (λ o. is_lt (ordering_then o (nat_cmp a.version b.version))) (less (node_cmp a.node b.node) h)

and_assoc : (a b c : Bool) → (a && (b && c)) ≡ ((a && b) && c)
and_assoc true b c = refl
and_assoc false b c = refl

-- rows of a node and then rows of nodes above it
ordered_both : (id : NodeId) (xs ys : List Row) → AreOf id xs → AreAbove id ys → is_ordered (xs ++ ys) ≡ (is_ordered xs && is_ordered ys)
ordered_both id [] ys of_id above = refl
ordered_both id (x ∷ []) [] of_id above = refl
ordered_both id (x ∷ []) (y ∷ ys) of_id above =
    ap (λ b. b && is_ordered (y ∷ ys)) (lower_row x y (subst (λ k. is_node_below k y.node ≡ true) (sym of_id.0) above.0))
ordered_both id (x ∷ z ∷ xs) ys of_id above =
    ap (λ b. is_row_below x z && b) (ordered_both id (z ∷ xs) ys of_id.1 above) ∙ and_assoc (is_row_below x z) (is_ordered (z ∷ xs)) (is_ordered ys)

module _ (f : NodeId → List Row) (each : (id : NodeId) → AreOf id (f id)) where
  all_above : (id : NodeId) (ids : List NodeId) → AllAbove id ids → AreAbove id (flat_map f ids)
  all_above id [] above = tt
  all_above id (i ∷ ids) above =
      all_append (λ row. is_node_below id row.node ≡ true) (f i) (flat_map f ids)
      (all_map (λ row. row.node ≡ i) (λ row. is_node_below id row.node ≡ true) (λ row e. subst (λ k. is_node_below id k ≡ true) (sym e) above.0) (f i) (each i)) (all_above id ids above.1)

  -- rows node by node
  ordered_flat : (ids : List NodeId) → Ascend ids → is_ordered (flat_map f ids) ≡ list_all (λ id. is_ordered (f id)) ids
  ordered_flat [] up = refl
  ordered_flat (id ∷ ids) up = ordered_both id (f id) (flat_map f ids) (each id) (all_above id ids up.0) ∙ ap (λ b. is_ordered (f id) && b) (ordered_flat ids up.1)

chosen_of : (id : NodeId) (own : List Row) (b : Bool) (row : Row) → row.node ≡ id → AreOf id own → AreOf id (cond b (row ∷ []) own)
chosen_of id own true row e of_id = (e, tt)
chosen_of id own false row e of_id = of_id

merged_of : (id : NodeId) (own : List Row) (version : ℕ) (o : Option Rec) → AreOf id own → AreOf id (merged_into id own version o)
unfolding merged_into
merged_of id own version None of_id = of_id
merged_of id own version (Some image) of_id = chosen_of id own _ _ refl of_id

node_of : (rows : List Row) (id : NodeId) → AreOf id (merged_node rows id)
unfolding merged_node
node_of rows id =
    merged_of id (rows_of id rows) (content rows id).1 (image_of (content rows id).0)
    (all_map (λ row. is_node id row.node ≡ true) (λ row. row.node ≡ id) (λ row h. sym (same_node id row.node h)) (rows_of id rows) (all_pass (λ row. is_node id row.node) rows))

pub merged_order : MergedOrder
unfolding merged
merged_order older newer = ordered_flat (merged_node (older ++ newer)) (node_of (older ++ newer)) (nodes_in (older ++ newer)) (nodes_ascend (older ++ newer))
