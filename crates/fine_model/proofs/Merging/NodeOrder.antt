-- The order of nodes, and what a row more does to the nodes of rows.
use Rattle.std.proofs.Common.{◌≡◌, ◌⊎◌, inl, inr, Bool, true, false, cond, List, [], ◌∷◌, ◌++◌, map, refl, sym, ap, ◌∙◌, subst, true≢false, append-nil, is_lt}
use Rattle.std.specs.Prelude.{filter, fold}
use Rattle.std.specs.Ordering.{ordering_reverse}
use Rattle.std.specs.List.{AllByRecursion}
use Rattle.std.proofs.lemmas.List.{map-append}
use Rattle.std.proofs.lemmas.List.Elements.{filter-append}
use Rattle.std.proofs.lemmas.List.Sums.{fold-append}
use Rattle.fine_model.specs.Types.{NodeId, Row}
use Rattle.fine_model.specs.Nodes.{is_node}
use Rattle.fine_model.specs.Merge.{node_cmp, is_node_below, with_node, nodes_in}
use Rattle.fine_model.proofs.Merging.NodesIn.{nodes_total, node_cases, is_node_below-self, same_node}
use Rattle.fine_model.proofs.Ordered.Order.{filter_all, filter_none, all_map, less}

pub below-trans : (a b c : NodeId) → is_node_below a b ≡ true → is_node_below b c ≡ true → is_node_below a c ≡ true
below-trans a b c ab bc = ap is_lt (nodes_total.trans a b c (less (node_cmp a b) ab) (less (node_cmp b c) bc))

pub below-asym : (a b : NodeId) → is_node_below a b ≡ true → is_node_below b a ≡ false
below-asym a b ab = ap is_lt (nodes_total.antisymm b a ∙ ap ordering_reverse (less (node_cmp a b) ab))

-- a node below another is not that one, either way round
pub below-other : (a b : NodeId) → is_node_below a b ≡ true → (is_node a b ≡ false) × (is_node b a ≡ false)
below-other a b ab = (by (is_node a b) refl, turned (is_node b a) refl)
  where
    by : (t : Bool) → is_node a b ≡ t → is_node a b ≡ false
    by true h = absurd (true≢false (sym ab ∙ subst (λ k. is_node_below a k ≡ false) (same_node a b h) (is_node_below-self a)))
    by false h = h

    turned : (t : Bool) → is_node b a ≡ t → is_node b a ≡ false
    turned true h = absurd (true≢false (sym ab ∙ subst (λ k. is_node_below k b ≡ false) (same_node b a h) (is_node_below-self b)))
    turned false h = h

-- of two nodes, the second is above the first, or the same where it is not below it
pub above_or_same : (a b : NodeId) → is_node_below b a ≡ false → (is_node_below a b ≡ true) ⊎ (a ≡ b)
above_or_same a b h = by (is_node a b) refl
  where
    by : (t : Bool) → is_node a b ≡ t → (is_node_below a b ≡ true) ⊎ (a ≡ b)
    by true e = inr (same_node a b e)
    by false e = elim (node_cases a b e) [
      | inl p ↦ inl p.0
      | inr p ↦ absurd (true≢false (sym p.0 ∙ h))
    ]

-- what is not above a node is below each node above it
pub not_above_below : (p e r : NodeId) → is_node_below e p ≡ false → is_node_below e r ≡ true → is_node_below p r ≡ true
not_above_below p e r upto er = elim (above_or_same p e upto) [
  | inl pe ↦ below-trans p e r pe er
  | inr same ↦ subst (λ k. is_node_below k r ≡ true) (sym same) er
]

abbrev pub AllBelow : NodeId → List NodeId → Type 0
AllBelow id ids = AllByRecursion (λ i. is_node_below i id ≡ true) ids

none_above : (id : NodeId) (ids : List NodeId) → AllBelow id ids → AllByRecursion (λ i. is_node_below id i ≡ false) ids
none_above id ids below = all_map (λ i. is_node_below i id ≡ true) (λ i. is_node_below id i ≡ false) (λ i h. below-asym i id h) ids below

-- the nodes of one row more
pub nodes_more : (rows : List Row) (row : Row) → nodes_in (rows ++ row ∷ []) ≡ with_node (nodes_in rows) row.node
unfolding nodes_in
nodes_more rows row = ap (fold with_node []) (map-append (λ r. r.node) rows (row ∷ [])) ∙ fold-append with_node [] (map (λ r. r.node) rows) (row.node ∷ [])

pub with_above : (ids : List NodeId) (id : NodeId) → AllBelow id ids → with_node ids id ≡ ids ++ id ∷ []
with_above ids id below =
    ap (λ xs. xs ++ id ∷ filter (λ i. is_node_below id i) ids) (filter_all (λ i. is_node_below i id) ids below)
    ∙ ap (λ xs. ids ++ id ∷ xs) (filter_none (λ i. is_node_below id i) ids (none_above id ids below))

pub with_last : (ids : List NodeId) (id : NodeId) → AllBelow id ids → with_node (ids ++ id ∷ []) id ≡ ids ++ id ∷ []
with_last ids id below =
    ap (λ xs. xs ++ id ∷ filter (λ i. is_node_below id i) (ids ++ id ∷ [])) lower ∙ ap (λ xs. ids ++ id ∷ xs) higher
  where
    lower : filter (λ i. is_node_below i id) (ids ++ id ∷ []) ≡ ids
    lower =
        filter-append (λ i. is_node_below i id) ids (id ∷ []) ∙ ap (λ xs. xs ++ filter (λ i. is_node_below i id) (id ∷ [])) (filter_all (λ i. is_node_below i id) ids below)
        ∙ ap (λ t. ids ++ cond t (id ∷ []) []) (is_node_below-self id) ∙ append-nil ids

    higher : filter (λ i. is_node_below id i) (ids ++ id ∷ []) ≡ []
    higher =
        filter-append (λ i. is_node_below id i) ids (id ∷ []) ∙ ap (λ xs. xs ++ filter (λ i. is_node_below id i) (id ∷ [])) (filter_none (λ i. is_node_below id i) ids (none_above id ids below))
        ∙ ap (λ t. cond t (id ∷ []) []) (is_node_below-self id)
