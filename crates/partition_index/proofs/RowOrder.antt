-- Rows in order: those of the nodes below one, its own, and those of the nodes above it.
use Rattle.std.proofs.Common.{◌≡◌, ◌⊎◌, Bool, true, false, cond, IsTrue, List, [], ◌∷◌, ◌++◌, refl, sym, ap, ◌∙◌, subst, inl, inr, Ordering, Less, Equal, Greater, is_lt, nat_cmp}
use Rattle.std.specs.Prelude.{filter}
use Rattle.std.specs.List.{AllByRecursion}
use Rattle.std.specs.Ordering.{ordering_then}
use Rattle.std.proofs.lemmas.Bool.{true≢false}
use Rattle.fine_model.specs.declared.NodeId.{NodeId}
use Rattle.fine_model.specs.declared.Row.{Row}
use Rattle.fine_model.specs.Nodes.{is_node, rows_of}
use Rattle.fine_model.specs.Merge.{node_cmp, is_node_below, is_row_below, is_ordered}
use Rattle.fine_model.proofs.Merging.NodesIn.{exact_nodes, node_cases, is_node_below-self, same_node}
use Rattle.fine_model.proofs.Ordered.Order.{filter_all, filter_none, first_of_both, all_map}
pub use Rattle.partition_index.specs.Index.{AllFrom}
use Rattle.partition_index.proofs.NodeOrder.{below-trans, below-asym, below-other}

-- the node of a row is below that of a row above it, or the same
row_order : (r s : Row) → is_row_below r s ≡ true → (is_node_below r.node s.node ≡ true) ⊎ (r.node ≡ s.node)
row_order r s h = by (node_cmp r.node s.node) refl h
  where
    by : (o : Ordering) → node_cmp r.node s.node ≡ o → is_lt (ordering_then o (nat_cmp r.version s.version)) ≡ true → (is_node_below r.node s.node ≡ true) ⊎ (r.node ≡ s.node)
    by Less e h = inl (ap is_lt e)
    by Equal e h = inr (exact_nodes r.node s.node e)
    by Greater e h = absurd (true≢false (sym h))

abbrev pub AllAbove : NodeId → List Row → Type 0
AllAbove n rows = AllByRecursion (λ r. is_node_below n r.node ≡ true) rows

above_next : (n : NodeId) (r s : Row) → is_row_below r s ≡ true → is_node_below n r.node ≡ true → is_node_below n s.node ≡ true
above_next n r s up h = elim (row_order r s up) [
  | inl below ↦ below-trans n r.node s.node h below
  | inr same ↦ subst (λ k. is_node_below n k ≡ true) same h
]

from_next : (n : NodeId) (r s : Row) → is_row_below r s ≡ true → is_node_below r.node n ≡ false → is_node_below s.node n ≡ false
from_next n r s up h = by (is_node_below s.node n) refl
  where
    by : (t : Bool) → is_node_below s.node n ≡ t → is_node_below s.node n ≡ false
    by false e = e
    by true e = elim (row_order r s up) [
      | inl below ↦ absurd (true≢false (sym (below-trans r.node s.node n below e) ∙ h))
      | inr same ↦ absurd (true≢false (sym e ∙ subst (λ k. is_node_below k n ≡ false) same h))
    ]

-- in rows in order, where a node is below the first row's, it is below each row's
pub all_above : (n : NodeId) (r : Row) (rows : List Row) → IsTrue (is_ordered (r ∷ rows)) → is_node_below n r.node ≡ true → AllAbove n (r ∷ rows)
all_above n r [] up h = (h, tt)
all_above n r (s ∷ rows) up h =
    let both = first_of_both (is_row_below r s) (is_ordered (s ∷ rows)) up in (h, all_above n s rows both.1 (above_next n r s both.0 h))

-- where the first row's node is not below a node, no row's is
pub all_from : (n : NodeId) (r : Row) (rows : List Row) → IsTrue (is_ordered (r ∷ rows)) → is_node_below r.node n ≡ false → AllFrom n (r ∷ rows)
all_from n r [] up h = (h, tt)
all_from n r (s ∷ rows) up h =
    let both = first_of_both (is_row_below r s) (is_ordered (s ∷ rows)) up in (h, all_from n s rows both.1 (from_next n r s both.0 h))

pub ordered_tail : (r : Row) (rows : List Row) → IsTrue (is_ordered (r ∷ rows)) → IsTrue (is_ordered rows)
ordered_tail r [] up = refl
ordered_tail r (s ∷ rows) up = (first_of_both (is_row_below r s) (is_ordered (s ∷ rows)) up).1

-- the rows of the nodes below one, and of those above it
abbrev pub lower_than : NodeId → List Row → List Row
lower_than n rows = filter (λ r. is_node_below r.node n) rows

abbrev pub higher_than : NodeId → List Row → List Row
higher_than n rows = filter (λ r. is_node_below n r.node) rows

none_own : (n : NodeId) (rows : List Row) → AllAbove n rows → rows_of n rows ≡ []
none_own n rows above = filter_none (λ r. is_node n r.node) rows (all_map (λ r. is_node_below n r.node ≡ true) (λ r. is_node n r.node ≡ false) (λ r h. (below-other n r.node h).0) rows above)

-- rows none of which is below a node: its own, and those of the nodes above it
own_then_higher : (n : NodeId) (rows : List Row) → IsTrue (is_ordered rows) → AllFrom n rows → rows ≡ rows_of n rows ++ higher_than n rows
own_then_higher n [] up from = refl
own_then_higher n (r ∷ rows) up from = by (is_node n r.node) refl (own_then_higher n rows (ordered_tail r rows up) from.1)
  where
    by : (t : Bool) → is_node n r.node ≡ t → rows ≡ rows_of n rows ++ higher_than n rows → r ∷ rows ≡ rows_of n (r ∷ rows) ++ higher_than n (r ∷ rows)
    by true e rest =
        ap (λ xs. r ∷ xs) rest
        ∙ sym (ap (λ t. cond t (r ∷ rows_of n rows) (rows_of n rows) ++ higher_than n (r ∷ rows)) e
        ∙ ap (λ t. r ∷ rows_of n rows ++ cond t (r ∷ higher_than n rows) (higher_than n rows)) (subst (λ k. is_node_below n k ≡ false) (same_node n r.node e) (is_node_below-self n)))
    by false e rest = elim (node_cases n r.node e) [
      | inl up_here ↦
          let above = all_above n r rows up up_here.0 in
          sym (ap (λ xs. xs ++ higher_than n (r ∷ rows)) (none_own n (r ∷ rows) above) ∙ filter_all (λ x. is_node_below n x.node) (r ∷ rows) above)
      | inr down ↦ absurd (true≢false (sym down.0 ∙ from.0))
    ]

-- rows in order, by a node
pub parted : (n : NodeId) (rows : List Row) → IsTrue (is_ordered rows) → rows ≡ lower_than n rows ++ (rows_of n rows ++ higher_than n rows)
parted n [] up = refl
parted n (r ∷ rows) up = by (is_node_below r.node n) refl (parted n rows (ordered_tail r rows up))
  where
    by : (t : Bool) → is_node_below r.node n ≡ t → rows ≡ lower_than n rows ++ (rows_of n rows ++ higher_than n rows) → r ∷ rows ≡ lower_than n (r ∷ rows) ++ (rows_of n (r ∷ rows) ++ higher_than n (r ∷ rows))
    by true e rest =
        ap (λ xs. r ∷ xs) rest
        ∙ sym (ap (λ t. cond t (r ∷ lower_than n rows) (lower_than n rows) ++ (rows_of n (r ∷ rows) ++ higher_than n (r ∷ rows))) e
        ∙ ap (λ t. r ∷ lower_than n rows ++ (cond t (r ∷ rows_of n rows) (rows_of n rows) ++ higher_than n (r ∷ rows))) (below-other r.node n e).1
        ∙ ap (λ t. r ∷ lower_than n rows ++ (rows_of n rows ++ cond t (r ∷ higher_than n rows) (higher_than n rows))) (below-asym r.node n e))
    by false e rest =
        let from = all_from n r rows up e in
        own_then_higher n (r ∷ rows) up from
        ∙ sym (ap (λ xs. xs ++ (rows_of n (r ∷ rows) ++ higher_than n (r ∷ rows))) (filter_none (λ x. is_node_below x.node n) (r ∷ rows) from))
