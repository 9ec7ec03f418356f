-- The nodes that a search has left, and the bytes that it may still take.
use Rattle.std.proofs.Common.{◌≡◌, ◌⊎◌, ℕ, zero, suc, ◌+◌, ◌*◌, ◌^◌, ◌<◌, ◌≤◌, ◌==◌, true, false, cond, Some, None, List, length, get_or, refl, sym, ap, ◌∙◌, inl, inr, arith, Less, Greater, is_lt}
use lib.Count.{count_leading_zeros}
use Rattle.std.specs.Int.{leading_zeros, w64}
use Rattle.std.proofs.lemmas.Bool.{cases_lt}
use Rattle.std.proofs.lemmas.Nat.{leading_top, pow_below}
use Rattle.std.proofs.Math.Nat.{pow-suc}
use Rattle.std.proofs.lemmas.List.{get_or_default}
use Rattle.std.proofs.lemmas.Bool.Decides.{nat_tests}
use Rattle.fine_model.specs.Nodes.{is_node, rows_of}
use Rattle.partition_index.specs.Search.{sought, span_for}
use Rattle.partition_index.proofs.NodeOrder.{below-trans, below-other}
use Rattle.partition_index.proofs.Sorted.{nodes_ascend, ascend_at, has_rows, no_rows}
use Rattle.std.specs.Ordering.{ordering_reverse}
use Rattle.fine_model.proofs.Merging.NodesIn.{nodes_total}
use Rattle.fine_model.specs.declared.NodeId.{NodeId}
use Rattle.fine_model.specs.declared.Row.{Row}
use Rattle.fine_model.specs.Merge.{is_node_below, node_cmp, nodes_in}
use Rattle.fine_model.specs.Seek.{binary_digits}

-- what stands below a place is below the node, and from another place on above it
pub record Narrowed (rows : List Row) (id : NodeId) (low high : ℕ) : Type 0 where
  pub below : (k : ℕ) (d : NodeId) → k < low → k < length (nodes_in rows) → is_node_below (get_or (nodes_in rows) k d) id ≡ true
  pub above : (k : ℕ) (d : NodeId) → high ≤ k → k < length (nodes_in rows) → is_node_below id (get_or (nodes_in rows) k d) ≡ true

pow_order : (i j : ℕ) → 2 ^ i < 2 ^ j → i < j
pow_order i j h = elim (cases_lt i j) as (λ _. i < j) [
  | inl low ↦ low
  | inr high ↦ elim (cases_lt j i) as (λ _. i < j) [
    | inl above ↦ absurd (omega (arith, pow_below j i above))
    | inr low ↦ let e : i ≡ j = omega arith in absurd (omega (arith, ap (λ n. 2 ^ n) e))
  ]
]

-- at most half of a number has a digit less
pub digits_half : (n m : ℕ) → n < 2 ^ 64 → 1 ≤ n → 2 * m ≤ n → binary_digits m + 1 ≤ binary_digits n
unfolding count_leading_zeros
digits_half n zero small some half =
    let t = leading_top 64 n (omega arith) small in
    let none : leading_zeros w64 0 ≡ 64 = refl in
    let e : leading_zeros w64 n + suc t.0 ≡ 64 = t.1 in
    omega (arith, e, none)
digits_half n (suc m) small some half =
    let t = leading_top 64 n (omega arith) small in
    let s = leading_top 64 (suc m) (omega arith) (omega (arith, small, half)) in
    let e : leading_zeros w64 n + suc t.0 ≡ 64 = t.1 in
    let f : leading_zeros w64 (suc m) + suc s.0 ≡ 64 = s.1 in
    let less : suc s.0 < suc t.0 = pow_order (suc s.0) (suc t.0) (omega (arith, s.2, t.3, half, pow-suc 2 s.0)) in
    omega (arith, e, f, less)

-- the node at a place is one of the two, and the rest of its side is beyond it
pub narrow_up : (rows : List Row) (id : NodeId) (low high middle : ℕ) (d : NodeId) → Narrowed rows id low high → low ≤ middle → middle < length (nodes_in rows) → is_node_below (get_or (nodes_in rows) middle d) id ≡ true → Narrowed rows id (middle + 1) high
narrow_up rows id low high middle d n order here below = record {
  below = λ k e up there. by k e there (cases_lt k middle) up;
  above = n.above;
}
  where
    by : (k : ℕ) (e : NodeId) → k < length (nodes_in rows) → (k < middle) ⊎ (middle ≤ k) → k < middle + 1 → is_node_below (get_or (nodes_in rows) k e) id ≡ true
    by k e there (inl less) up =
        below-trans (get_or (nodes_in rows) k e) (get_or (nodes_in rows) middle e) id (ascend_at (nodes_in rows) k middle e (nodes_ascend rows) less here)
        (ap (λ i. is_node_below i id) (get_or_default (nodes_in rows) middle e d here) ∙ below)
    by k e there (inr same) up =
        let at : k ≡ middle = omega arith in
        ap (λ j. is_node_below (get_or (nodes_in rows) j e) id) at ∙ ap (λ i. is_node_below i id) (get_or_default (nodes_in rows) middle e d here) ∙ below

pub narrow_down : (rows : List Row) (id : NodeId) (low high middle : ℕ) (d : NodeId) → Narrowed rows id low high → middle < length (nodes_in rows) → is_node_below id (get_or (nodes_in rows) middle d) ≡ true → Narrowed rows id low middle
narrow_down rows id low high middle d n here above = record {
  below = n.below;
  above = λ k e up there. by k e there (cases_lt middle k) up;
}
  where
    by : (k : ℕ) (e : NodeId) → k < length (nodes_in rows) → (middle < k) ⊎ (k ≤ middle) → middle ≤ k → is_node_below id (get_or (nodes_in rows) k e) ≡ true
    by k e there (inl more) up =
        below-trans id (get_or (nodes_in rows) middle e) (get_or (nodes_in rows) k e) (ap (is_node_below id) (get_or_default (nodes_in rows) middle e d here) ∙ above)
        (ascend_at (nodes_in rows) middle k e (nodes_ascend rows) more there)
    by k e there (inr same) up =
        let at : k ≡ middle = omega arith in
        ap (λ j. is_node_below id (get_or (nodes_in rows) j e)) at ∙ ap (is_node_below id) (get_or_default (nodes_in rows) middle e d here) ∙ above

-- nothing is left: no row is of the node
pub narrowed_none : (rows : List Row) (id : NodeId) (low high : ℕ) → Narrowed rows id low high → high ≤ low → sought rows id ≡ None
unfolding sought
narrowed_none rows id low high n none =
    let zero_rows : length (rows_of id rows) ≡ 0 = no_rows rows id id (λ k there. other k there (cases_lt k low)) in
    ap (λ n. cond (n == 0) None (Some (span_for rows id))) zero_rows
  where
    other : (k : ℕ) → k < length (nodes_in rows) → (k < low) ⊎ (low ≤ k) → is_node id (get_or (nodes_in rows) k id) ≡ false
    other k there (inl low_k) = (below-other (get_or (nodes_in rows) k id) id (n.below k id low_k there)).1
    other k there (inr high_k) = (below-other id (get_or (nodes_in rows) k id) (n.above k id (omega (arith, none, high_k)) there)).0

-- the node at a place is sought
pub sought_some : (rows : List Row) (i : ℕ) (d : NodeId) → i < length (nodes_in rows) → sought rows (get_or (nodes_in rows) i d) ≡ Some (span_for rows (get_or (nodes_in rows) i d))
unfolding sought
sought_some rows i d here =
    let some = has_rows rows i d here in
    let test : (length (rows_of (get_or (nodes_in rows) i d) rows) == 0) ≡ false = grind (arith, nat_tests) in
    ap (λ t. cond t None (Some (span_for rows (get_or (nodes_in rows) i d)))) test

-- the order of a node at a place and the sought one, as it was compared
pub less_below : (a b : NodeId) → Less ≡ node_cmp a b → is_node_below a b ≡ true
less_below a b h = ap is_lt (sym h)

pub greater_above : (a b : NodeId) → Greater ≡ node_cmp a b → is_node_below b a ≡ true
greater_above a b h = ap is_lt (nodes_total.antisymm b a ∙ ap ordering_reverse (sym h))

-- what a probe leaves to be taken
pub spend : (all old mid new n m : ℕ) → n < 2 ^ 64 → 1 ≤ n → 2 * m ≤ n → mid + 14 * binary_digits n ≤ old + all → new ≤ mid + 14 → new + 14 * binary_digits m ≤ old + all
spend all old mid new n m small some half before now = omega (arith, digits_half n m small some half)
