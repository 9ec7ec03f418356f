-- What rows cost together is no more than what they cost apart.
use Rattle.std.proofs.Common.{◌≡◌, ◌+◌, ◌≤◌, Bool, true, false, cond, List, [], ◌∷◌, ◌++◌, map, length, refl, sym, ap, ◌∙◌, arith, length-append}
use Rattle.std.specs.Prelude.{◌||◌}
use Rattle.std.specs.List.{list_any, IsDistinct}
use Rattle.std.specs.Cmp.{IsEquivalence}
use Rattle.std.proofs.lemmas.Bool.{true≢false}
use Rattle.std.proofs.lemmas.List.{map-append}
use Rattle.std.proofs.lemmas.List.Sums.{sum_by-append}
use Rattle.std.proofs.lemmas.List.Folds.{list_any-append}
use Rattle.std.proofs.lemmas.Map.Made.{length-le_from_is_member}
use Rattle.fine_model.specs.declared.NodeId.{NodeId}
use Rattle.fine_model.specs.declared.Row.{Row}
use Rattle.fine_model.specs.RowBytes.{row_len}
use Rattle.fine_model.specs.Nodes.{is_node}
use Rattle.fine_model.specs.Merge.{is_node_below, nodes_in, cost}
use Rattle.fine_model.proofs.Merging.NodesIn.{times, times-nodes_in, is_node-self, same_node}
use Rattle.fine_model.proofs.Ordered.Order.{all_map}
use Rattle.partition_index.proofs.NodeOrder.{below-other}
use Rattle.partition_index.proofs.Sorted.{Ascend, nodes_ascend}

nodes_alike : IsEquivalence is_node
nodes_alike = record { refl = is_node-self; symm = both_ways; congr = λ i j k h. ap (λ n. is_node n k) (same_node i j h) }
  where
    either : (i j : NodeId) (s t : Bool) → is_node i j ≡ s → is_node j i ≡ t → s ≡ t
    either i j true true e f = refl
    either i j false false e f = refl
    either i j true false e f = absurd (true≢false (sym (is_node-self j) ∙ ap (λ n. is_node j n) (sym (same_node i j e)) ∙ f))
    either i j false true e f = absurd (true≢false (sym (is_node-self i) ∙ ap (λ n. is_node i n) (sym (same_node j i f)) ∙ e))

    both_ways : (i j : NodeId) → is_node i j ≡ is_node j i
    both_ways i j = either i j (is_node i j) (is_node j i) refl refl

distinct_nodes : (ids : List NodeId) → Ascend ids → IsDistinct is_node ids
unfolding IsDistinct
distinct_nodes [] up = tt
distinct_nodes (i ∷ ids) up = (all_map (λ j. is_node_below i j ≡ true) (λ j. is_node i j ≡ false) (λ j h. (below-other i j h).0) ids up.0, distinct_nodes ids up.1)

-- a node is among others where it stands there some number of times
any_times : (id : NodeId) (ids : List NodeId) (t : Bool) → times id ids ≡ cond t (id ∷ []) [] → list_any (is_node id) ids ≡ t
any_times id [] true e = absurd (cc)
any_times id [] false e = refl
any_times id (i ∷ ids) t e = by (is_node id i) t refl e (λ e'. any_times id ids t e')
  where
    by : (b u : Bool) → is_node id i ≡ b → times id (i ∷ ids) ≡ cond u (id ∷ []) [] → (times id ids ≡ cond u (id ∷ []) [] → list_any (is_node id) ids ≡ u) → list_any (is_node id) (i ∷ ids) ≡ u
    by true true f e rest = ap (λ c. c || list_any (is_node id) ids) f
    by true false f e rest = let some : i ∷ times id ids ≡ [] = sym (ap (λ c. cond c (i ∷ times id ids) (times id ids)) f) ∙ e in absurd (cc)
    by false u f e rest = ap (λ c. c || list_any (is_node id) ids) f ∙ rest (sym (ap (λ c. cond c (i ∷ times id ids) (times id ids)) f) ∙ e)

named : (id : NodeId) (rows : List Row) → list_any (is_node id) (nodes_in rows) ≡ list_any (is_node id) (map (λ r. r.node) rows)
named id rows = any_times id (nodes_in rows) _ (times-nodes_in id rows)

pub nodes_together : (a b : List Row) → length (nodes_in (a ++ b)) ≤ length (nodes_in a) + length (nodes_in b)
nodes_together a b =
    omega (arith, length-append (nodes_in a) (nodes_in b), length-le_from_is_member nodes_alike (nodes_in (a ++ b)) (nodes_in a ++ nodes_in b) (distinct_nodes (nodes_in (a ++ b)) (nodes_ascend (a ++ b))) among)
  where
    among : (id : NodeId) → list_any (is_node id) (nodes_in (a ++ b)) ≡ true → list_any (is_node id) (nodes_in a ++ nodes_in b) ≡ true
    among id h =
        list_any-append (is_node id) (nodes_in a) (nodes_in b) ∙ ap (λ t. t || list_any (is_node id) (nodes_in b)) (named id a) ∙ ap (λ t. list_any (is_node id) (map (λ r. r.node) a) || t) (named id b)
        ∙ sym (list_any-append (is_node id) (map (λ r. r.node) a) (map (λ r. r.node) b)) ∙ ap (list_any (is_node id)) (sym (map-append (λ r. r.node) a b)) ∙ sym (named id (a ++ b)) ∙ h

pub cost_together : (a b : List Row) → cost (a ++ b) ≤ cost a + cost b
cost_together a b = omega (arith, nodes_together a b, sum_by-append row_len a b)

pub cost_none : cost [] ≡ 0
unfolding nodes_in
cost_none = refl
