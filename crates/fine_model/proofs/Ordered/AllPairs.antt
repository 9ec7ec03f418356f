-- What holds of the pairs of each leaf holds of all pairs of the map.
use Rattle.std.proofs.Common.{ℕ, zero, suc, ◌-◌, List, [], ◌∷◌}
use Rattle.std.specs.Prelude.{flat_map}
use Rattle.std.specs.List.{AllByRecursion, range_with_len}
use Rattle.fine_model.specs.Types.{NodeId, Row, Node}
use Rattle.fine_model.specs.Types.node
use Rattle.fine_model.specs.Map.{Pair, is_below, pairs_below, pairs_above, set, from_pairs}
use Rattle.fine_model.specs.Nodes.{Content, content}
use Rattle.fine_model.specs.Trees.{kids_of, pairs_of, pairs_under, pairs_from, nodes_of, tree_map, map_of}
use Rattle.fine_model.proofs.Ordered.Sets.{all_filter, all_append}
use Rattle.fine_model.proofs.Trees.Joined.{joined}

module _ (P : Pair → Type 0) where
  flat_all : (f : ℕ → List Pair) → ((b : ℕ) → AllByRecursion P (f b)) → (bs : List ℕ) → AllByRecursion P (flat_map f bs)
  flat_all f all [] = tt
  flat_all f all (b ∷ bs) = all_append P (f b) (flat_map f bs) (all b) (flat_all f all bs)

  module _ (nodes : ℕ → Content) (each : (number : ℕ) → AllByRecursion P (pairs_of (nodes number).0)) where
    under_all : (height number : ℕ) → AllByRecursion P (pairs_under height nodes number)
    unfolding pairs_under
    under_all zero number = each number
    under_all (suc height) number = flat_all (pairs_under height nodes) (under_all height) (kids_of (nodes number).0)

    from_all : (n : Node) → AllByRecursion P (pairs_from nodes n)
    from_all (node.Head root next depth) = under_all (depth - 1) root
    from_all (node.Leaf pairs) = tt
    from_all (node.Inner seps kids) = tt
    from_all node.Broken = tt

  pub pairs_set : (m : List Pair) (key value : List ℕ) → AllByRecursion P m → P (key, value) → AllByRecursion P (set m key value)
  unfolding set
  pairs_set m key value all one = all_append P (pairs_below key m) ((key, value) ∷ pairs_above key m) (all_filter P (λ q. is_below q.0 key) m all) (one, all_filter P (λ q. is_below key q.0) m all)

  joined_all : (m pairs : List Pair) → AllByRecursion P m → AllByRecursion P pairs → AllByRecursion P (joined m pairs)
  joined_all m [] all all' = all
  joined_all m (p ∷ pairs) all all' = joined_all (set m p.0 p.1) pairs (pairs_set m p.0 p.1 all all'.0) all'.1

  pub map_all : (rows : List Row) → ((id : NodeId) → AllByRecursion P (pairs_of (content rows id).0)) → AllByRecursion P (map_of rows)
  unfolding map_of from_pairs tree_map
  map_all rows each =
      joined_all [] (flat_map (tree_map rows) (range_with_len 0 256)) tt
      (flat_all (tree_map rows) (λ b. from_all (nodes_of rows b) (λ number. each (record { bucket = b; number = number })) (nodes_of rows b 0).0) (range_with_len 0 256))
