-- Rows that were pushed in one bucket: when all trees are sound, and what the map is.
use Rattle.std.proofs.Common.{◌≡◌, ◌≢◌, ℕ, ◌-◌, ◌<◌, ◌==◌, Bool, true, false, ◌&&◌, List, ◌++◌, refl, sym, ap, ◌∙◌, subst, true≢false, eqb-true, eq-eqb, ne_eqb}
use Rattle.std.specs.List.{AllByRecursion}
use Rattle.fine_model.specs.Types.{NodeId, Row, Node}
use Rattle.fine_model.specs.Types.node
use Rattle.fine_model.specs.Map.{Pair, is_ascending, get}
use Rattle.fine_model.specs.Nodes.{Content, content, replay, is_node}
use Rattle.fine_model.specs.Trees.{whole, IsTree, IsFitFrom, IsFit, IsSound, nodes_of, bucket_of, pairs_from, tree_map, map_of}
use Rattle.fine_model.proofs.Ordered.Order.{filter_none, all_map, keys_of}
use Rattle.fine_model.proofs.Trees.NodeLaws.{content-append}
use Rattle.fine_model.proofs.Trees.TreeLaws.{Keeps, fit_kept, map_kept}
use Rattle.fine_model.proofs.Trees.Joined.{IsChange, AllInBucket, get-map, changed_map}
use Rattle.fine_model.proofs.Trees.Among.{subtree_in_bucket, subtree_ascends}

-- a fit tree, with what its head says
pub record HasTree (bucket : ℕ) (nodes : ℕ → Content) (head : Node) : Type 0 where
  pub root : ℕ
  pub next : ℕ
  pub depth : ℕ
  pub is : head ≡ node.Head root next depth
  pub tree : IsTree bucket nodes root next depth

pub has_tree : (bucket : ℕ) (nodes : ℕ → Content) (head : Node) → IsFitFrom bucket nodes head → HasTree bucket nodes head
has_tree bucket nodes (node.Head root next depth) fit = record { root = root; next = next; depth = depth; is = refl; tree = fit }
has_tree bucket nodes (node.Leaf pairs) fit = absurd fit
has_tree bucket nodes (node.Inner seps kids) fit = absurd fit
has_tree bucket nodes node.Broken fit = absurd fit

tree_in_bucket : (bucket : ℕ) (nodes : ℕ → Content) (head : Node) → IsFitFrom bucket nodes head → AllInBucket bucket (pairs_from nodes head)
tree_in_bucket bucket nodes (node.Head root next depth) fit = subtree_in_bucket (depth - 1) bucket nodes whole root fit.subtree
tree_in_bucket bucket nodes (node.Leaf pairs) fit = tt
tree_in_bucket bucket nodes (node.Inner seps kids) fit = tt
tree_in_bucket bucket nodes node.Broken fit = tt

tree_ascends : (bucket : ℕ) (nodes : ℕ → Content) (head : Node) → IsFitFrom bucket nodes head → is_ascending (keys_of (pairs_from nodes head)) ≡ true
tree_ascends bucket nodes (node.Head root next depth) fit = subtree_ascends bucket nodes (depth - 1) whole root fit.subtree
tree_ascends bucket nodes (node.Leaf pairs) fit = refl
tree_ascends bucket nodes (node.Inner seps kids) fit = refl
tree_ascends bucket nodes node.Broken fit = refl

-- the rows are of one bucket
abbrev pub AreOfBucket : ℕ → List Row → Type 0
AreOfBucket bucket rows = AllByRecursion (λ row. row.node.bucket ≡ bucket) rows

-- rows of one bucket leave the nodes of the others
other_nodes : (rows new : List Row) (bucket other number : ℕ) → AreOfBucket bucket new → other ≢ bucket → nodes_of (rows ++ new) other number ≡ nodes_of rows other number
unfolding replay
other_nodes rows new bucket other number of_bucket is_other =
    let id : NodeId = record { bucket = other; number = number } in
    content-append rows new id
    ∙ ap (replay (content rows id)) (filter_none (λ row. is_node id row.node) new
    (all_map (λ row. row.node.bucket ≡ bucket) (λ row. is_node id row.node ≡ false) (λ row e. ap (λ b. b && (number == row.node.number)) (ne_eqb other row.node.bucket (λ same. is_other (same ∙ e)))) new of_bucket))

module _ (rows : List Row) (sound : IsSound rows) where
  -- the keys of a tree belong to its bucket, and ascend
  pub in_bucket : (i : ℕ) → i < 256 → AllInBucket i (tree_map rows i)
  unfolding tree_map
  in_bucket i h = tree_in_bucket i (nodes_of rows i) (nodes_of rows i 0).0 (sound.fit i h)

  pub ascends : (i : ℕ) → i < 256 → is_ascending (keys_of (tree_map rows i)) ≡ true
  unfolding tree_map
  ascends i h = tree_ascends i (nodes_of rows i) (nodes_of rows i 0).0 (sound.fit i h)

  -- what the map has of a key is what the tree of its bucket has
  pub get_of_tree : (key : List ℕ) (bucket : ℕ) → bucket < 256 → (bucket_of key == bucket) ≡ true → get (map_of rows) key ≡ get (tree_map rows bucket) key
  unfolding map_of
  get_of_tree key bucket h of_bucket = get-map key bucket of_bucket (tree_map rows) in_bucket (ascends bucket h) h

  module _ (new : List Row) (bucket : ℕ) (small : bucket < 256) (are : AreOfBucket bucket new) where
    kept : (other : ℕ) → other ≢ bucket → Keeps (nodes_of (rows ++ new) other) (nodes_of rows other)
    kept other is_other number fine = other_nodes rows new bucket other number are is_other

    fit_other : (other : ℕ) → other < 256 → other ≢ bucket → IsFit (rows ++ new) other
    fit_other other h is_other =
        subst (λ c. IsFitFrom other (nodes_of (rows ++ new) other) c.0) (sym (other_nodes rows new bucket other 0 are is_other))
        (fit_kept other (nodes_of (rows ++ new) other) (nodes_of rows other) (kept other is_other) (nodes_of rows other 0).0 (sound.fit other h))

    map_other : (other : ℕ) → other < 256 → other ≢ bucket → tree_map (rows ++ new) other ≡ tree_map rows other
    unfolding tree_map
    map_other other h is_other =
        ap (λ c. pairs_from (nodes_of (rows ++ new) other) c.0) (other_nodes rows new bucket other 0 are is_other)
        ∙ map_kept other (nodes_of (rows ++ new) other) (nodes_of rows other) (kept other is_other) (nodes_of rows other 0).0 (sound.fit other h)

    module _ (fit : IsFit (rows ++ new) bucket) where
      fit_each : (i : ℕ) → i < 256 → IsFit (rows ++ new) i
      fit_each i h = by (i == bucket) refl
        where
          by : (b : Bool) → (i == bucket) ≡ b → IsFit (rows ++ new) i
          by true here = subst (IsFit (rows ++ new)) (sym (eqb-true i bucket here)) fit
          by false other = fit_other i h (λ e. true≢false (sym (eq-eqb i bucket e) ∙ other))

      -- all trees are fit where the one of the rows' bucket is
      pub after_sound : IsSound (rows ++ new)
      after_sound = record { fit = fit_each }

      -- and the map is changed as that tree's map is
      pub after_map : (key : List ℕ) (f : List Pair → List Pair) → (bucket_of key == bucket) ≡ true → IsChange key f → tree_map (rows ++ new) bucket ≡ f (tree_map rows bucket) → map_of (rows ++ new) ≡ f (map_of rows)
      unfolding map_of
      after_map key f of_bucket change changed =
          changed_map key bucket of_bucket (tree_map rows) in_bucket (ascends bucket small) (tree_map (rows ++ new)) f change map_other changed small
