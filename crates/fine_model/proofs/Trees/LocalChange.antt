-- Setting and removing are local changes of a leaf; and a row that changes a leaf so changes the whole map so.
use Rattle.std.proofs.Common.{◌≡◌, ◌≢◌, ℕ, ◌+◌, ◌-◌, ◌<◌, ◌==◌, Bool, true, false, ◌&&◌, List, [], ◌∷◌, ◌++◌, refl, sym, ap, ◌∙◌, subst}
use Rattle.std.specs.List.{list_all}
use Rattle.fine_model.specs.Types.{Rec, Row}
use Rattle.fine_model.specs.Types.node
use Rattle.fine_model.specs.Map.{Pair, is_below, is_ascending, pairs_below, pairs_above, get, set, unset}
use Rattle.fine_model.specs.Nodes.{Content, step_node}
use Rattle.fine_model.specs.Trees.{whole, is_key_within, IsFitFrom, IsSound, nodes_of, bucket_of, pairs_of, pairs_from, pairs_under, tree_map, map_of}
use Rattle.fine_model.specs.Pushed.{row_of, leaf_for, pairs_beside}
use Rattle.fine_model.specs.Laws.{HasMap}
use Rattle.fine_model.proofs.Ordered.Order.{keys_of, is_below-asym, first_of_both, all_map}
use Rattle.fine_model.proofs.Ordered.Sets.{set-append_left, set-append_right, ascending-set, ascending-filter, list_all-set, list_all-from, all_from_list_all, all_filter, all_pass, all_append}
use Rattle.fine_model.proofs.Ordered.Pairs.{unset-append_left, unset-append_right, get_before, get_behind, below_other, above_other}
use Rattle.fine_model.proofs.Trees.Joined.{IsChange}
use Rattle.fine_model.proofs.Trees.Among.{HasLeaf, has_leaf, ascending-append}
use Rattle.fine_model.proofs.Trees.LeafUpdate.{IsLocal}
use Rattle.fine_model.proofs.Trees.LeafLaw.{not_there, change_fit, change_pairs}
use Rattle.fine_model.proofs.Trees.Buckets.{HasTree, has_tree, after_sound, after_map, get_of_tree}

pub set_is_local : (bucket : ℕ) (key value : List ℕ) → IsLocal bucket key (λ m. set m key value)
set_is_local bucket key value = record {
  left = λ front back above. set-append_left front back key value above;
  right = λ front back below. set-append_right front back key value below;
  keeps = λ bounds pairs good within.
      ap (λ b. b && list_all (λ p. is_key_within bucket bounds p.0) (set pairs key value)) (ascending-set pairs key value (first_of_both (is_ascending (keys_of pairs)) _ good).0)
      ∙ list_all-set (λ p. is_key_within bucket bounds p.0) pairs key value (first_of_both (is_ascending (keys_of pairs)) _ good).1 within;
}

ascending-unset : (pairs : List Pair) (key : List ℕ) → is_ascending (keys_of pairs) ≡ true → is_ascending (keys_of (unset pairs key)) ≡ true
unfolding unset
ascending-unset pairs key up =
    ascending-append key (pairs_below key pairs) (pairs_above key pairs) (ascending-filter (λ p. is_below p.0 key) pairs up) (ascending-filter (λ p. is_below key p.0) pairs up)
    (all_pass (λ p. is_below p.0 key) pairs)
    (all_map (λ p. is_below key p.0 ≡ true) (λ p. is_below p.0 key ≡ false) (λ p h. is_below-asym key p.0 h) (pairs_above key pairs) (all_pass (λ p. is_below key p.0) pairs))

list_all-unset : (p : Pair → Bool) (pairs : List Pair) (key : List ℕ) → list_all p pairs ≡ true → list_all p (unset pairs key) ≡ true
unfolding unset
list_all-unset p pairs key all =
    list_all-from p (pairs_below key pairs ++ pairs_above key pairs)
    (all_append (λ x. p x ≡ true) (pairs_below key pairs) (pairs_above key pairs)
    (all_filter (λ x. p x ≡ true) (λ q. is_below q.0 key) pairs (all_from_list_all p pairs all))
    (all_filter (λ x. p x ≡ true) (λ q. is_below key q.0) pairs (all_from_list_all p pairs all)))

pub unset_is_local : (bucket : ℕ) (key : List ℕ) → IsLocal bucket key (λ m. unset m key)
unset_is_local bucket key = record {
  left = λ front back above. unset-append_left front back key above;
  right = λ front back below. unset-append_right front back key below;
  keeps = λ bounds pairs good within.
      ap (λ b. b && list_all (λ p. is_key_within bucket bounds p.0) (unset pairs key)) (ascending-unset pairs key (first_of_both (is_ascending (keys_of pairs)) _ good).0)
      ∙ list_all-unset (λ p. is_key_within bucket bounds p.0) pairs key (first_of_both (is_ascending (keys_of pairs)) _ good).1;
}

module _ (rows : List Row) (sound : IsSound rows) (key : List ℕ) (bucket : ℕ) (small : bucket < 256) (of_bucket : (bucket_of key == bucket) ≡ true) where
  abbrev old : ℕ → Content
  old = nodes_of rows bucket

  abbrev pub Tree : Type 0
  Tree = HasTree bucket old (old 0).0

  pub tree_here : Tree
  tree_here = has_tree bucket old (old 0).0 (sound.fit bucket small)

  module _ (t : Tree) where
    abbrev pub leaf : ℕ
    leaf = leaf_for (t.depth - 1) old key t.root

    pub leaf_here : HasLeaf bucket old key leaf (pairs_under (t.depth - 1) old t.root)
    leaf_here = has_leaf bucket old key leaf (t.depth - 1) whole t.root t.tree.subtree refl

    tree_pairs : tree_map rows bucket ≡ pairs_under (t.depth - 1) old t.root
    unfolding tree_map
    tree_pairs = ap (pairs_from old) t.is

    -- what the map has of a key is what the leaf has in which the key belongs
    pub get_of_leaf : get (map_of rows) key ≡ get (pairs_of (old leaf).0) key
    get_of_leaf =
        let h = leaf_here in
        get_of_tree rows sound key bucket small of_bucket ∙ ap (λ m. get m key) (tree_pairs ∙ h.is)
        ∙ get_behind key h.front (pairs_of (old leaf).0 ++ h.back) (below_other key h.front h.below) ∙ get_before key (pairs_of (old leaf).0) h.back (above_other key h.back h.above)

    pub beside_leaf : pairs_beside old key (old 0).0 ≡ pairs_of (old leaf).0
    unfolding pairs_beside
    beside_leaf = ap (pairs_beside old key) t.is

    -- the leaf is not the head
    not_head : 0 ≢ leaf
    not_head e = let h = leaf_here in let a = h.is_leaf in let b = t.is in let c : (old 0).0 ≡ (old leaf).0 = ap (λ n. (old n).0) e in absurd (cc)

    module _ (change : Rec) (f : List Pair → List Pair) (local : IsLocal bucket key f) (is_change : IsChange key f)
        (changes : step_node (old leaf) ((old leaf).1 + 1) change ≡ node.Leaf (f (pairs_of (old leaf).0))) where
      abbrev row : Row
      row = row_of bucket leaf ((old leaf).1 + 1) change

      abbrev new : ℕ → Content
      new = nodes_of (rows ++ row ∷ []) bucket

      same_head : new 0 ≡ old 0
      same_head = not_there rows bucket t.root t.next t.depth key change f local t.tree of_bucket changes 0 not_head

      fit_here : IsFitFrom bucket new (new 0).0
      fit_here =
          subst (IsFitFrom bucket new) (sym (ap (λ c. c.0) same_head ∙ t.is)) (change_fit rows bucket t.root t.next t.depth key change f local t.tree of_bucket changes)

      pairs_here : tree_map (rows ++ row ∷ []) bucket ≡ f (tree_map rows bucket)
      unfolding tree_map
      pairs_here =
          ap (pairs_from new) (ap (λ c. c.0) same_head ∙ t.is)
          ∙ change_pairs rows bucket t.root t.next t.depth key change f local t.tree of_bucket changes ∙ ap f (sym tree_pairs)

      -- a row that changes the leaf so leaves sound rows, whose map is changed so
      pub leaf_row : HasMap (rows ++ row ∷ []) (f (map_of rows))
      leaf_row = record {
        sound = after_sound rows sound (row ∷ []) bucket small (refl, tt) fit_here;
        map = after_map rows sound (row ∷ []) bucket small (refl, tt) fit_here key f of_bucket is_change pairs_here;
      }
