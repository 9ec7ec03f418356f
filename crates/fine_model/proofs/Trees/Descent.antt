-- What holds of each growth from a leaf up to the root, by what holds of the growth of the child.
use Rattle.std.proofs.Common.{◌≡◌, inr, ℕ, zero, suc, ◌<◌, ◌≤◌, ◌==◌, true, List, ◌∷◌, ◌++◌, refl, sym, ap, subst, le_refl}
use Rattle.std.specs.Prelude.{flat_map}
use Rattle.std.proofs.lemmas.Bool.{leb-true}
use Rattle.fine_model.specs.Types.{Row, Node}
use Rattle.fine_model.specs.Types.node
use Rattle.fine_model.specs.Nodes.{Content}
use Rattle.fine_model.specs.Trees.{Bounds, is_key_within, IsInner, IsSubtree, kids_of, bucket_of, nodes_of, reached}
use Rattle.fine_model.specs.Pushed.{Growth, child_for, growth}
use Rattle.fine_model.specs.Laws.{AreSmall}
use Rattle.fine_model.proofs.Trees.Small.{is_small_node}
use Rattle.fine_model.proofs.Trees.GrowInner.{AreOnce, z_bounds, z_child, z_within, once_child, g, mid_number, number_low}
use Rattle.fine_model.proofs.Trees.SetLaw.{IsBody, small_node, each_grows, itself_low, leaf_body}

module _ (rows : List Row) (bucket : ℕ) (key value : List ℕ) (next : ℕ) (of_bucket : (bucket_of key == bucket) ≡ true) (small : AreSmall rows) where
  abbrev old : ℕ → Content
  old = nodes_of rows bucket

  abbrev pub grown : ℕ → ℕ → Growth
  grown height number = growth height bucket old next (key, value) number

  -- a node above a child, where the child's growth is pushed: it stays as it was, and the next number is as fresh as it was
  pub record IsAbove (height number child : ℕ) : Type 0 where
    pub body : IsBody (old number).0
    pub low : number < next
    pub ordered : next ≤ (grown height child).next
    pub stays : nodes_of (rows ++ (grown height child).rows) bucket number ≡ old number
    pub fresh : nodes_of (rows ++ (grown height child).rows) bucket (grown height child).next ≡ old (grown height child).next

  module _ (P : ℕ → ℕ → Type 0) (leaf : (number : ℕ) → number < next → IsBody (old number).0 → P zero number)
      (inner : (height number : ℕ) → IsAbove height number (child_for key (old number).0) → P height (child_for key (old number).0) → P (suc height) number) where
    abbrev Each : ℕ → Type 0
    Each height = (bounds : Bounds) (number : ℕ) → IsSubtree height bucket old bounds number → is_key_within bucket bounds key ≡ true → AreOnce next (reached height old number) → P height number

    above : (height : ℕ) → Each height → (bounds : Bounds) (number : ℕ) (n : Node) → (old number).0 ≡ n → IsInner (IsSubtree height bucket old) bounds n
        → is_key_within bucket bounds key ≡ true → AreOnce next (number ∷ flat_map (reached height old) (kids_of n)) → is_small_node n ≡ true → P (suc height) number
    above height each bounds number (node.Inner seps kids) is inn within once few =
        let grows = each_grows rows bucket key value next of_bucket small height in
        let room = leb-true _ 32 few in
        let down = g rows bucket key value next of_bucket height grows bounds number seps kids is inn.0 inn.1 within room once in
        let part = once_child rows bucket key value next of_bucket height grows bounds number seps kids is inn.0 inn.1 within room once in
        let there = down.grown in
        inner height number
        (subst (IsAbove height number) (sym (ap (child_for key) is)) (record {
          body = subst IsBody (sym is) tt;
          low = number_low rows bucket key value next of_bucket height grows bounds number seps kids is inn.0 inn.1 within room once;
          ordered = down.ordered;
          stays = mid_number rows bucket key value next of_bucket height grows bounds number seps kids is inn.0 inn.1 within room once;
          fresh = there.others (grown height (child_for key (node.Inner seps kids))).next (part.below (grown height (child_for key (node.Inner seps kids))).next down.ordered) (inr (le_refl (grown height (child_for key (node.Inner seps kids))).next));
        }))
        (subst (P height) (sym (ap (child_for key) is))
        (each (z_bounds rows bucket key value next of_bucket height grows bounds number seps kids is inn.0 inn.1 within room once) (child_for key (node.Inner seps kids))
        (z_child rows bucket key value next of_bucket height grows bounds number seps kids is inn.0 inn.1 within room once)
        (z_within rows bucket key value next of_bucket height grows bounds number seps kids is inn.0 inn.1 within room once) part))
    above height each bounds number (node.Head root next' depth) is inn within once few = absurd inn
    above height each bounds number (node.Leaf pairs) is inn within once few = absurd inn
    above height each bounds number node.Broken is inn within once few = absurd inn

    pub descend : (height : ℕ) → Each height
    unfolding IsSubtree reached
    descend zero bounds number subtree within once = leaf number (itself_low next zero old number once) (leaf_body bucket old bounds (old number).0 subtree)
    descend (suc height) bounds number subtree within once =
        above height (descend height) bounds number (old number).0 refl subtree within once (small_node rows bucket key value next of_bucket small number)
