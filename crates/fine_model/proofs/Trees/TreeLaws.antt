-- What agrees with a sound list of rows is sound, and has its map.
use Rattle.std.proofs.Common.{◌≡◌, ◌≢◌, ℕ, zero, suc, ◌+◌, ◌-◌, ◌<◌, ◌≤◌, IsTrue, List, [], ◌∷◌, ◌++◌, refl, sym, ap, ◌∙◌, subst, true≢false, arith}
use Rattle.std.specs.Prelude.{flat_map}
use Rattle.std.specs.List.{AllByRecursion, range_with_len}
use Rattle.fine_model.specs.Types.{Row, Node}
use Rattle.fine_model.specs.Types.node
use Rattle.fine_model.specs.Map.{from_pairs}
use Rattle.fine_model.specs.Nodes.{Content, content, Agrees}
use Rattle.fine_model.specs.Trees.{Bounds, whole, AllBetween, is_leaf, IsInner, IsSubtree, kids_of, pairs_of, reached, pairs_under, is_distinct, IsTree, IsFitFrom, nodes_of, IsFit, IsSound, pairs_from, tree_map, map_of}

-- new has each node of old that is not broken
abbrev pub Keeps : (ℕ → Content) → (ℕ → Content) → Type 0
Keeps new old = (number : ℕ) → (old number).0 ≢ node.Broken → new number ≡ old number

leaf_whole : (bucket : ℕ) (bounds : Bounds) (n : Node) → IsTrue (is_leaf bucket bounds n) → n ≢ node.Broken
leaf_whole bucket bounds n leaf broken = true≢false (sym leaf ∙ ap (is_leaf bucket bounds) broken)

inner_whole : (P : Bounds → ℕ → Type 0) (bounds : Bounds) (n : Node) → IsInner P bounds n → n ≢ node.Broken
inner_whole P bounds n inner broken = subst (IsInner P bounds) broken inner

between_map : (P Q : Bounds → ℕ → Type 0) (imply : (b : Bounds) (k : ℕ) → P b k → Q b k) (bounds : Bounds) (seps : List (List ℕ)) (kids : List ℕ) → AllBetween P bounds seps kids → AllBetween Q bounds seps kids
unfolding AllBetween
between_map P Q imply bounds [] [] all = all
between_map P Q imply bounds [] (kid ∷ []) all = imply bounds kid all
between_map P Q imply bounds [] (kid ∷ kid' ∷ kids) all = all
between_map P Q imply bounds (sep ∷ seps) [] all = all
between_map P Q imply bounds (sep ∷ seps) (kid ∷ kids) all = (imply _ kid all.0, between_map P Q imply _ seps kids all.1)

inner_map : (P Q : Bounds → ℕ → Type 0) (imply : (b : Bounds) (k : ℕ) → P b k → Q b k) (bounds : Bounds) (n : Node) → IsInner P bounds n → IsInner Q bounds n
inner_map P Q imply bounds (node.Inner seps kids) inner = (inner.0, between_map P Q imply bounds seps kids inner.1)
inner_map P Q imply bounds (node.Head root next depth) inner = inner
inner_map P Q imply bounds (node.Leaf pairs) inner = inner
inner_map P Q imply bounds node.Broken inner = inner

-- a subtree of kept nodes
pub subtree_kept : (height bucket : ℕ) (new old : ℕ → Content) (keeps : Keeps new old) (bounds : Bounds) (number : ℕ) → IsSubtree height bucket old bounds number → IsSubtree height bucket new bounds number
unfolding IsSubtree
subtree_kept zero bucket new old keeps bounds number subtree =
    subst (λ c. IsTrue (is_leaf bucket bounds c.0)) (sym (keeps number (leaf_whole bucket bounds (old number).0 subtree))) subtree
subtree_kept (suc height) bucket new old keeps bounds number subtree =
    subst (λ c. IsInner (IsSubtree height bucket new) bounds c.0) (sym (keeps number (inner_whole (IsSubtree height bucket old) bounds (old number).0 subtree)))
    (inner_map (IsSubtree height bucket old) (IsSubtree height bucket new) (subtree_kept height bucket new old keeps) bounds (old number).0 subtree)

-- what each child gives is the same
flat_map_between : {A : Type 0} (P : Bounds → ℕ → Type 0) (f g : ℕ → List A) (same : (b : Bounds) (k : ℕ) → P b k → f k ≡ g k) (bounds : Bounds) (seps : List (List ℕ)) (kids : List ℕ) → AllBetween P bounds seps kids → flat_map f kids ≡ flat_map g kids
unfolding AllBetween
flat_map_between P f g same bounds [] [] all = refl
flat_map_between P f g same bounds [] (kid ∷ []) all = ap (λ xs. xs ++ []) (same bounds kid all)
flat_map_between P f g same bounds [] (kid ∷ kid' ∷ kids) all = absurd all
flat_map_between P f g same bounds (sep ∷ seps) [] all = absurd all
flat_map_between P f g same bounds (sep ∷ seps) (kid ∷ kids) all =
    ap (λ xs. xs ++ flat_map f kids) (same _ kid all.0) ∙ ap (λ xs. g kid ++ xs) (flat_map_between P f g same _ seps kids all.1)

flat_map_inner : {A : Type 0} (P : Bounds → ℕ → Type 0) (f g : ℕ → List A) (same : (b : Bounds) (k : ℕ) → P b k → f k ≡ g k) (bounds : Bounds) (n : Node) → IsInner P bounds n → flat_map f (kids_of n) ≡ flat_map g (kids_of n)
flat_map_inner P f g same bounds (node.Inner seps kids) inner = flat_map_between P f g same bounds seps kids inner.1
flat_map_inner P f g same bounds (node.Head root next depth) inner = absurd inner
flat_map_inner P f g same bounds (node.Leaf pairs) inner = absurd inner
flat_map_inner P f g same bounds node.Broken inner = absurd inner

pub pairs_kept : (height bucket : ℕ) (new old : ℕ → Content) (keeps : Keeps new old) (bounds : Bounds) (number : ℕ) → IsSubtree height bucket old bounds number → pairs_under height new number ≡ pairs_under height old number
unfolding IsSubtree pairs_under
pairs_kept zero bucket new old keeps bounds number subtree = ap (λ c. pairs_of c.0) (keeps number (leaf_whole bucket bounds (old number).0 subtree))
pairs_kept (suc height) bucket new old keeps bounds number subtree =
    ap (λ c. flat_map (pairs_under height new) (kids_of c.0)) (keeps number (inner_whole (IsSubtree height bucket old) bounds (old number).0 subtree))
    ∙ flat_map_inner (IsSubtree height bucket old) (pairs_under height new) (pairs_under height old) (pairs_kept height bucket new old keeps) bounds (old number).0 subtree

pub reached_kept : (height bucket : ℕ) (new old : ℕ → Content) (keeps : Keeps new old) (bounds : Bounds) (number : ℕ) → IsSubtree height bucket old bounds number → reached height new number ≡ reached height old number
unfolding reached IsSubtree
reached_kept zero bucket new old keeps bounds number subtree = refl
reached_kept (suc height) bucket new old keeps bounds number subtree = ap (λ ns. number ∷ ns)
    (ap (λ c. flat_map (reached height new) (kids_of c.0)) (keeps number (inner_whole (IsSubtree height bucket old) bounds (old number).0 subtree))
    ∙ flat_map_inner (IsSubtree height bucket old) (reached height new) (reached height old) (reached_kept height bucket new old keeps) bounds (old number).0 subtree)

tree_kept : (bucket : ℕ) (new old : ℕ → Content) (keeps : Keeps new old) (root next depth : ℕ) → IsTree bucket old root next depth → IsTree bucket new root next depth
tree_kept bucket new old keeps root next depth tree =
    let same = reached_kept (depth - 1) bucket new old keeps whole root tree.subtree in
    record {
      deep = tree.deep;
      subtree = subtree_kept (depth - 1) bucket new old keeps whole root tree.subtree;
      distinct = subst (λ ns. IsTrue (is_distinct ns)) (sym same) tree.distinct;
      below = subst (λ ns. AllByRecursion (λ number. number < next) ns) (sym same) tree.below;
      unused = λ number unused. keeps number (λ broken. let fresh = ap (λ c. c.0) (tree.unused number unused) in cc) ∙ tree.unused number unused;
    }

pub fit_kept : (bucket : ℕ) (new old : ℕ → Content) (keeps : Keeps new old) (head : Node) → IsFitFrom bucket old head → IsFitFrom bucket new head
fit_kept bucket new old keeps (node.Head root next depth) fit = tree_kept bucket new old keeps root next depth fit
fit_kept bucket new old keeps (node.Leaf pairs) fit = absurd fit
fit_kept bucket new old keeps (node.Inner seps kids) fit = absurd fit
fit_kept bucket new old keeps node.Broken fit = absurd fit

pub map_kept : (bucket : ℕ) (new old : ℕ → Content) (keeps : Keeps new old) (head : Node) → IsFitFrom bucket old head → pairs_from new head ≡ pairs_from old head
map_kept bucket new old keeps (node.Head root next depth) fit = pairs_kept (depth - 1) bucket new old keeps whole root fit.subtree
map_kept bucket new old keeps (node.Leaf pairs) fit = absurd fit
map_kept bucket new old keeps (node.Inner seps kids) fit = absurd fit
map_kept bucket new old keeps node.Broken fit = absurd fit

pub head_whole : (bucket : ℕ) (nodes : ℕ → Content) (head : Node) → IsFitFrom bucket nodes head → head ≢ node.Broken
head_whole bucket nodes head fit broken = subst (IsFitFrom bucket nodes) broken fit

module _ (new old : List Row) (agrees : Agrees new old) (sound : IsSound old) where
  kept : (bucket : ℕ) → Keeps (nodes_of new bucket) (nodes_of old bucket)
  kept bucket number fine = agrees.same (record { bucket = bucket; number = number }) fine

  head_same : (bucket : ℕ) → bucket < 256 → nodes_of new bucket 0 ≡ nodes_of old bucket 0
  head_same bucket h = kept bucket 0 (head_whole bucket (nodes_of old bucket) (nodes_of old bucket 0).0 (sound.fit bucket h))

  fit_new : (bucket : ℕ) → bucket < 256 → IsFit new bucket
  fit_new bucket h =
      subst (λ c. IsFitFrom bucket (nodes_of new bucket) c.0) (sym (head_same bucket h))
      (fit_kept bucket (nodes_of new bucket) (nodes_of old bucket) (kept bucket) (nodes_of old bucket 0).0 (sound.fit bucket h))

  pub IsSound-Agrees : IsSound new
  IsSound-Agrees = record { fit = fit_new }

  pub tree_map-Agrees : (bucket : ℕ) → bucket < 256 → tree_map new bucket ≡ tree_map old bucket
  unfolding tree_map content
  tree_map-Agrees bucket h =
      ap (λ c. pairs_from (nodes_of new bucket) c.0) (head_same bucket h)
      ∙ map_kept bucket (nodes_of new bucket) (nodes_of old bucket) (kept bucket) (nodes_of old bucket 0).0 (sound.fit bucket h)

  trees_same : (from n : ℕ) → from + n ≤ 256 → flat_map (tree_map new) (range_with_len from n) ≡ flat_map (tree_map old) (range_with_len from n)
  trees_same from zero h = refl
  trees_same from (suc n) h =
      ap (λ xs. xs ++ flat_map (tree_map new) (range_with_len (from + 1) n)) (tree_map-Agrees from (omega arith))
      ∙ ap (λ xs. tree_map old from ++ xs) (trees_same (from + 1) n (omega arith))

  pub map_of-Agrees : map_of new ≡ map_of old
  unfolding map_of from_pairs
  map_of-Agrees = ap from_pairs (trees_same 0 256 (omega arith))
