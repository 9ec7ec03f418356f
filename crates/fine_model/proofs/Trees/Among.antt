-- The pairs of a subtree: in ascending order, of one bucket, and those of a leaf among them.
use Rattle.std.proofs.Common.{◌≡◌, ℕ, zero, suc, ◌==◌, Bool, true, false, cond, not, ◌&&◌, List, [], ◌∷◌, ◌++◌, length, slice_index, refl, sym, ap, ◌∙◌, subst, true≢false, Some, append-nil, append_assoc}
use Rattle.std.specs.Prelude.{flat_map, filter}
use Rattle.std.specs.List.{AllByRecursion}
use Rattle.fine_model.specs.Types.{Node}
use Rattle.fine_model.specs.Types.node
use Rattle.fine_model.specs.Map.{Pair, is_below, is_ascending}
use Rattle.fine_model.specs.Nodes.{Content}
use Rattle.fine_model.specs.Trees.{Bounds, AllBetween, is_key_within, is_leaf, IsInner, IsSubtree, kids_of, pairs_of, pairs_under, is_from, is_up_to, bucket_of}
use Rattle.fine_model.specs.Pushed.{child_for, leaf_for}
use Rattle.fine_model.proofs.Ordered.Order.{AllBelow, AllAbove, keys_of, is_below-trans, is_below-self, first_of_both, all_map}
use Rattle.fine_model.proofs.Ordered.Sets.{all_from_list_all, all_append}
use Rattle.fine_model.proofs.Trees.Bounded.{AllFrom, AllUpTo, below_not, kids_from, subtree_from, subtree_up_to}
use Rattle.fine_model.proofs.Trees.Joined.{AllInBucket}

-- separators above one that is above the key
pub none_up_to : (key sep : List ℕ) (seps : List (List ℕ)) → is_ascending (sep ∷ seps) ≡ true → is_below key sep ≡ true → filter (λ s. not (is_below key s)) (sep ∷ seps) ≡ []
none_up_to key sep [] up above = ap (λ b. cond (not b) (sep ∷ []) []) above
none_up_to key sep (s ∷ seps) up above =
    ap (λ b. cond (not b) (sep ∷ filter (λ s. not (is_below key s)) (s ∷ seps)) (filter (λ s. not (is_below key s)) (s ∷ seps))) above
    ∙ none_up_to key s seps (first_of_both (is_below sep s) (is_ascending (s ∷ seps)) up).1 (is_below-trans key sep s above (first_of_both (is_below sep s) (is_ascending (s ∷ seps)) up).0)

pub tail_ascends : (sep : List ℕ) (seps : List (List ℕ)) → is_ascending (sep ∷ seps) ≡ true → is_ascending seps ≡ true
tail_ascends sep [] up = refl
tail_ascends sep (s ∷ seps) up = (first_of_both (is_below sep s) (is_ascending (s ∷ seps)) up).1

pub all_above_first : (sep : List ℕ) (seps : List (List ℕ)) → is_ascending (sep ∷ seps) ≡ true → AllByRecursion (λ s. is_below sep s ≡ true) seps
all_above_first sep [] up = tt
all_above_first sep (s ∷ seps) up =
    let b = first_of_both (is_below sep s) (is_ascending (s ∷ seps)) up in
    (b.0, all_map (λ t. is_below s t ≡ true) (λ t. is_below sep t ≡ true) (λ t h. is_below-trans sep s t b.0 h) seps (all_above_first s seps b.1))

-- what holds of the pairs of each leaf holds of all of a subtree
leaf_in_bucket : (bucket : ℕ) (bounds : Bounds) (n : Node) → is_leaf bucket bounds n ≡ true → AllInBucket bucket (pairs_of n)
leaf_in_bucket bucket bounds (node.Leaf pairs) leaf =
    all_map (λ p. is_key_within bucket bounds p.0 ≡ true) (λ p. (bucket_of p.0 == bucket) ≡ true)
    (λ p h. (first_of_both (is_up_to bounds.high p.0) _ (first_of_both (is_from bounds.low p.0) _ h).1).1)
    pairs (all_from_list_all (λ p. is_key_within bucket bounds p.0) pairs (first_of_both (is_ascending (keys_of pairs)) _ leaf).1)
leaf_in_bucket bucket bounds (node.Head root next depth) leaf = absurd (true≢false (sym leaf))
leaf_in_bucket bucket bounds (node.Inner seps kids) leaf = absurd (true≢false (sym leaf))
leaf_in_bucket bucket bounds node.Broken leaf = absurd (true≢false (sym leaf))

kids_in_bucket : (bucket : ℕ) (P : Bounds → ℕ → Type 0) (f : ℕ → List Pair) (each : (b : Bounds) (k : ℕ) → P b k → AllInBucket bucket (f k))
    (bounds : Bounds) (seps : List (List ℕ)) (kids : List ℕ) → AllBetween P bounds seps kids → AllInBucket bucket (flat_map f kids)
unfolding AllBetween
kids_in_bucket bucket P f each bounds [] [] all = absurd all
kids_in_bucket bucket P f each bounds [] (kid ∷ []) all = all_append (λ p. (bucket_of p.0 == bucket) ≡ true) (f kid) [] (each bounds kid all) tt
kids_in_bucket bucket P f each bounds [] (kid ∷ kid' ∷ kids) all = absurd all
kids_in_bucket bucket P f each bounds (sep ∷ seps) [] all = absurd all
kids_in_bucket bucket P f each bounds (sep ∷ seps) (kid ∷ kids) all =
    all_append (λ p. (bucket_of p.0 == bucket) ≡ true) (f kid) (flat_map f kids) (each _ kid all.0) (kids_in_bucket bucket P f each _ seps kids all.1)

inner_in_bucket : (bucket : ℕ) (P : Bounds → ℕ → Type 0) (f : ℕ → List Pair) (each : (b : Bounds) (k : ℕ) → P b k → AllInBucket bucket (f k)) (bounds : Bounds) (n : Node) → IsInner P bounds n → AllInBucket bucket (flat_map f (kids_of n))
inner_in_bucket bucket P f each bounds (node.Inner seps kids) inner = kids_in_bucket bucket P f each bounds seps kids inner.1
inner_in_bucket bucket P f each bounds (node.Head root next depth) inner = absurd inner
inner_in_bucket bucket P f each bounds (node.Leaf pairs) inner = absurd inner
inner_in_bucket bucket P f each bounds node.Broken inner = absurd inner

pub subtree_in_bucket : (height bucket : ℕ) (nodes : ℕ → Content) (bounds : Bounds) (number : ℕ) → IsSubtree height bucket nodes bounds number → AllInBucket bucket (pairs_under height nodes number)
unfolding IsSubtree pairs_under
subtree_in_bucket zero bucket nodes bounds number subtree = leaf_in_bucket bucket bounds (nodes number).0 subtree
subtree_in_bucket (suc height) bucket nodes bounds number subtree =
    inner_in_bucket bucket (IsSubtree height bucket nodes) (pairs_under height nodes) (subtree_in_bucket height bucket nodes) bounds (nodes number).0 subtree

-- pairs below a key, and then pairs from it on
pub ascending-append : (key : List ℕ) (xs ys : List Pair) → is_ascending (keys_of xs) ≡ true → is_ascending (keys_of ys) ≡ true → AllUpTo key xs → AllFrom key ys → is_ascending (keys_of (xs ++ ys)) ≡ true
ascending-append key [] ys up up' below from = up'
ascending-append key (x ∷ []) [] up up' below from = refl
ascending-append key (x ∷ []) (y ∷ ys) up up' below from = ap (λ b. b && is_ascending (keys_of (y ∷ ys))) (below_not x.0 key y.0 below.0 from.0) ∙ up'
ascending-append key (x ∷ x' ∷ xs) ys up up' below from =
    ap (λ b. b && is_ascending (keys_of ((x' ∷ xs) ++ ys))) (first_of_both (is_below x.0 x'.0) (is_ascending (keys_of (x' ∷ xs))) up).0
    ∙ ascending-append key (x' ∷ xs) ys (first_of_both (is_below x.0 x'.0) (is_ascending (keys_of (x' ∷ xs))) up).1 up' below.1 from

leaf_ascends : (bucket : ℕ) (bounds : Bounds) (n : Node) → is_leaf bucket bounds n ≡ true → is_ascending (keys_of (pairs_of n)) ≡ true
leaf_ascends bucket bounds (node.Leaf pairs) leaf = (first_of_both (is_ascending (keys_of pairs)) _ leaf).0
leaf_ascends bucket bounds (node.Head root next depth) leaf = refl
leaf_ascends bucket bounds (node.Inner seps kids) leaf = refl
leaf_ascends bucket bounds node.Broken leaf = refl

module _ (bucket : ℕ) (nodes : ℕ → Content) where
  -- the pairs of children behind a separator
  pub kids_behind : (height : ℕ) (bounds : Bounds) (sep : List ℕ) (seps : List (List ℕ)) (kids : List ℕ) → is_ascending (sep ∷ seps) ≡ true
      → AllBetween (IsSubtree height bucket nodes) (record { low = Some sep; high = bounds.high }) seps kids → AllFrom sep (flat_map (pairs_under height nodes) kids)
  kids_behind height bounds sep seps kids up all =
      kids_from (IsSubtree height bucket nodes) (pairs_under height nodes) sep (λ b t k. subtree_from height bucket nodes b t k)
      (record { low = Some sep; high = bounds.high }) sep seps kids refl (is_below-self sep) (all_above_first sep seps up) all

  kids_ascend : (height : ℕ) (each : (b : Bounds) (k : ℕ) → IsSubtree height bucket nodes b k → is_ascending (keys_of (pairs_under height nodes k)) ≡ true)
      (bounds : Bounds) (seps : List (List ℕ)) (kids : List ℕ) → is_ascending seps ≡ true → AllBetween (IsSubtree height bucket nodes) bounds seps kids → is_ascending (keys_of (flat_map (pairs_under height nodes) kids)) ≡ true
  unfolding AllBetween
  kids_ascend height each bounds [] [] up all = absurd all
  kids_ascend height each bounds [] (kid ∷ []) up all = ap (λ xs. is_ascending (keys_of xs)) (append-nil (pairs_under height nodes kid)) ∙ each bounds kid all
  kids_ascend height each bounds [] (kid ∷ kid' ∷ kids) up all = absurd all
  kids_ascend height each bounds (sep ∷ seps) [] up all = absurd all
  kids_ascend height each bounds (sep ∷ seps) (kid ∷ kids) up all =
      ascending-append sep (pairs_under height nodes kid) (flat_map (pairs_under height nodes) kids) (each _ kid all.0)
      (kids_ascend height each (record { low = Some sep; high = bounds.high }) seps kids (tail_ascends sep seps up) all.1)
      (subtree_up_to height bucket nodes (record { low = bounds.low; high = Some sep }) sep kid refl all.0) (kids_behind height bounds sep seps kids up all.1)

  inner_ascends : (height : ℕ) (each : (b : Bounds) (k : ℕ) → IsSubtree height bucket nodes b k → is_ascending (keys_of (pairs_under height nodes k)) ≡ true)
      (bounds : Bounds) (n : Node) → IsInner (IsSubtree height bucket nodes) bounds n → is_ascending (keys_of (flat_map (pairs_under height nodes) (kids_of n))) ≡ true
  inner_ascends height each bounds (node.Inner seps kids) inner = kids_ascend height each bounds seps kids (first_of_both (is_ascending seps) _ inner.0).0 inner.1
  inner_ascends height each bounds (node.Head root next depth) inner = refl
  inner_ascends height each bounds (node.Leaf pairs) inner = refl
  inner_ascends height each bounds node.Broken inner = refl

  pub subtree_ascends : (height : ℕ) (bounds : Bounds) (number : ℕ) → IsSubtree height bucket nodes bounds number → is_ascending (keys_of (pairs_under height nodes number)) ≡ true
  unfolding IsSubtree pairs_under
  subtree_ascends zero bounds number subtree = leaf_ascends bucket bounds (nodes number).0 subtree
  subtree_ascends (suc height) bounds number subtree = inner_ascends height (subtree_ascends height) bounds (nodes number).0 subtree

  module _ (key : List ℕ) (leaf : ℕ) where
    -- a list is the leaf's pairs, with lower ones before them and higher ones behind
    pub record HasLeaf (pairs : List Pair) : Type 0 where
      pub front : List Pair
      pub back : List Pair
      pub is : pairs ≡ front ++ (pairs_of (nodes leaf).0 ++ back)
      pub below : AllBelow key front
      pub above : AllAbove key back
      pub is_leaf : (nodes leaf).0 ≡ node.Leaf (pairs_of (nodes leaf).0)

    more_behind : (xs ys : List Pair) → HasLeaf xs → AllAbove key ys → HasLeaf (xs ++ ys)
    more_behind xs ys h above = record {
      front = h.front;
      back = h.back ++ ys;
      is = ap (λ zs. zs ++ ys) h.is ∙ append_assoc h.front (pairs_of (nodes leaf).0 ++ h.back) ys ∙ ap (λ zs. h.front ++ zs) (append_assoc (pairs_of (nodes leaf).0) h.back ys);
      below = h.below;
      above = all_append (λ p. is_below key p.0 ≡ true) h.back ys h.above above;
      is_leaf = h.is_leaf;
    }

    more_before : (xs ys : List Pair) → AllBelow key xs → HasLeaf ys → HasLeaf (xs ++ ys)
    more_before xs ys below h = record {
      front = xs ++ h.front;
      back = h.back;
      is = ap (λ zs. xs ++ zs) h.is ∙ sym (append_assoc xs h.front (pairs_of (nodes leaf).0 ++ h.back));
      below = all_append (λ p. is_below p.0 key ≡ true) xs h.front below h.below;
      above = h.above;
      is_leaf = h.is_leaf;
    }

    place : List (List ℕ) → ℕ
    place seps = length (filter (λ s. not (is_below key s)) seps)

    kids_have : (height : ℕ) (each : (b : Bounds) (k : ℕ) → IsSubtree height bucket nodes b k → leaf_for height nodes key k ≡ leaf → HasLeaf (pairs_under height nodes k))
        (bounds : Bounds) (seps : List (List ℕ)) (kids : List ℕ) → is_ascending seps ≡ true → AllBetween (IsSubtree height bucket nodes) bounds seps kids
        → leaf_for height nodes key (slice_index kids (place seps)) ≡ leaf → HasLeaf (flat_map (pairs_under height nodes) kids)
    unfolding AllBetween place
    kids_have height each bounds [] [] up all to = absurd all
    kids_have height each bounds [] (kid ∷ []) up all to = more_behind (pairs_under height nodes kid) [] (each bounds kid all to) tt
    kids_have height each bounds [] (kid ∷ kid' ∷ kids) up all to = absurd all
    kids_have height each bounds (sep ∷ seps) [] up all to = absurd all
    kids_have height each bounds (sep ∷ seps) (kid ∷ kids) up all to = by (is_below key sep) refl (kids_have height each (record { low = Some sep; high = bounds.high }) seps kids (tail_ascends sep seps up) all.1)
      where
        by : (b : Bool) → is_below key sep ≡ b → (leaf_for height nodes key (slice_index kids (place seps)) ≡ leaf → HasLeaf (flat_map (pairs_under height nodes) kids)) → HasLeaf (flat_map (pairs_under height nodes) (kid ∷ kids))
        by true low rest =
            let at : leaf_for height nodes key kid ≡ leaf = ap (λ ss. leaf_for height nodes key (slice_index (kid ∷ kids) (length ss))) (sym (none_up_to key sep seps up low)) ∙ to in
            more_behind (pairs_under height nodes kid) (flat_map (pairs_under height nodes) kids) (each (record { low = bounds.low; high = Some sep }) kid all.0 at)
            (all_map (λ p. is_below p.0 sep ≡ false) (λ p. is_below key p.0 ≡ true) (λ p h. below_not key sep p.0 low h) (flat_map (pairs_under height nodes) kids) (kids_behind height bounds sep seps kids up all.1))
        by false high rest =
            let at : leaf_for height nodes key (slice_index kids (place seps)) ≡ leaf = ap (λ b. leaf_for height nodes key (slice_index (kid ∷ kids) (length (cond (not b) (sep ∷ filter (λ s. not (is_below key s)) seps) (filter (λ s. not (is_below key s)) seps))))) (sym high) ∙ to in
            more_before (pairs_under height nodes kid) (flat_map (pairs_under height nodes) kids)
            (all_map (λ p. is_below p.0 sep ≡ true) (λ p. is_below p.0 key ≡ true) (λ p h. below_not p.0 sep key h high) (pairs_under height nodes kid) (subtree_up_to height bucket nodes (record { low = bounds.low; high = Some sep }) sep kid refl all.0)) (rest at)

    inner_has : (height : ℕ) (each : (b : Bounds) (k : ℕ) → IsSubtree height bucket nodes b k → leaf_for height nodes key k ≡ leaf → HasLeaf (pairs_under height nodes k))
        (bounds : Bounds) (n : Node) → IsInner (IsSubtree height bucket nodes) bounds n → leaf_for height nodes key (child_for key n) ≡ leaf → HasLeaf (flat_map (pairs_under height nodes) (kids_of n))
    unfolding place
    inner_has height each bounds (node.Inner seps kids) inner to = kids_have height each bounds seps kids (first_of_both (is_ascending seps) _ inner.0).0 inner.1 to
    inner_has height each bounds (node.Head root next depth) inner to = absurd inner
    inner_has height each bounds (node.Leaf pairs) inner to = absurd inner
    inner_has height each bounds node.Broken inner to = absurd inner

    pub leaf_pairs : (bounds : Bounds) (n : Node) → is_leaf bucket bounds n ≡ true → n ≡ node.Leaf (pairs_of n)
    leaf_pairs bounds (node.Leaf pairs) h = refl
    leaf_pairs bounds (node.Head root next depth) h = absurd (true≢false (sym h))
    leaf_pairs bounds (node.Inner seps kids) h = absurd (true≢false (sym h))
    leaf_pairs bounds node.Broken h = absurd (true≢false (sym h))

    -- a subtree has the pairs of the leaf in which the key belongs, with lower ones before them and higher ones behind
    pub has_leaf : (height : ℕ) (bounds : Bounds) (number : ℕ) → IsSubtree height bucket nodes bounds number → leaf_for height nodes key number ≡ leaf → HasLeaf (pairs_under height nodes number)
    unfolding IsSubtree pairs_under leaf_for
    has_leaf zero bounds number subtree to = record {
      front = [];
      back = [];
      is = ap (λ n. pairs_of (nodes n).0) to ∙ sym (append-nil (pairs_of (nodes leaf).0));
      below = tt;
      above = tt;
      is_leaf = leaf_pairs bounds (nodes leaf).0 (subst (λ n. is_leaf bucket bounds (nodes n).0 ≡ true) to subtree);
    }
    has_leaf (suc height) bounds number subtree to = inner_has height (has_leaf height) bounds (nodes number).0 subtree to
