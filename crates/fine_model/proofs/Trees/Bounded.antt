-- The keys of a subtree lie within its bounds.
use Rattle.std.proofs.Common.{◌≡◌, ◌⊎◌, ℕ, zero, suc, Bool, true, false, ◌&&◌, List, [], ◌∷◌, refl, sym, ◌∙◌, subst, inl, inr, true≢false, Some}
use Rattle.std.specs.Prelude.{flat_map}
use Rattle.std.specs.List.{AllByRecursion}
use Rattle.std.proofs.lemmas.Bool.{not-true}
use Rattle.fine_model.specs.Types.{Node}
use Rattle.fine_model.specs.Types.node
use Rattle.fine_model.specs.Map.{Pair, is_below, is_ascending}
use Rattle.fine_model.specs.Nodes.{Content}
use Rattle.fine_model.specs.Trees.{Bounds, AllBetween, is_key_within, is_leaf, are_separators, IsInner, IsSubtree, kids_of, pairs_of, pairs_under, is_from, is_above, is_up_to}
use Rattle.fine_model.proofs.Ordered.Order.{keys_of, order_cases, is_below-trans, is_below-asym, is_below-self, first_of_both, all_map}
use Rattle.fine_model.proofs.Ordered.Sets.{all_append, all_from_list_all}

-- a stands before b, and c not before b, so a stands before c
pub below_not : (a b c : List ℕ) → is_below a b ≡ true → is_below c b ≡ false → is_below a c ≡ true
below_not a b c ab cb = by (order_cases b c)
  where
    by : ((is_below b c ≡ true) × (is_below c b ≡ false)) ⊎ (b ≡ c) ⊎ ((is_below c b ≡ true) × (is_below b c ≡ false)) → is_below a c ≡ true
    by (inl h) = is_below-trans a b c ab h.0
    by (inr (inl e)) = subst (λ x. is_below a x ≡ true) e ab
    by (inr (inr h)) = absurd (true≢false (sym h.0 ∙ cb))

-- a not before b, and b not before c, so a not before c
pub not_lower : (a c b : List ℕ) → is_below b c ≡ false → is_below a b ≡ false → is_below a c ≡ false
not_lower a c b bc ab = by (is_below a c) refl
  where
    by : (r : Bool) → is_below a c ≡ r → is_below a c ≡ false
    by true h = absurd (true≢false (sym (below_not a c b h bc) ∙ ab))
    by false h = h

abbrev pub AllFrom : List ℕ → List Pair → Type 0
AllFrom low pairs = AllByRecursion (λ p. is_below p.0 low ≡ false) pairs

abbrev pub AllUpTo : List ℕ → List Pair → Type 0
AllUpTo high pairs = AllByRecursion (λ p. is_below p.0 high ≡ true) pairs

-- a leaf's keys
leaf_from : (bucket : ℕ) (bounds : Bounds) (low : List ℕ) (n : Node) → bounds.low ≡ Some low → is_leaf bucket bounds n ≡ true → AllFrom low (pairs_of n)
leaf_from bucket bounds low (node.Leaf pairs) is leaf =
    all_map (λ p. is_key_within bucket bounds p.0 ≡ true) (λ p. is_below p.0 low ≡ false)
    (λ p h. not-true (is_below p.0 low) (subst (λ b. is_from b p.0 ≡ true) is (first_of_both (is_from bounds.low p.0) _ h).0))
    pairs (all_from_list_all (λ p. is_key_within bucket bounds p.0) pairs (first_of_both (is_ascending (keys_of pairs)) _ leaf).1)
leaf_from bucket bounds low (node.Head root next depth) is leaf = absurd (true≢false (sym leaf))
leaf_from bucket bounds low (node.Inner seps kids) is leaf = absurd (true≢false (sym leaf))
leaf_from bucket bounds low node.Broken is leaf = absurd (true≢false (sym leaf))

leaf_up_to : (bucket : ℕ) (bounds : Bounds) (high : List ℕ) (n : Node) → bounds.high ≡ Some high → is_leaf bucket bounds n ≡ true → AllUpTo high (pairs_of n)
leaf_up_to bucket bounds high (node.Leaf pairs) is leaf =
    all_map (λ p. is_key_within bucket bounds p.0 ≡ true) (λ p. is_below p.0 high ≡ true)
    (λ p h. subst (λ b. is_up_to b p.0 ≡ true) is (first_of_both (is_up_to bounds.high p.0) _ (first_of_both (is_from bounds.low p.0) _ h).1).0)
    pairs (all_from_list_all (λ p. is_key_within bucket bounds p.0) pairs (first_of_both (is_ascending (keys_of pairs)) _ leaf).1)
leaf_up_to bucket bounds high (node.Head root next depth) is leaf = absurd (true≢false (sym leaf))
leaf_up_to bucket bounds high (node.Inner seps kids) is leaf = absurd (true≢false (sym leaf))
leaf_up_to bucket bounds high node.Broken is leaf = absurd (true≢false (sym leaf))

-- the keys of children that begin at a bound, and of those behind it
pub kids_from : (P : Bounds → ℕ → Type 0) (f : ℕ → List Pair) (low : List ℕ) (each : (b : Bounds) (t : List ℕ) (k : ℕ) → b.low ≡ Some t → P b k → AllFrom t (f k))
    (bounds : Bounds) (t : List ℕ) (seps : List (List ℕ)) (kids : List ℕ) → bounds.low ≡ Some t → is_below t low ≡ false → AllByRecursion (λ sep. is_below low sep ≡ true) seps
    → AllBetween P bounds seps kids → AllFrom low (flat_map f kids)
unfolding AllBetween
kids_from P f low each bounds t [] [] is from above all = absurd all
kids_from P f low each bounds t [] (kid ∷ []) is from above all =
    all_append (λ p. is_below p.0 low ≡ false) (f kid) [] (all_map (λ p. is_below p.0 t ≡ false) (λ p. is_below p.0 low ≡ false) (λ p h. lower p.0 h) (f kid) (each bounds t kid is all)) tt
  where
    lower : (k : List ℕ) → is_below k t ≡ false → is_below k low ≡ false
    lower k h = not_lower k low t from h
kids_from P f low each bounds t [] (kid ∷ kid' ∷ kids) is from above all = absurd all
kids_from P f low each bounds t (sep ∷ seps) [] is from above all = absurd all
kids_from P f low each bounds t (sep ∷ seps) (kid ∷ kids) is from above all =
    all_append (λ p. is_below p.0 low ≡ false) (f kid) (flat_map f kids)
    (all_map (λ p. is_below p.0 t ≡ false) (λ p. is_below p.0 low ≡ false) (λ p h. not_lower p.0 low t from h) (f kid) (each _ t kid is all.0))
    (kids_from P f low each _ sep seps kids refl (is_below-asym low sep above.0) above.1 all.1)

-- the keys of children up to a bound
pub kids_up_to : (P : Bounds → ℕ → Type 0) (f : ℕ → List Pair) (high : List ℕ) (each : (b : Bounds) (t : List ℕ) (k : ℕ) → b.high ≡ Some t → P b k → AllUpTo t (f k))
    (bounds : Bounds) (seps : List (List ℕ)) (kids : List ℕ) → bounds.high ≡ Some high → AllByRecursion (λ sep. is_below sep high ≡ true) seps → AllBetween P bounds seps kids → AllUpTo high (flat_map f kids)
unfolding AllBetween
kids_up_to P f high each bounds [] [] is below all = absurd all
kids_up_to P f high each bounds [] (kid ∷ []) is below all = all_append (λ p. is_below p.0 high ≡ true) (f kid) [] (each bounds high kid is all) tt
kids_up_to P f high each bounds [] (kid ∷ kid' ∷ kids) is below all = absurd all
kids_up_to P f high each bounds (sep ∷ seps) [] is below all = absurd all
kids_up_to P f high each bounds (sep ∷ seps) (kid ∷ kids) is below all =
    all_append (λ p. is_below p.0 high ≡ true) (f kid) (flat_map f kids)
    (all_map (λ p. is_below p.0 sep ≡ true) (λ p. is_below p.0 high ≡ true) (λ p h. is_below-trans p.0 sep high h below.0) (f kid) (each _ sep kid refl all.0))
    (kids_up_to P f high each _ seps kids is below.1 all.1)

seps_above : (bounds : Bounds) (low : List ℕ) (seps : List (List ℕ)) → bounds.low ≡ Some low → are_separators bounds seps ≡ true → AllByRecursion (λ sep. is_below low sep ≡ true) seps
seps_above bounds low seps is good =
    all_map (λ sep. (is_above bounds.low sep && is_up_to bounds.high sep) ≡ true) (λ sep. is_below low sep ≡ true) (λ sep h. subst (λ b. is_above b sep ≡ true) is (first_of_both (is_above bounds.low sep) _ h).0)
    seps (all_from_list_all (λ sep. is_above bounds.low sep && is_up_to bounds.high sep) seps (first_of_both (is_ascending seps) _ good).1)

seps_below : (bounds : Bounds) (high : List ℕ) (seps : List (List ℕ)) → bounds.high ≡ Some high → are_separators bounds seps ≡ true → AllByRecursion (λ sep. is_below sep high ≡ true) seps
seps_below bounds high seps is good =
    all_map (λ sep. (is_above bounds.low sep && is_up_to bounds.high sep) ≡ true) (λ sep. is_below sep high ≡ true) (λ sep h. subst (λ b. is_up_to b sep ≡ true) is (first_of_both (is_above bounds.low sep) _ h).1)
    seps (all_from_list_all (λ sep. is_above bounds.low sep && is_up_to bounds.high sep) seps (first_of_both (is_ascending seps) _ good).1)

inner_from : (P : Bounds → ℕ → Type 0) (f : ℕ → List Pair) (each : (b : Bounds) (t : List ℕ) (k : ℕ) → b.low ≡ Some t → P b k → AllFrom t (f k)) (bounds : Bounds) (low : List ℕ) (n : Node) → bounds.low ≡ Some low → IsInner P bounds n → AllFrom low (flat_map f (kids_of n))
inner_from P f each bounds low (node.Inner seps kids) is inner = kids_from P f low each bounds low seps kids is (is_below-self low) (seps_above bounds low seps is inner.0) inner.1
inner_from P f each bounds low (node.Head root next depth) is inner = absurd inner
inner_from P f each bounds low (node.Leaf pairs) is inner = absurd inner
inner_from P f each bounds low node.Broken is inner = absurd inner

inner_up_to : (P : Bounds → ℕ → Type 0) (f : ℕ → List Pair) (each : (b : Bounds) (t : List ℕ) (k : ℕ) → b.high ≡ Some t → P b k → AllUpTo t (f k)) (bounds : Bounds) (high : List ℕ) (n : Node) → bounds.high ≡ Some high → IsInner P bounds n → AllUpTo high (flat_map f (kids_of n))
inner_up_to P f each bounds high (node.Inner seps kids) is inner = kids_up_to P f high each bounds seps kids is (seps_below bounds high seps is inner.0) inner.1
inner_up_to P f each bounds high (node.Head root next depth) is inner = absurd inner
inner_up_to P f each bounds high (node.Leaf pairs) is inner = absurd inner
inner_up_to P f each bounds high node.Broken is inner = absurd inner

-- the keys of a subtree lie at its low bound or above it, and below its high bound
pub subtree_from : (height bucket : ℕ) (nodes : ℕ → Content) (bounds : Bounds) (low : List ℕ) (number : ℕ) → bounds.low ≡ Some low → IsSubtree height bucket nodes bounds number → AllFrom low (pairs_under height nodes number)
unfolding IsSubtree pairs_under
subtree_from zero bucket nodes bounds low number is subtree = leaf_from bucket bounds low (nodes number).0 is subtree
subtree_from (suc height) bucket nodes bounds low number is subtree =
    inner_from (IsSubtree height bucket nodes) (pairs_under height nodes) (λ b t k. subtree_from height bucket nodes b t k) bounds low (nodes number).0 is subtree

pub subtree_up_to : (height bucket : ℕ) (nodes : ℕ → Content) (bounds : Bounds) (high : List ℕ) (number : ℕ) → bounds.high ≡ Some high → IsSubtree height bucket nodes bounds number → AllUpTo high (pairs_under height nodes number)
unfolding IsSubtree pairs_under
subtree_up_to zero bucket nodes bounds high number is subtree = leaf_up_to bucket bounds high (nodes number).0 is subtree
subtree_up_to (suc height) bucket nodes bounds high number is subtree =
    inner_up_to (IsSubtree height bucket nodes) (pairs_under height nodes) (λ b t k. subtree_up_to height bucket nodes b t k) bounds high (nodes number).0 is subtree
