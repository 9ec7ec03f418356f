-- What is changed in the leaf where a key belongs is changed so in the whole subtree.
use Rattle.std.proofs.Common.{◌≡◌, ◌≢◌, ℕ, zero, suc, ◌==◌, nat_eq, Bool, true, false, cond, not, ◌&&◌, ◌||◌, IsTrue, List, [], ◌∷◌, ◌++◌, length, slice_index, refl, sym, ap, ◌∙◌, subst, true≢false, Some, eqb-true, eq-eqb, append-nil, arith}
use Rattle.std.specs.Prelude.{flat_map, filter, Option}
use Rattle.std.specs.List.{AllByRecursion, list_any}
use Rattle.std.proofs.lemmas.Bool.{or_parts, not-true}
use Rattle.std.proofs.lemmas.List.Folds.{list_any-append}
use Rattle.fine_model.specs.Types.{Node}
use Rattle.fine_model.specs.Types.node
use Rattle.fine_model.specs.Map.{is_below, Pair, is_ascending}
use Rattle.fine_model.specs.Nodes.{Content}
use Rattle.fine_model.specs.Trees.{Bounds, AllBetween, is_key_within, is_leaf, IsInner, IsSubtree, kids_of, pairs_of, pairs_under, reached, is_distinct, bucket_of, is_from, is_up_to}
use Rattle.fine_model.specs.Pushed.{child_for, leaf_for}
use Rattle.fine_model.proofs.Ordered.Order.{AllBelow, AllAbove, is_below-trans, is_below-self, first_of_both, all_map}
use Rattle.fine_model.proofs.Trees.Bounded.{below_not, kids_from, subtree_from, subtree_up_to}
use Rattle.fine_model.proofs.Ordered.Times.{absent_times, times}
use Rattle.fine_model.proofs.Trees.Frame.{Stay, between_stays, under_stays}

abbrev pub IsIn : ℕ → List ℕ → Type 0
IsIn n ns = list_any (nat_eq n) ns ≡ true

abbrev pub IsAbsent : ℕ → List ℕ → Type 0
IsAbsent n ns = list_any (nat_eq n) ns ≡ false

distinct_left : (xs ys : List ℕ) → is_distinct (xs ++ ys) ≡ true → is_distinct xs ≡ true
unfolding is_distinct
distinct_left [] ys h = refl
distinct_left (x ∷ xs) ys h =
    let b = first_of_both (not (list_any (nat_eq x) (xs ++ ys))) (is_distinct (xs ++ ys)) h in
    let a = or_parts (list_any (nat_eq x) xs) (list_any (nat_eq x) ys) (sym (list_any-append (nat_eq x) xs ys) ∙ not-true (list_any (nat_eq x) (xs ++ ys)) b.0) in
    ap (λ c. not c && is_distinct xs) a.0 ∙ distinct_left xs ys b.1

distinct_right : (xs ys : List ℕ) → is_distinct (xs ++ ys) ≡ true → is_distinct ys ≡ true
unfolding is_distinct
distinct_right [] ys h = h
distinct_right (x ∷ xs) ys h = distinct_right xs ys (first_of_both (not (list_any (nat_eq x) (xs ++ ys))) (is_distinct (xs ++ ys)) h).1

-- of two parts that have no number twice, what is in the one is not in the other
apart : (n : ℕ) (xs ys : List ℕ) → is_distinct (xs ++ ys) ≡ true → IsIn n xs → IsAbsent n ys
unfolding is_distinct
apart n [] ys h here = absurd (true≢false (sym here))
apart n (x ∷ xs) ys h here = by (nat_eq n x) refl here (apart n xs ys (first_of_both (not (list_any (nat_eq x) (xs ++ ys))) (is_distinct (xs ++ ys)) h).1)
  where
    by : (b : Bool) → nat_eq n x ≡ b → (b || list_any (nat_eq n) xs) ≡ true → (IsIn n xs → IsAbsent n ys) → IsAbsent n ys
    by true same here rest =
        let a = or_parts (list_any (nat_eq x) xs) (list_any (nat_eq x) ys) (sym (list_any-append (nat_eq x) xs ys) ∙ not-true (list_any (nat_eq x) (xs ++ ys)) (first_of_both (not (list_any (nat_eq x) (xs ++ ys))) (is_distinct (xs ++ ys)) h).0) in
        subst (λ m. list_any (nat_eq m) ys ≡ false) (sym (eqb-true n x same)) a.1
    by false same here rest = rest here

apart_left : (n : ℕ) (xs ys : List ℕ) → is_distinct (xs ++ ys) ≡ true → IsIn n ys → IsAbsent n xs
apart_left n xs ys h there = by (list_any (nat_eq n) xs) refl
  where
    by : (b : Bool) → list_any (nat_eq n) xs ≡ b → IsAbsent n xs
    by true here = absurd (true≢false (sym there ∙ apart n xs ys h here))
    by false here = here

-- A change of pairs that reaches only the part of a list where its key belongs, and keeps leaves in order.
pub record IsLocal (bucket : ℕ) (key : List ℕ) (f : List Pair → List Pair) : Type 0 where
  pub left : (front back : List Pair) → AllAbove key back → f (front ++ back) ≡ f front ++ back
  pub right : (front back : List Pair) → AllBelow key front → f (front ++ back) ≡ front ++ f back
  pub keeps : (bounds : Bounds) (pairs : List Pair) → is_leaf bucket bounds (node.Leaf pairs) ≡ true → is_key_within bucket bounds key ≡ true → is_leaf bucket bounds (node.Leaf (f pairs)) ≡ true

module _ (bucket : ℕ) (old new : ℕ → Content) (leaf : ℕ) (key : List ℕ) (f : List Pair → List Pair) (version : ℕ) (local : IsLocal bucket key f)
    (changed : new leaf ≡ (node.Leaf (f (pairs_of (old leaf).0)), version)) (others : (n : ℕ) → n ≢ leaf → new n ≡ old n) (of_bucket : (bucket_of key == bucket) ≡ true) where
  -- nodes among which the leaf is not stay as they were
  stays : (ns : List ℕ) → IsAbsent leaf ns → Stay bucket old new ns
  stays ns absent n here = others n (λ same. let none = absent_times leaf ns absent in let e : times n ns ≡ times leaf ns = ap (λ m. times m ns) same in absurd (omega (arith, here, none, e)))

  leaf_changed : (bounds : Bounds) (n : Node) → is_leaf bucket bounds n ≡ true → is_key_within bucket bounds key ≡ true → is_leaf bucket bounds (node.Leaf (f (pairs_of n))) ≡ true
  leaf_changed bounds (node.Leaf pairs) good within = local.keeps bounds pairs good within
  leaf_changed bounds (node.Head root next depth) good within = absurd (true≢false (sym good))
  leaf_changed bounds (node.Inner seps kids) good within = absurd (true≢false (sym good))
  leaf_changed bounds node.Broken good within = absurd (true≢false (sym good))

  -- a subtree that the leaf belongs to has its pairs changed
  pub record Updated (height : ℕ) (bounds : Bounds) (number : ℕ) : Type 0 where
    pub subtree : IsSubtree height bucket new bounds number
    pub same_reached : reached height new number ≡ reached height old number
    pub pairs_changed : pairs_under height new number ≡ f (pairs_under height old number)
    pub here : IsIn leaf (reached height old number)

  record UpdatedKids (height : ℕ) (bounds : Bounds) (seps : List (List ℕ)) (kids : List ℕ) : Type 0 where
    between : AllBetween (IsSubtree height bucket new) bounds seps kids
    same_reached : flat_map (reached height new) kids ≡ flat_map (reached height old) kids
    pairs_changed : flat_map (pairs_under height new) kids ≡ f (flat_map (pairs_under height old) kids)
    here : IsIn leaf (flat_map (reached height old) kids)

  in_left : (xs ys : List ℕ) → IsIn leaf xs → IsIn leaf (xs ++ ys)
  in_left xs ys h = list_any-append (nat_eq leaf) xs ys ∙ ap (λ b. b || list_any (nat_eq leaf) ys) h

  or_true : (b : Bool) → (b || true) ≡ true
  or_true true = refl
  or_true false = refl

  in_right : (xs ys : List ℕ) → IsIn leaf ys → IsIn leaf (xs ++ ys)
  in_right xs ys h = list_any-append (nat_eq leaf) xs ys ∙ ap (λ b. list_any (nat_eq leaf) xs || b) h ∙ or_true (list_any (nat_eq leaf) xs)

  -- a key within other bounds of the same bucket
  within_to : (bounds : Bounds) (high : Option (List ℕ)) → is_key_within bucket bounds key ≡ true → is_up_to high key ≡ true → is_key_within bucket (record { low = bounds.low; high = high }) key ≡ true
  within_to bounds high within below =
      ap (λ b. b && (is_up_to high key && (bucket_of key == bucket))) (first_of_both (is_from bounds.low key) _ within).0
      ∙ ap (λ b. b && (bucket_of key == bucket)) below ∙ of_bucket

  within_from : (bounds : Bounds) (low : Option (List ℕ)) → is_key_within bucket bounds key ≡ true → is_from low key ≡ true → is_key_within bucket (record { low = low; high = bounds.high }) key ≡ true
  within_from bounds low within above =
      ap (λ b. b && (is_up_to bounds.high key && (bucket_of key == bucket))) above ∙ (first_of_both (is_from bounds.low key) _ within).1

  -- separators behind one that is above the key are above it too
  none_up_to : (sep : List ℕ) (seps : List (List ℕ)) → is_ascending (sep ∷ seps) ≡ true → is_below key sep ≡ true → filter (λ s. not (is_below key s)) (sep ∷ seps) ≡ []
  none_up_to sep [] up above = ap (λ b. cond (not b) (sep ∷ []) []) above
  none_up_to sep (s ∷ seps) up above =
      ap (λ b. cond (not b) (sep ∷ filter (λ s. not (is_below key s)) (s ∷ seps)) (filter (λ s. not (is_below key s)) (s ∷ seps))) above
      ∙ none_up_to s seps (first_of_both (is_below sep s) (is_ascending (s ∷ seps)) up).1 (is_below-trans key sep s above (first_of_both (is_below sep s) (is_ascending (s ∷ seps)) up).0)

  tail_ascends : (sep : List ℕ) (seps : List (List ℕ)) → is_ascending (sep ∷ seps) ≡ true → is_ascending seps ≡ true
  tail_ascends sep [] up = refl
  tail_ascends sep (s ∷ seps) up = (first_of_both (is_below sep s) (is_ascending (s ∷ seps)) up).1

  all_above_first : (sep : List ℕ) (seps : List (List ℕ)) → is_ascending (sep ∷ seps) ≡ true → AllByRecursion (λ s. is_below sep s ≡ true) seps
  all_above_first sep [] up = tt
  all_above_first sep (s ∷ seps) up =
      let b = first_of_both (is_below sep s) (is_ascending (s ∷ seps)) up in
      (b.0, all_map (λ t. is_below s t ≡ true) (λ t. is_below sep t ≡ true) (λ t h. is_below-trans sep s t b.0 h) seps (all_above_first s seps b.1))

  place : List (List ℕ) → ℕ
  place seps = length (filter (λ s. not (is_below key s)) seps)

  updated_kids : (height : ℕ) (each : (b : Bounds) (k : ℕ) → IsSubtree height bucket old b k → is_distinct (reached height old k) ≡ true → leaf_for height old key k ≡ leaf → is_key_within bucket b key ≡ true → Updated height b k)
      (bounds : Bounds) (seps : List (List ℕ)) (kids : List ℕ) → is_ascending seps ≡ true → AllBetween (IsSubtree height bucket old) bounds seps kids → is_distinct (flat_map (reached height old) kids) ≡ true
      → leaf_for height old key (slice_index kids (place seps)) ≡ leaf → is_key_within bucket bounds key ≡ true → UpdatedKids height bounds seps kids
  unfolding AllBetween place
  updated_kids height each bounds [] [] up all apart_all to within = absurd all
  updated_kids height each bounds [] (kid ∷ []) up all apart_all to within =
      let u = each bounds kid all (distinct_left (reached height old kid) [] apart_all) to within in
      record {
        between = u.subtree;
        same_reached = ap (λ xs. xs ++ []) u.same_reached;
        pairs_changed = append-nil (pairs_under height new kid) ∙ u.pairs_changed ∙ sym (ap f (append-nil (pairs_under height old kid)));
        here = in_left (reached height old kid) [] u.here;
      }
  updated_kids height each bounds [] (kid ∷ kid' ∷ kids) up all apart_all to within = absurd all
  updated_kids height each bounds (sep ∷ seps) [] up all apart_all to within = absurd all
  updated_kids height each bounds (sep ∷ seps) (kid ∷ kids) up all apart_all to within = by (is_below key sep) refl (updated_kids height each (record { low = Some sep; high = bounds.high }) seps kids (tail_ascends sep seps up) all.1 (distinct_right (reached height old kid) (flat_map (reached height old) kids) apart_all))
    where
      by : (b : Bool) → is_below key sep ≡ b
          → (leaf_for height old key (slice_index kids (place seps)) ≡ leaf → is_key_within bucket (record { low = Some sep; high = bounds.high }) key ≡ true → UpdatedKids height (record { low = Some sep; high = bounds.high }) seps kids)
          → UpdatedKids height bounds (sep ∷ seps) (kid ∷ kids)
      by true low rest =
          let at : leaf_for height old key kid ≡ leaf = ap (λ ss. leaf_for height old key (slice_index (kid ∷ kids) (length ss))) (sym (none_up_to sep seps up low)) ∙ to in
          let u = each (record { low = bounds.low; high = Some sep }) kid all.0 (distinct_left (reached height old kid) (flat_map (reached height old) kids) apart_all) at (within_to bounds (Some sep) within low) in
          let s = between_stays bucket old new height (record { low = Some sep; high = bounds.high }) seps kids all.1 (stays (flat_map (reached height old) kids) (apart leaf (reached height old kid) (flat_map (reached height old) kids) apart_all u.here)) in
          let above : AllAbove key (flat_map (pairs_under height old) kids) = all_map (λ p. is_below p.0 sep ≡ false) (λ p. is_below key p.0 ≡ true) (λ p h. below_not key sep p.0 low h) (flat_map (pairs_under height old) kids)
          (kids_from (IsSubtree height bucket old) (pairs_under height old) sep (λ b t k. subtree_from height bucket old b t k) (record { low = Some sep; high = bounds.high }) sep seps kids refl (is_below-self sep) (all_above_first sep seps up) all.1) in
          record {
            between = (u.subtree, s.between);
            same_reached = ap (λ xs. xs ++ flat_map (reached height new) kids) u.same_reached ∙ ap (λ xs. reached height old kid ++ xs) s.same_reached;
            pairs_changed = ap (λ xs. xs ++ flat_map (pairs_under height new) kids) u.pairs_changed ∙ ap (λ xs. f (pairs_under height old kid) ++ xs) s.same_pairs
                ∙ sym (local.left (pairs_under height old kid) (flat_map (pairs_under height old) kids) above);
            here = in_left (reached height old kid) (flat_map (reached height old) kids) u.here;
          }
      by false high rest =
          let at : leaf_for height old key (slice_index kids (place seps)) ≡ leaf = ap (λ b. leaf_for height old key (slice_index (kid ∷ kids) (length (cond (not b) (sep ∷ filter (λ s. not (is_below key s)) seps) (filter (λ s. not (is_below key s)) seps))))) (sym high) ∙ to in
          let r = rest at (within_from bounds (Some sep) within (ap not high)) in
          let s = under_stays bucket old new height (record { low = bounds.low; high = Some sep }) kid all.0 (stays (reached height old kid) (apart_left leaf (reached height old kid) (flat_map (reached height old) kids) apart_all r.here)) in
          let below : AllBelow key (pairs_under height old kid) = all_map (λ p. is_below p.0 sep ≡ true) (λ p. is_below p.0 key ≡ true) (λ p h. below_not p.0 sep key h high) (pairs_under height old kid)
          (subtree_up_to height bucket old (record { low = bounds.low; high = Some sep }) sep kid refl all.0) in
          record {
            between = (s.subtree, r.between);
            same_reached = ap (λ xs. xs ++ flat_map (reached height new) kids) s.same_reached ∙ ap (λ xs. reached height old kid ++ xs) r.same_reached;
            pairs_changed = ap (λ xs. xs ++ flat_map (pairs_under height new) kids) s.same_pairs ∙ ap (λ xs. pairs_under height old kid ++ xs) r.pairs_changed
                ∙ sym (local.right (pairs_under height old kid) (flat_map (pairs_under height old) kids) below);
            here = in_right (reached height old kid) (flat_map (reached height old) kids) r.here;
          }

  -- an inner node whose child in which the key belongs is updated
  updated_inner : (height : ℕ) (each : (b : Bounds) (k : ℕ) → IsSubtree height bucket old b k → is_distinct (reached height old k) ≡ true → leaf_for height old key k ≡ leaf → is_key_within bucket b key ≡ true → Updated height b k)
      (bounds : Bounds) (n : Node) → IsInner (IsSubtree height bucket old) bounds n → is_distinct (flat_map (reached height old) (kids_of n)) ≡ true → leaf_for height old key (child_for key n) ≡ leaf → is_key_within bucket bounds key ≡ true
      → IsInner (IsSubtree height bucket new) bounds n × (flat_map (reached height new) (kids_of n) ≡ flat_map (reached height old) (kids_of n))
      × (flat_map (pairs_under height new) (kids_of n) ≡ f (flat_map (pairs_under height old) (kids_of n))) × IsIn leaf (flat_map (reached height old) (kids_of n))
  unfolding place
  updated_inner height each bounds (node.Inner seps kids) inner apart_all to within =
      let u = updated_kids height each bounds seps kids (first_of_both (is_ascending seps) _ inner.0).0 inner.1 apart_all to within in
      ((inner.0, u.between), u.same_reached, u.pairs_changed, u.here)
  updated_inner height each bounds (node.Head root next depth) inner apart_all to within = absurd inner
  updated_inner height each bounds (node.Leaf pairs) inner apart_all to within = absurd inner
  updated_inner height each bounds node.Broken inner apart_all to within = absurd inner

  -- Changing the pairs of the leaf where the key belongs changes those of the subtree.
  pub updated : (height : ℕ) (bounds : Bounds) (number : ℕ) → IsSubtree height bucket old bounds number → is_distinct (reached height old number) ≡ true → leaf_for height old key number ≡ leaf → is_key_within bucket bounds key ≡ true → Updated height bounds number
  unfolding IsSubtree reached pairs_under leaf_for is_distinct
  updated zero bounds number subtree apart_all to within =
      let e : new number ≡ (node.Leaf (f (pairs_of (old number).0)), version) = ap new to ∙ changed ∙ ap (λ n. (node.Leaf (f (pairs_of (old n).0)), version)) (sym to) in
      record {
        subtree = subst (λ c. IsTrue (is_leaf bucket bounds c.0)) (sym e) (leaf_changed bounds (old number).0 subtree within);
        same_reached = refl;
        pairs_changed = ap (λ c. pairs_of c.0) e;
        here = ap (λ b. b || false) (eq-eqb leaf number (sym to));
      }
  updated (suc height) bounds number subtree apart_all to within =
      let d = first_of_both (not (list_any (nat_eq number) (flat_map (reached height old) (kids_of (old number).0)))) (is_distinct (flat_map (reached height old) (kids_of (old number).0))) apart_all in
      let u = updated_inner height (updated height) bounds (old number).0 subtree d.1 to within in
      let e : new number ≡ old number = others number (λ is. true≢false (sym u.3 ∙ subst (λ m. list_any (nat_eq m) (flat_map (reached height old) (kids_of (old number).0)) ≡ false) is (not-true (list_any (nat_eq number) (flat_map (reached height old) (kids_of (old number).0))) d.0))) in
      record {
        subtree = subst (λ c. IsInner (IsSubtree height bucket new) bounds c.0) (sym e) u.0;
        same_reached = ap (λ ns. number ∷ ns) (ap (λ c. flat_map (reached height new) (kids_of c.0)) e ∙ u.1);
        pairs_changed = ap (λ c. flat_map (pairs_under height new) (kids_of c.0)) e ∙ u.2;
        here = ap (λ b. nat_eq leaf number || b) u.3 ∙ or_true (nat_eq leaf number);
      }
