-- A subtree of nodes that stay as they were stays as it was.
use Rattle.std.proofs.Common.{◌≡◌, ℕ, zero, suc, ◌≤◌, IsTrue, List, [], ◌∷◌, ◌++◌, refl, sym, ap, ◌∙◌, subst, arith, Some}
use Rattle.std.specs.Prelude.{flat_map}
use Rattle.fine_model.specs.Types.{Node}
use Rattle.fine_model.specs.Types.node
use Rattle.fine_model.specs.Nodes.{Content}
use Rattle.fine_model.specs.Trees.{Bounds, AllBetween, is_leaf, IsInner, IsSubtree, kids_of, pairs_of, pairs_under, reached}
use Rattle.fine_model.proofs.Ordered.Times.{times, times-append, times-same, times-tail}

module _ (bucket : ℕ) (old new : ℕ → Content) where
  -- the numbers of a list have the nodes that they had
  abbrev pub Stay : List ℕ → Type 0
  Stay ns = (n : ℕ) → 1 ≤ times n ns → new n ≡ old n

  pub stay_left : (xs ys : List ℕ) → Stay (xs ++ ys) → Stay xs
  stay_left xs ys stay n here = stay n (let a = times-append n xs ys in omega (arith, a, here))

  pub stay_right : (xs ys : List ℕ) → Stay (xs ++ ys) → Stay ys
  stay_right xs ys stay n here = stay n (let a = times-append n xs ys in omega (arith, a, here))

  stay_first : (x : ℕ) (xs : List ℕ) → Stay (x ∷ xs) → new x ≡ old x
  stay_first x xs stay = stay x (let s = times-same x xs in omega (arith, s))

  stay_rest : (x : ℕ) (xs : List ℕ) → Stay (x ∷ xs) → Stay xs
  stay_rest x xs stay n here = stay n (let t = times-tail n x xs in omega (arith, t, here))

  pub record SameUnder (height : ℕ) (bounds : Bounds) (number : ℕ) : Type 0 where
    pub subtree : IsSubtree height bucket new bounds number
    pub same_reached : reached height new number ≡ reached height old number
    pub same_pairs : pairs_under height new number ≡ pairs_under height old number

  pub record SameKids (height : ℕ) (bounds : Bounds) (seps : List (List ℕ)) (kids : List ℕ) : Type 0 where
    pub between : AllBetween (IsSubtree height bucket new) bounds seps kids
    pub same_reached : flat_map (reached height new) kids ≡ flat_map (reached height old) kids
    pub same_pairs : flat_map (pairs_under height new) kids ≡ flat_map (pairs_under height old) kids

  kids_stay : (height : ℕ) (each : (b : Bounds) (k : ℕ) → IsSubtree height bucket old b k → Stay (reached height old k) → SameUnder height b k)
      (bounds : Bounds) (seps : List (List ℕ)) (kids : List ℕ) → AllBetween (IsSubtree height bucket old) bounds seps kids → Stay (flat_map (reached height old) kids) → SameKids height bounds seps kids
  unfolding AllBetween
  kids_stay height each bounds [] [] all stay = absurd all
  kids_stay height each bounds [] (kid ∷ []) all stay =
      let s = each bounds kid all (stay_left (reached height old kid) [] stay) in
      record { between = s.subtree; same_reached = ap (λ xs. xs ++ []) s.same_reached; same_pairs = ap (λ xs. xs ++ []) s.same_pairs }
  kids_stay height each bounds [] (kid ∷ kid' ∷ kids) all stay = absurd all
  kids_stay height each bounds (sep ∷ seps) [] all stay = absurd all
  kids_stay height each bounds (sep ∷ seps) (kid ∷ kids) all stay =
      let s = each (record { low = bounds.low; high = Some sep }) kid all.0 (stay_left (reached height old kid) (flat_map (reached height old) kids) stay) in
      let r = kids_stay height each (record { low = Some sep; high = bounds.high }) seps kids all.1 (stay_right (reached height old kid) (flat_map (reached height old) kids) stay) in
      record {
        between = (s.subtree, r.between);
        same_reached = ap (λ xs. xs ++ flat_map (reached height new) kids) s.same_reached ∙ ap (λ xs. reached height old kid ++ xs) r.same_reached;
        same_pairs = ap (λ xs. xs ++ flat_map (pairs_under height new) kids) s.same_pairs ∙ ap (λ xs. pairs_under height old kid ++ xs) r.same_pairs;
      }

  pub record SameInner (height : ℕ) (bounds : Bounds) (n : Node) : Type 0 where
    pub inner : IsInner (IsSubtree height bucket new) bounds n
    pub same_reached : flat_map (reached height new) (kids_of n) ≡ flat_map (reached height old) (kids_of n)
    pub same_pairs : flat_map (pairs_under height new) (kids_of n) ≡ flat_map (pairs_under height old) (kids_of n)

  inner_stays : (height : ℕ) (each : (b : Bounds) (k : ℕ) → IsSubtree height bucket old b k → Stay (reached height old k) → SameUnder height b k)
      (bounds : Bounds) (n : Node) → IsInner (IsSubtree height bucket old) bounds n → Stay (flat_map (reached height old) (kids_of n)) → SameInner height bounds n
  inner_stays height each bounds (node.Inner seps kids) inner stay =
      let s = kids_stay height each bounds seps kids inner.1 stay in record { inner = (inner.0, s.between); same_reached = s.same_reached; same_pairs = s.same_pairs }
  inner_stays height each bounds (node.Head root next depth) inner stay = absurd inner
  inner_stays height each bounds (node.Leaf pairs) inner stay = absurd inner
  inner_stays height each bounds node.Broken inner stay = absurd inner

  pub under_stays : (height : ℕ) (bounds : Bounds) (number : ℕ) → IsSubtree height bucket old bounds number → Stay (reached height old number) → SameUnder height bounds number
  unfolding IsSubtree reached pairs_under
  under_stays zero bounds number subtree stay =
      let e = stay_first number [] stay in
      record { subtree = subst (λ c. IsTrue (is_leaf bucket bounds c.0)) (sym e) subtree; same_reached = refl; same_pairs = ap (λ c. pairs_of c.0) e }
  under_stays (suc height) bounds number subtree stay =
      let e = stay_first number (flat_map (reached height old) (kids_of (old number).0)) stay in
      let s = inner_stays height (under_stays height) bounds (old number).0 subtree (stay_rest number (flat_map (reached height old) (kids_of (old number).0)) stay) in
      record {
        subtree = subst (λ c. IsInner (IsSubtree height bucket new) bounds c.0) (sym e) s.inner;
        same_reached = ap (λ ns. number ∷ ns) (ap (λ c. flat_map (reached height new) (kids_of c.0)) e ∙ s.same_reached);
        same_pairs = ap (λ c. flat_map (pairs_under height new) (kids_of c.0)) e ∙ s.same_pairs;
      }

  pub between_stays : (height : ℕ) (bounds : Bounds) (seps : List (List ℕ)) (kids : List ℕ) → AllBetween (IsSubtree height bucket old) bounds seps kids → Stay (flat_map (reached height old) kids) → SameKids height bounds seps kids
  between_stays height = kids_stay height (under_stays height)
