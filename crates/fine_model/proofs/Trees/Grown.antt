-- A subtree in which a pair was set, with splits: alone, or with a new subtree to its right.
use Rattle.std.proofs.Common.{◌≡◌, ◌≢◌, ◌⊎◌, inl, inr, ℕ, ◌+◌, ◌<◌, ◌≤◌, nat_le, Bool, true, false, cond, not, ◌&&◌, ◌||◌, List, [], ◌∷◌, ◌++◌, length, take, drop, refl, sym, ap, ◌∙◌, subst, true≢false, Some, append-nil, append_assoc, arith, length-append, take_at, drop_at}
use Rattle.std.specs.Prelude.{flat_map, Option, bytes_eq}
use Rattle.std.specs.List.{AllByRecursion, list_any}
use Rattle.std.proofs.lemmas.Grind.{flat_map-append}
use Rattle.std.proofs.lemmas.List.Elements.{filter-append}
use Rattle.std.proofs.lemmas.List.Folds.{list_any-append}
use Rattle.std.proofs.lemmas.Slice.Eq.{bytes_eq-Decides}
use Rattle.fine_model.specs.Types.node
use Rattle.fine_model.specs.Map.{is_below, set}
use Rattle.fine_model.specs.Nodes.{Content, keys_below, keys_above, linked}
use Rattle.fine_model.specs.Trees.{Bounds, AllBetween, is_above, is_up_to, are_separators, IsSubtree, pairs_under, reached}
use Rattle.fine_model.proofs.Ordered.Order.{is_below-asym, is_below-self, filter_all, filter_none, all_map}
use Rattle.fine_model.proofs.Ordered.Sets.{set-append_left, set-append_right}
use Rattle.fine_model.proofs.Ordered.Times.{times, times-append, times-other, times-cons}
use Rattle.fine_model.proofs.Trees.Frame.{Stay, stay_left, stay_right, under_stays, between_stays}
use Rattle.fine_model.proofs.Ordered.Zip.{first_or, Before, Behind, with_behind, with_before, Zip, good_with}

-- the numbers of one list are in the other as often, besides new ones from lo up to hi, each at most once
pub record IsGrown (lo hi : ℕ) (olds news : List ℕ) : Type 0 where
  pub ordered : lo ≤ hi
  pub low : (n : ℕ) → n < lo → times n news ≤ times n olds
  pub high : (n : ℕ) → hi ≤ n → times n news ≤ times n olds
  pub each : (n : ℕ) → times n news ≤ times n olds + 1

pub grown_between : (lo hi : ℕ) (xs olds news ys : List ℕ) → IsGrown lo hi olds news → IsGrown lo hi (xs ++ (olds ++ ys)) (xs ++ (news ++ ys))
grown_between lo hi xs olds news ys g = record {
  ordered = g.ordered;
  low = λ n h. let a = sums n olds in let b = sums n news in let l = g.low n h in omega (arith, a, b, l);
  high = λ n h. let a = sums n olds in let b = sums n news in let l = g.high n h in omega (arith, a, b, l);
  each = λ n. let a = sums n olds in let b = sums n news in let l = g.each n in omega (arith, a, b, l);
}
  where
    sums : (n : ℕ) (zs : List ℕ) → times n (xs ++ (zs ++ ys)) ≡ times n xs + (times n zs + times n ys)
    sums n zs = times-append n xs (zs ++ ys) ∙ ap (λ t. times n xs + t) (times-append n zs ys)

-- one more new number
pub grown_more : (lo mid : ℕ) (olds news more : List ℕ) → IsGrown lo mid olds news → ((n : ℕ) → times n more ≡ times n (mid ∷ news)) → IsGrown lo (mid + 1) olds more
grown_more lo mid olds news more g is = record {
  ordered = let o = g.ordered in omega (arith, o);
  low = λ n h. let o = g.ordered in let e = is n in let t = times-other n mid news (λ same. absurd (omega (arith, h, o, same))) in let l = g.low n h in omega (arith, e, t, l);
  high = λ n h. let e = is n in let t = times-other n mid news (λ same. absurd (omega (arith, h, same))) in let l = g.high n (omega (arith, h)) in omega (arith, e, t, l);
  each = λ n. by n (times-cons n mid news);
}
  where
    by : (n : ℕ) → ((n ≡ mid) × (times n (mid ∷ news) ≡ times n news + 1)) ⊎ ((n ≢ mid) × (times n (mid ∷ news) ≡ times n news)) → times n more ≤ times n olds + 1
    by n (inl h) = let e = is n in let l = g.high n (let s = h.0 in omega (arith, s)) in let t = h.1 in omega (arith, e, l, t)
    by n (inr h) = let e = is n in let l = g.each n in let t = h.1 in omega (arith, e, l, t)

module _ (bucket : ℕ) (old new : ℕ → Content) (key value : List ℕ) (lo hi : ℕ) where
  -- a subtree in which the pair was set, alone
  pub record GrownWhole (height : ℕ) (bounds : Bounds) (number : ℕ) : Type 0 where
    pub subtree : IsSubtree height bucket new bounds number
    pub pairs : pairs_under height new number ≡ set (pairs_under height old number) key value
    pub numbers : IsGrown lo hi (reached height old number) (reached height new number)

  -- and with a new subtree to its right, from a separator strictly within its bounds on
  pub record GrownSplit (height : ℕ) (bounds : Bounds) (number : ℕ) (sep : List ℕ) (right : ℕ) : Type 0 where
    pub left_tree : IsSubtree height bucket new (record { low = bounds.low; high = Some sep }) number
    pub right_tree : IsSubtree height bucket new (record { low = Some sep; high = bounds.high }) right
    pub above : is_above bounds.low sep ≡ true
    pub below : is_up_to bounds.high sep ≡ true
    pub pairs : pairs_under height new number ++ pairs_under height new right ≡ set (pairs_under height old number) key value
    pub numbers : IsGrown lo hi (reached height old number) (reached height new number ++ reached height new right)

  -- what comes before a child, and what comes behind it, stays
  pub record SameBefore (height : ℕ) (low : Option (List ℕ)) (seps : List (List ℕ)) (kids : List ℕ) (here : Option (List ℕ)) : Type 0 where
    pub before : Before (IsSubtree height bucket new) low seps kids here
    pub same_reached : flat_map (reached height new) kids ≡ flat_map (reached height old) kids
    pub same_pairs : flat_map (pairs_under height new) kids ≡ flat_map (pairs_under height old) kids

  before_stays : (height : ℕ) (low : Option (List ℕ)) (seps : List (List ℕ)) (kids : List ℕ) (here : Option (List ℕ)) → Before (IsSubtree height bucket old) low seps kids here
      → Stay bucket old new (flat_map (reached height old) kids) → SameBefore height low seps kids here
  before_stays height low [] [] here before stay = record { before = before; same_reached = refl; same_pairs = refl }
  before_stays height low [] (k ∷ ks) here before stay = absurd before
  before_stays height low (s ∷ ss) [] here before stay = absurd before
  before_stays height low (s ∷ ss) (k ∷ ks) here before stay =
      let u = under_stays bucket old new height (record { low = low; high = Some s }) k before.0 (stay_left bucket old new (reached height old k) (flat_map (reached height old) ks) stay) in
      let r = before_stays height (Some s) ss ks here before.1 (stay_right bucket old new (reached height old k) (flat_map (reached height old) ks) stay) in
      record {
        before = (u.subtree, r.before);
        same_reached = ap (λ xs. xs ++ flat_map (reached height new) ks) u.same_reached ∙ ap (λ xs. reached height old k ++ xs) r.same_reached;
        same_pairs = ap (λ xs. xs ++ flat_map (pairs_under height new) ks) u.same_pairs ∙ ap (λ xs. pairs_under height old k ++ xs) r.same_pairs;
      }

  pub record SameBehind (height : ℕ) (high : Option (List ℕ)) (seps : List (List ℕ)) (kids : List ℕ) : Type 0 where
    pub behind : Behind (IsSubtree height bucket new) high seps kids
    pub same_reached : flat_map (reached height new) kids ≡ flat_map (reached height old) kids
    pub same_pairs : flat_map (pairs_under height new) kids ≡ flat_map (pairs_under height old) kids

  behind_stays : (height : ℕ) (high : Option (List ℕ)) (seps : List (List ℕ)) (kids : List ℕ) → Behind (IsSubtree height bucket old) high seps kids
      → Stay bucket old new (flat_map (reached height old) kids) → SameBehind height high seps kids
  behind_stays height high [] [] behind stay = record { behind = tt; same_reached = refl; same_pairs = refl }
  behind_stays height high [] (k ∷ ks) behind stay = absurd behind
  behind_stays height high (s ∷ ss) ks behind stay =
      let r = between_stays bucket old new height (record { low = Some s; high = high }) ss ks behind stay in
      record { behind = r.between; same_reached = r.same_reached; same_pairs = r.same_pairs }

  module _ (height : ℕ) (bounds : Bounds) (seps : List (List ℕ)) (kids : List ℕ) (good : are_separators bounds seps ≡ true) (z : Zip height bucket old key bounds seps kids)
      (stay_before : Stay bucket old new (flat_map (reached height old) z.k1)) (stay_behind : Stay bucket old new (flat_map (reached height old) z.k2)) where
    abbrev before : SameBefore height bounds.low z.s1 z.k1 z.here
    before = before_stays height bounds.low z.s1 z.k1 z.here z.before stay_before

    abbrev behind : SameBehind height bounds.high z.s2 z.k2
    behind = behind_stays height bounds.high z.s2 z.k2 z.behind stay_behind

    kids_round : {A : Type 0} (f : ℕ → List A) → flat_map f kids ≡ flat_map f z.k1 ++ (f z.kid ++ flat_map f z.k2)
    kids_round f = ap (flat_map f) z.kids_are ∙ flat_map-append f z.k1 (z.kid ∷ z.k2)

    set_round : set (flat_map (pairs_under height old) kids) key value
        ≡ flat_map (pairs_under height old) z.k1 ++ (set (pairs_under height old z.kid) key value ++ flat_map (pairs_under height old) z.k2)
    set_round =
        ap (λ xs. set xs key value) (kids_round (pairs_under height old))
        ∙ set-append_right (flat_map (pairs_under height old) z.k1) (pairs_under height old z.kid ++ flat_map (pairs_under height old) z.k2) key value z.pairs_below
        ∙ ap (λ xs. flat_map (pairs_under height old) z.k1 ++ xs) (set-append_left (pairs_under height old z.kid) (flat_map (pairs_under height old) z.k2) key value z.pairs_above)

    -- the child in which the key belongs has the pair set, alone
    pub record KidsWhole : Type 0 where
      pub between : AllBetween (IsSubtree height bucket new) bounds seps kids
      pub pairs : flat_map (pairs_under height new) kids ≡ set (flat_map (pairs_under height old) kids) key value
      pub numbers : IsGrown lo hi (flat_map (reached height old) kids) (flat_map (reached height new) kids)

    pub kids_whole : GrownWhole height (record { low = z.here; high = first_or z.s2 bounds.high }) z.kid → KidsWhole
    kids_whole w = record {
      between =
          subst (λ ss. AllBetween (IsSubtree height bucket new) bounds ss kids) (sym z.seps_are)
          (subst (λ ks. AllBetween (IsSubtree height bucket new) bounds (z.s1 ++ z.s2) ks) (sym z.kids_are)
          (with_before (IsSubtree height bucket new) bounds.low bounds.high z.here z.s1 z.k1 z.s2 (z.kid ∷ z.k2) before.before
          (with_behind (IsSubtree height bucket new) z.here bounds.high z.s2 z.k2 z.kid w.subtree behind.behind)));
      pairs =
          kids_round (pairs_under height new) ∙ ap (λ xs. xs ++ (pairs_under height new z.kid ++ flat_map (pairs_under height new) z.k2)) before.same_pairs
          ∙ ap (λ xs. flat_map (pairs_under height old) z.k1 ++ xs) (ap (λ xs. xs ++ flat_map (pairs_under height new) z.k2) w.pairs ∙ ap (λ xs. set (pairs_under height old z.kid) key value ++ xs) behind.same_pairs)
          ∙ sym set_round;
      numbers =
          subst (λ ns. IsGrown lo hi ns (flat_map (reached height new) kids)) (sym (kids_round (reached height old)))
          (subst (λ ns. IsGrown lo hi (flat_map (reached height old) z.k1 ++ (reached height old z.kid ++ flat_map (reached height old) z.k2)) ns)
          (sym (kids_round (reached height new) ∙ ap (λ xs. xs ++ (reached height new z.kid ++ flat_map (reached height new) z.k2)) before.same_reached
          ∙ ap (λ xs. flat_map (reached height old) z.k1 ++ (reached height new z.kid ++ xs)) behind.same_reached))
          (grown_between lo hi (flat_map (reached height old) z.k1) (reached height old z.kid) (reached height new z.kid) (flat_map (reached height old) z.k2) w.numbers));
    }

    -- the child was split: the separator and the new subtree are linked in behind it
    pub record KidsSplit (sep : List ℕ) (right : ℕ) : Type 0 where
      pub between : AllBetween (IsSubtree height bucket new) bounds (z.s1 ++ sep ∷ z.s2) (z.k1 ++ z.kid ∷ right ∷ z.k2)
      pub separators : are_separators bounds (z.s1 ++ sep ∷ z.s2) ≡ true
      pub pairs : flat_map (pairs_under height new) (z.k1 ++ z.kid ∷ right ∷ z.k2) ≡ set (flat_map (pairs_under height old) kids) key value
      pub numbers : IsGrown lo hi (flat_map (reached height old) kids) (flat_map (reached height new) (z.k1 ++ z.kid ∷ right ∷ z.k2))
      pub above : is_above bounds.low sep ≡ true
      pub below : is_up_to bounds.high sep ≡ true
      pub links : nat_le (length seps + 1) 32 ≡ true → linked seps kids sep right ≡ node.Inner (z.s1 ++ sep ∷ z.s2) (z.k1 ++ z.kid ∷ right ∷ z.k2)

    none_same : (sep : List ℕ) (ss : List (List ℕ)) → AllByRecursion (λ s. sep ≢ s) ss → list_any (bytes_eq sep) ss ≡ false
    none_same sep [] all = refl
    none_same sep (s ∷ ss) all = by (bytes_eq sep s) refl (none_same sep ss all.1)
      where
        by : (b : Bool) → bytes_eq sep s ≡ b → list_any (bytes_eq sep) ss ≡ false → (b || list_any (bytes_eq sep) ss) ≡ false
        by true h rest = absurd (all.0 ((bytes_eq-Decides sep s).0 h))
        by false h rest = rest

    module _ (sep : List ℕ) (lows : AllByRecursion (λ s. is_below s sep ≡ true) z.s1) (highs : AllByRecursion (λ s. is_below sep s ≡ true) z.s2) where
      keys_low : keys_below sep seps ≡ z.s1
      keys_low =
          ap (keys_below sep) z.seps_are ∙ filter-append (λ k. is_below k sep) z.s1 z.s2
          ∙ ap (λ xs. xs ++ keys_below sep z.s2) (filter_all (λ k. is_below k sep) z.s1 lows)
          ∙ ap (λ xs. z.s1 ++ xs) (filter_none (λ k. is_below k sep) z.s2 (all_map (λ s. is_below sep s ≡ true) (λ s. is_below s sep ≡ false) (λ s h. is_below-asym sep s h) z.s2 highs))
          ∙ append-nil z.s1

      keys_high : keys_above sep seps ≡ z.s2
      keys_high =
          ap (keys_above sep) z.seps_are ∙ filter-append (λ k. is_below sep k) z.s1 z.s2
          ∙ ap (λ xs. xs ++ keys_above sep z.s2) (filter_none (λ k. is_below sep k) z.s1 (all_map (λ s. is_below s sep ≡ true) (λ s. is_below sep s ≡ false) (λ s h. is_below-asym s sep h) z.s1 lows))
          ∙ filter_all (λ k. is_below sep k) z.s2 highs

      is_new : list_any (bytes_eq sep) seps ≡ false
      is_new =
          ap (list_any (bytes_eq sep)) z.seps_are ∙ list_any-append (bytes_eq sep) z.s1 z.s2
          ∙ ap (λ b. b || list_any (bytes_eq sep) z.s2)
          (none_same sep z.s1 (all_map (λ s. is_below s sep ≡ true) (λ s. sep ≢ s) (λ s h e. true≢false (sym h ∙ ap (λ k. is_below k sep) (sym e) ∙ is_below-self sep)) z.s1 lows))
          ∙ none_same sep z.s2 (all_map (λ s. is_below sep s ≡ true) (λ s. sep ≢ s) (λ s h e. true≢false (sym h ∙ ap (is_below sep) (sym e) ∙ is_below-self sep)) z.s2 highs)

      kids_cut : (n : ℕ) → n ≡ length z.s1 → (right : ℕ) → take (n + 1) kids ++ right ∷ drop (n + 1) kids ≡ z.k1 ++ z.kid ∷ right ∷ z.k2
      kids_cut n is right =
          let whole : kids ≡ (z.k1 ++ z.kid ∷ []) ++ z.k2 = z.kids_are ∙ sym (append_assoc z.k1 (z.kid ∷ []) z.k2) in
          let many : length (z.k1 ++ z.kid ∷ []) ≡ n + 1 = let a = length-append z.k1 (z.kid ∷ []) in let m = z.as_many in omega (arith, a, m, is) in
          ap (λ ks. take (n + 1) ks ++ right ∷ drop (n + 1) ks) whole
          ∙ ap (λ xs. xs ++ right ∷ drop (n + 1) ((z.k1 ++ z.kid ∷ []) ++ z.k2)) (take_at (z.k1 ++ z.kid ∷ []) z.k2 (n + 1) many)
          ∙ ap (λ xs. (z.k1 ++ z.kid ∷ []) ++ right ∷ xs) (drop_at (z.k1 ++ z.kid ∷ []) z.k2 (n + 1) many)
          ∙ append_assoc z.k1 (z.kid ∷ []) (right ∷ z.k2)

      linked_is : (right : ℕ) → nat_le (length seps + 1) 32 ≡ true → linked seps kids sep right ≡ node.Inner (z.s1 ++ sep ∷ z.s2) (z.k1 ++ z.kid ∷ right ∷ z.k2)
      linked_is right room =
          ap (λ b. cond (not b && nat_le (length seps + 1) 32) (node.Inner (keys_below sep seps ++ sep ∷ keys_above sep seps) (take (length (keys_below sep seps) + 1) kids ++ right ∷ drop (length (keys_below sep seps) + 1) kids)) node.Broken) is_new
          ∙ ap (λ b. cond b (node.Inner (keys_below sep seps ++ sep ∷ keys_above sep seps) (take (length (keys_below sep seps) + 1) kids ++ right ∷ drop (length (keys_below sep seps) + 1) kids)) node.Broken) room
          ∙ ap (λ ks. node.Inner (keys_below sep seps ++ sep ∷ keys_above sep seps) ks) (kids_cut (length (keys_below sep seps)) (ap length keys_low) right)
          ∙ ap (λ ss. node.Inner (ss ++ sep ∷ keys_above sep seps) (z.k1 ++ z.kid ∷ right ∷ z.k2)) keys_low
          ∙ ap (λ ss. node.Inner (z.s1 ++ sep ∷ ss) (z.k1 ++ z.kid ∷ right ∷ z.k2)) keys_high

    pub kids_split : (sep : List ℕ) (right : ℕ) → GrownSplit height (record { low = z.here; high = first_or z.s2 bounds.high }) z.kid sep right → KidsSplit sep right
    unfolding AllBetween
    kids_split sep right w =
        let l = z.lows sep w.above in
        let h = z.highs sep w.below in
        record {
          between = with_before (IsSubtree height bucket new) bounds.low bounds.high z.here z.s1 z.k1 (sep ∷ z.s2) (z.kid ∷ right ∷ z.k2) before.before
              (with_right w.left_tree (with_behind (IsSubtree height bucket new) (Some sep) bounds.high z.s2 z.k2 right w.right_tree behind.behind));
          separators = good_with bounds z.s1 z.s2 sep (subst (λ ss. are_separators bounds ss ≡ true) z.seps_are good) l.0 h.0 l.1 h.1;
          pairs =
              flat_map-append (pairs_under height new) z.k1 (z.kid ∷ right ∷ z.k2)
              ∙ ap (λ xs. xs ++ (pairs_under height new z.kid ++ (pairs_under height new right ++ flat_map (pairs_under height new) z.k2))) before.same_pairs
              ∙ ap (λ xs. flat_map (pairs_under height old) z.k1 ++ xs)
              (sym (append_assoc (pairs_under height new z.kid) (pairs_under height new right) (flat_map (pairs_under height new) z.k2))
              ∙ ap (λ xs. xs ++ flat_map (pairs_under height new) z.k2) w.pairs ∙ ap (λ xs. set (pairs_under height old z.kid) key value ++ xs) behind.same_pairs)
              ∙ sym set_round;
          numbers =
              subst (λ ns. IsGrown lo hi ns (flat_map (reached height new) (z.k1 ++ z.kid ∷ right ∷ z.k2))) (sym (kids_round (reached height old)))
              (subst (λ ns. IsGrown lo hi (flat_map (reached height old) z.k1 ++ (reached height old z.kid ++ flat_map (reached height old) z.k2)) ns)
              (sym (flat_map-append (reached height new) z.k1 (z.kid ∷ right ∷ z.k2)
              ∙ ap (λ xs. xs ++ (reached height new z.kid ++ (reached height new right ++ flat_map (reached height new) z.k2))) before.same_reached
              ∙ ap (λ xs. flat_map (reached height old) z.k1 ++ xs) (sym (append_assoc (reached height new z.kid) (reached height new right) (flat_map (reached height new) z.k2))
              ∙ ap (λ xs. (reached height new z.kid ++ reached height new right) ++ xs) behind.same_reached)))
              (grown_between lo hi (flat_map (reached height old) z.k1) (reached height old z.kid) (reached height new z.kid ++ reached height new right) (flat_map (reached height old) z.k2) w.numbers));
          above = l.0;
          below = h.0;
          links = linked_is sep l.1 h.1 right;
        }
      where
        with_right : IsSubtree height bucket new (record { low = z.here; high = Some sep }) z.kid → AllBetween (IsSubtree height bucket new) (record { low = Some sep; high = bounds.high }) z.s2 (right ∷ z.k2)
            → AllBetween (IsSubtree height bucket new) (record { low = z.here; high = bounds.high }) (sep ∷ z.s2) (z.kid ∷ right ∷ z.k2)
        with_right left rest = (left, rest)
