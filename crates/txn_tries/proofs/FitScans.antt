-- A scan that meets no node unfit finds pairs whose keys ascend and belong to its bucket, be the log sound or not.
use Rattle.std.proofs.Common.{◌≡◌, ℕ, zero, suc, ◌+◌, ◌-◌, ◌==◌, Bool, true, false, cond, ◌&&◌, not, List, [], ◌∷◌, ◌++◌, length, take, Some, Result, Ok, Err, refl, sym, ap, subst, ◌∙◌, true≢false, arith, eqb-true, nat_lt, None}
use Rattle.std.specs.List.{AllByRecursion, list_all}
use Rattle.std.proofs.lemmas.Bool.{not-true}
use Rattle.std.proofs.lemmas.List.{length-append}
use Rattle.fine_model.specs.declared.Node.{Node}
use Rattle.fine_model.specs.declared.Node.TheVariants as node
use Rattle.fine_model.specs.Map.{Pair, between, is_ascending, is_below}
use Rattle.fine_model.specs.Nodes.{Content}
use Rattle.fine_model.specs.Paths.{is_inner, meets, scan_from, scan_kids, seps_of, unfit_between}
use Rattle.fine_model.specs.ScanLaws.{KeysAscend}
use Rattle.fine_model.specs.Trees.{Bounds, are_separators, bucket_of, is_above, is_from, is_key_within, is_leaf, is_up_to, kids_of, pairs_of, whole}
use Rattle.fine_model.proofs.Ordered.Gathered.{up_front}
use Rattle.fine_model.proofs.Ordered.Lists.{all_take}
use Rattle.fine_model.proofs.Ordered.Order.{all_map, first_of_both, is_below-asym, is_below-trans, keys_of}
use Rattle.fine_model.proofs.Ordered.Parts.{all_both}
use Rattle.fine_model.proofs.Ordered.Sets.{all_append, all_filter, all_from_list_all, ascending-filter, list_all-from}
use Rattle.fine_model.proofs.Trees.Among.{all_above_first, ascending-append, tail_ascends}
use Rattle.fine_model.proofs.Trees.Bounded.{not_lower}
use Rattle.btree_nodes.specs.Trees.{kids_met, pairs_between, pairs_met}
use Rattle.btree_nodes.proofs.ScanHeads.{goes_through, opened, wants}
use Rattle.btree_nodes.proofs.ScanSteps.{first, kids_go, kids_stop}
use Rattle.btree_nodes.proofs.SameScans.{not_both, same_value, tested}
use Rattle.btree_nodes.proofs.Takes.{between-append, between_none, none_taken, take_both, take_nothing}

-- ---- keys within bounds

-- a key within bounds is within wider ones
wider_up : (bucket : ℕ) (bounds : Bounds) (sep key : List ℕ) → is_up_to bounds.high sep ≡ true → is_key_within bucket (record { low = bounds.low; high = Some sep }) key ≡ true → is_key_within bucket bounds key ≡ true
wider_up bucket bounds sep key up within =
    let p = first_of_both (is_from bounds.low key) (is_up_to (Some sep) key && (bucket_of key == bucket)) within in
    let q = first_of_both (is_up_to (Some sep) key) (bucket_of key == bucket) p.1 in
    λ i. p.0 i && (by bounds.high up q.0 i && q.1 i)
  where
    by : (high : _) → is_up_to high sep ≡ true → is_below key sep ≡ true → is_up_to high key ≡ true
    by None up low = refl
    by (Some high) up low = is_below-trans key sep high low up

wider_down : (bucket : ℕ) (bounds : Bounds) (sep key : List ℕ) → is_above bounds.low sep ≡ true → is_key_within bucket (record { low = Some sep; high = bounds.high }) key ≡ true → is_key_within bucket bounds key ≡ true
wider_down bucket bounds sep key above within =
    let p = first_of_both (is_from (Some sep) key) (is_up_to bounds.high key && (bucket_of key == bucket)) within in
    λ i. by bounds.low above (not-true (is_below key sep) p.0) i && p.1 i
  where
    by : (low : _) → is_above low sep ≡ true → is_below key sep ≡ false → is_from low key ≡ true
    by None above from = refl
    by (Some low) above from = ap not (not_lower key low sep (is_below-asym low sep above) from)

-- what separators say of the first one and of those behind it
record AreSplit (bounds : Bounds) (sep : List ℕ) (seps : List (List ℕ)) : Type 0 where
  pub above : is_above bounds.low sep ≡ true
  pub up : is_up_to bounds.high sep ≡ true
  pub rest : are_separators (record { low = Some sep; high = bounds.high }) seps ≡ true

split : (bounds : Bounds) (sep : List ℕ) (seps : List (List ℕ)) → are_separators bounds (sep ∷ seps) ≡ true → AreSplit bounds sep seps
split bounds sep seps good =
    let p = first_of_both (is_ascending (sep ∷ seps)) (list_all (λ s. is_above bounds.low s && is_up_to bounds.high s) (sep ∷ seps)) good in
    let all = all_from_list_all (λ s. is_above bounds.low s && is_up_to bounds.high s) (sep ∷ seps) p.1 in
    let here = first_of_both (is_above bounds.low sep) (is_up_to bounds.high sep) all.0 in
    let behind = list_all-from (λ s. is_above (Some sep) s && is_up_to bounds.high s) seps
    (all_both (λ s. is_below sep s ≡ true) (λ s. (is_above bounds.low s && is_up_to bounds.high s) ≡ true) (λ s. (is_above (Some sep) s && is_up_to bounds.high s) ≡ true)
    (λ s above within. let w = first_of_both (is_above bounds.low s) (is_up_to bounds.high s) within in λ i. above i && w.1 i) seps (all_above_first sep seps p.0) all.1) in
    record { above = here.0; up = here.1; rest = λ i. tail_ascends sep seps p.0 i && behind i }

-- the separators of a node that is fit
fit_seps : (bounds : Bounds) (next : ℕ) (n : Node) → is_inner bounds next n ≡ true → are_separators bounds (seps_of n) ≡ true
fit_seps bounds next (node.Inner seps kids) inner =
    let p = first_of_both (are_separators bounds seps && (length kids == length seps + 1)) (list_all (λ kid. nat_lt kid next) kids) inner in
    (first_of_both (are_separators bounds seps) (length kids == length seps + 1) p.0).0
fit_seps bounds next (node.Head root next' depth) inner = absurd (true≢false (sym inner))
fit_seps bounds next (node.Leaf pairs) inner = absurd (true≢false (sym inner))
fit_seps bounds next node.Broken inner = absurd (true≢false (sym inner))

-- ---- scans

module _ (bucket : ℕ) where
  -- pairs whose keys ascend, within bounds and of the bucket
  record AreFit (bounds : Bounds) (pairs : List Pair) : Type 0 where
    pub up : KeysAscend pairs
    pub within : AllByRecursion (λ p. is_key_within bucket bounds p.0 ≡ true) pairs

  -- the first of some pairs are fit, as many as are wanted, and so many are wanted still
  record TakesFit (bounds : Bounds) (wanted left : ℕ) (pairs : List Pair) : Type 0 where
    pub rest : left ≡ wanted - length pairs
    pub fit : AreFit bounds (take wanted pairs)

  -- pairs whose keys ascend, all of the bucket
  pub record AreTaken (pairs : List Pair) : Type 0 where
    pub ascend : KeysAscend pairs
    pub here : AllByRecursion (λ p. bucket_of p.0 ≡ bucket) pairs

module _ (bucket : ℕ) (low high : List ℕ) where
  none_fit : (bounds : Bounds) → AreFit bucket bounds []
  none_fit bounds = record { up = refl; within = tt }

  takes_none : (bounds : Bounds) (wanted left : ℕ) → wanted ≡ left → TakesFit bucket bounds wanted left (between low high [])
  takes_none bounds wanted left same = subst (TakesFit bucket bounds wanted left) (sym (between_none low high)) (record {
    rest = omega (arith, same);
    fit = subst (AreFit bucket bounds) (sym (take_nothing wanted)) (none_fit bounds);
  })

  takes_full : (bounds : Bounds) (wanted left : ℕ) (pairs : List Pair) → wanted ≡ 0 → wanted ≡ left → TakesFit bucket bounds wanted left pairs
  takes_full bounds wanted left pairs none same = record { rest = omega (arith, none, same); fit = subst (λ (n : ℕ). AreFit bucket bounds (take n pairs)) (sym none) (none_fit bounds) }

  leaf_takes : (bounds : Bounds) (n : Node) (wanted : ℕ) → is_leaf bucket bounds n ≡ true → TakesFit bucket bounds wanted (wanted - length (between low high (pairs_of n))) (between low high (pairs_of n))
  unfolding between
  leaf_takes bounds (node.Leaf pairs) wanted leaf =
      let p = first_of_both (is_ascending (keys_of pairs)) (list_all (λ p. is_key_within bucket bounds p.0) pairs) leaf in
      let inside = λ (p : Pair). not (is_below p.0 low) && is_below p.0 high in
      record {
        rest = refl;
        fit = record {
          up = up_front wanted (between low high pairs) (ascending-filter inside pairs p.0);
          within = all_take (λ p. is_key_within bucket bounds p.0 ≡ true) wanted (between low high pairs)
              (all_filter (λ p. is_key_within bucket bounds p.0 ≡ true) inside pairs (all_from_list_all (λ p. is_key_within bucket bounds p.0) pairs p.1));
        };
      }
  leaf_takes bounds (node.Head root next depth) wanted leaf = absurd (true≢false (sym leaf))
  leaf_takes bounds (node.Inner seps kids) wanted leaf = absurd (true≢false (sym leaf))
  leaf_takes bounds node.Broken wanted leaf = absurd (true≢false (sym leaf))

  -- pairs up to a separator, and then pairs from it on
  joined : (bounds : Bounds) (sep : List ℕ) (seps : List (List ℕ)) (wanted mid left : ℕ) (xs ys : List Pair) → AreSplit bounds sep seps → TakesFit bucket (record { low = bounds.low; high = Some sep }) wanted mid (between low high xs)
      → TakesFit bucket (record { low = Some sep; high = bounds.high }) mid left (between low high ys) → TakesFit bucket bounds wanted left (between low high (xs ++ ys))
  joined bounds sep seps wanted mid left xs ys s one two =
      let a = between low high xs in
      let b = between low high ys in
      let within = λ (c : Bounds) (p : Pair). is_key_within bucket c p.0 ≡ true in
      let lower : Bounds = record { low = bounds.low; high = Some sep } in
      let upper : Bounds = record { low = Some sep; high = bounds.high } in
      let r = one.rest in
      let q = two.rest in
      let l = length-append a b in
      let first_ones : take wanted (a ++ b) ≡ take wanted a ++ take mid b = take_both wanted a b ∙ ap (λ (n : ℕ). take wanted a ++ take n b) (sym r) in
      subst (TakesFit bucket bounds wanted left) (sym (between-append low high xs ys)) (record {
        rest = omega (arith, r, q, l);
        fit = subst (AreFit bucket bounds) (sym first_ones) (record {
          up = ascending-append sep (take wanted a) (take mid b) one.fit.up two.fit.up
              (all_map (within lower) (λ p. is_below p.0 sep ≡ true)
              (λ p h. (first_of_both (is_below p.0 sep) (bucket_of p.0 == bucket) (first_of_both (is_from bounds.low p.0) (is_up_to (Some sep) p.0 && (bucket_of p.0 == bucket)) h).1).0) (take wanted a) one.fit.within)
              (all_map (within upper) (λ p. is_below p.0 sep ≡ false)
              (λ p h. not-true (is_below p.0 sep) (first_of_both (is_from (Some sep) p.0) (is_up_to bounds.high p.0 && (bucket_of p.0 == bucket)) h).0) (take mid b) two.fit.within);
          within = all_append (within bounds) (take wanted a) (take mid b) (all_map (within lower) (within bounds) (λ p h. wider_up bucket bounds sep p.0 s.up h) (take wanted a) one.fit.within)
              (all_map (within upper) (within bounds) (λ p h. wider_down bucket bounds sep p.0 s.above h) (take mid b) two.fit.within);
        });
      })

  module _ (below : Bounds → ℕ → ℕ → Result ℕ ℕ) (met : Bounds → ℕ → List Pair) (each : (b : Bounds) (k wanted left : ℕ) → below b k wanted ≡ Ok left → TakesFit bucket b wanted left (between low high (met b k))) where
    first_takes : (bounds : Bounds) (kid wanted left : ℕ) → first below low high bounds kid wanted ≡ Ok left → TakesFit bucket bounds wanted left (between low high (cond (meets low high bounds) (met bounds kid) []))
    first_takes bounds kid wanted left is = by (meets low high bounds) (wanted == 0) refl is
      where
        by : (m z : Bool) → (wanted == 0) ≡ z → cond (m && not z) (below bounds kid wanted) (Ok wanted) ≡ Ok left → TakesFit bucket bounds wanted left (between low high (cond m (met bounds kid) []))
        by true true nought is = takes_full bounds wanted left (between low high (met bounds kid)) (eqb-true wanted 0 nought) (same_value wanted left is)
        by true false nought is = each bounds kid wanted left is
        by false z nought is = takes_none bounds wanted left (same_value wanted left is)

    kids_take : (bounds : Bounds) (seps : List (List ℕ)) (kids : List ℕ) (wanted left : ℕ) → are_separators bounds seps ≡ true → scan_kids below low high bounds seps kids wanted ≡ Ok left
        → TakesFit bucket bounds wanted left (between low high (kids_met met low high bounds seps kids))
    kids_take bounds seps [] wanted left good is = takes_none bounds wanted left (same_value wanted left is)
    kids_take bounds [] (kid ∷ kids) wanted left good is = first_takes bounds kid wanted left is
    kids_take bounds (sep ∷ seps) (kid ∷ kids) wanted left good is =
        by (first below low high lower kid wanted) refl (λ mid e. first_takes lower kid wanted mid e) (λ mid e. kids_take upper seps kids mid left s.rest e)
      where
        lower : Bounds
        lower = record { low = bounds.low; high = Some sep }

        upper : Bounds
        upper = record { low = Some sep; high = bounds.high }

        s : AreSplit bounds sep seps
        s = split bounds sep seps good

        xs : List Pair
        xs = cond (meets low high lower) (met lower kid) []

        ys : List Pair
        ys = kids_met met low high upper seps kids

        by : (r : Result ℕ ℕ) → first below low high lower kid wanted ≡ r → ((mid : ℕ) → first below low high lower kid wanted ≡ Ok mid → TakesFit bucket lower wanted mid (between low high xs))
            → ((mid : ℕ) → scan_kids below low high upper seps kids mid ≡ Ok left → TakesFit bucket upper mid left (between low high ys)) → TakesFit bucket bounds wanted left (between low high (xs ++ ys))
        by (Err n) e one two = absurd (not_both (sym is ∙ kids_stop below low high bounds sep seps kid kids wanted n e))
        by (Ok mid) e one two = joined bounds sep seps wanted mid left xs ys s (one mid e) (two mid (sym (kids_go below low high bounds sep seps kid kids wanted mid e) ∙ is))

  module _ (nodes : ℕ → Content) (next : ℕ) where
    subtree_takes : (height : ℕ) (bounds : Bounds) (number wanted left : ℕ) → scan_from height bucket nodes next low high bounds number wanted ≡ Ok left → TakesFit bucket bounds wanted left (between low high (pairs_met height nodes low high bounds number))
    unfolding scan_from pairs_met
    subtree_takes zero bounds number wanted left is =
        let t = tested (is_leaf bucket bounds (nodes number).0) (Ok (wanted - length (between low high (pairs_of (nodes number).0)))) number left is in
        subst (λ (n : ℕ). TakesFit bucket bounds wanted n (between low high (pairs_of (nodes number).0))) (same_value (wanted - length (between low high (pairs_of (nodes number).0))) left t.1) (leaf_takes bounds (nodes number).0 wanted t.0)
    subtree_takes (suc height) bounds number wanted left is =
        let t = tested (is_inner bounds next (nodes number).0) (scan_kids (scan_from height bucket nodes next low high) low high bounds (seps_of (nodes number).0) (kids_of (nodes number).0) wanted) number left is in
        kids_take (scan_from height bucket nodes next low high) (pairs_met height nodes low high) (subtree_takes height) bounds (seps_of (nodes number).0) (kids_of (nodes number).0) wanted left (fit_seps bounds next (nodes number).0 t.0) t.1

  pub fit_taken : (nodes : ℕ → Content) (limit : ℕ) (head : Node) → unfit_between bucket nodes low high limit head ≡ None → AreTaken bucket (take limit (pairs_between nodes low high head))
  unfolding pairs_between
  fit_taken nodes limit (node.Head root next depth) fit = by (wants bucket nodes low high limit root next depth) refl
    where
      found : List Pair
      found = between low high (pairs_met (depth - 1) nodes low high whole root)

      by : (w : Bool) → wants bucket nodes low high limit root next depth ≡ w → AreTaken bucket (take limit found)
      by true some =
          let through = goes_through bucket nodes low high limit root next depth (opened bucket nodes low high limit root next depth fit) some fit in
          let takes = subtree_takes nodes next (depth - 1) whole root limit through.0 through.1 in
          record {
            ascend = takes.fit.up;
            here = all_map (λ p. is_key_within bucket whole p.0 ≡ true) (λ p. bucket_of p.0 ≡ bucket) (λ p h. eqb-true (bucket_of p.0) bucket h) (take limit found) takes.fit.within;
          }
      by false none = subst (AreTaken bucket) (sym (none_taken low high limit (pairs_met (depth - 1) nodes low high whole root) none)) (record { ascend = refl; here = tt })
  fit_taken nodes limit (node.Leaf pairs) fit = subst (AreTaken bucket) (sym (take_nothing limit)) (record { ascend = refl; here = tt })
  fit_taken nodes limit (node.Inner seps kids) fit = subst (AreTaken bucket) (sym (take_nothing limit)) (record { ascend = refl; here = tt })
  fit_taken nodes limit node.Broken fit = subst (AreTaken bucket) (sym (take_nothing limit)) (record { ascend = refl; here = tt })
