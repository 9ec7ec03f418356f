-- A scan of all keys that meets no node unfit, and wants more pairs than there are, goes through a fit tree.
use Rattle.std.proofs.Common.{◌≡◌, ℕ, zero, suc, ◌+◌, ◌-◌, ◌<◌, ◌==◌, nat_lt, Bool, true, false, cond, not, ◌&&◌, List, [], ◌∷◌, ◌++◌, length, Some, Result, Ok, Err, refl, sym, ap, ◌∙◌, true≢false, arith, eqb-true, ltb-true, append-nil}
use Rattle.std.specs.Prelude.{flat_map}
use Rattle.std.specs.List.{AllByRecursion, list_all}
use Rattle.fine_model.specs.declared.Node.{Node}
use Rattle.fine_model.specs.declared.Node.TheVariants as node
use Rattle.fine_model.specs.BoundLaws.{FitsNode}
use Rattle.fine_model.specs.Map.{between}
use Rattle.fine_model.specs.Nodes.{Content}
use Rattle.fine_model.specs.Paths.{is_inner, meets, scan_from, scan_kids, seps_of}
use Rattle.fine_model.specs.Trees.{AllBetween, Bounds, IsInner, IsSubtree, are_separators, is_above, is_leaf, is_up_to, kids_of, pairs_of, pairs_under}
use Rattle.fine_model.proofs.Ordered.Order.{first_of_both}
use Rattle.fine_model.proofs.Ordered.Sets.{all_append, all_from_list_all}
use Rattle.btree_nodes.specs.Trees.{kids_met, pairs_met}
use Rattle.btree_nodes.proofs.SameScans.{not_both, same_value, tested}
use Rattle.btree_nodes.proofs.ScanSteps.{first, kids_go, kids_stop}
use Rattle.btree_nodes.proofs.Takes.{full}
use Rattle.log_commands.specs.Reading.{HasByteKeys, behind_keys}
use Rattle.log_commands.proofs.KeyBounds.{IsShort, IsWithin, leaf_short, seps_within}

-- keys of the whole range may lie within bounds
abbrev pub IsMet : Bounds → Type 0
IsMet bounds = (is_up_to bounds.high [] ≡ true) × (is_above bounds.low behind_keys ≡ true)

module _ (bucket next : ℕ) (nodes : ℕ → Content) (fits : (n : ℕ) → FitsNode (nodes n).0) (bytes : (n : ℕ) → n < next → HasByteKeys (nodes n).0) where
  abbrev below : ℕ → Bounds → ℕ → ℕ → Result ℕ ℕ
  below height = scan_from height bucket nodes next [] behind_keys

  -- a subtree whose keys are within the format's bounds
  pub record IsThrough (height : ℕ) (bounds : Bounds) (number : ℕ) : Type 0 where
    pub subtree : IsSubtree height bucket nodes bounds number
    pub short : AllByRecursion IsShort (pairs_under height nodes number)
    pub met : pairs_met height nodes [] behind_keys bounds number ≡ pairs_under height nodes number

  -- what a scan of a subtree of some height says
  abbrev GoesThrough : ℕ → Type 0
  GoesThrough height = (bounds : Bounds) (number wanted left : ℕ) → IsMet bounds → number < next → 0 < left → below height bounds number wanted ≡ Ok left → IsThrough height bounds number

  one_kid : (height : ℕ) → GoesThrough height → (bounds : Bounds) (kid wanted left : ℕ) → IsMet bounds → kid < next → 0 < left → first (below height) [] behind_keys bounds kid wanted ≡ Ok left → IsThrough height bounds kid
  one_kid height each bounds kid wanted left met low some is = by (meets [] behind_keys bounds) (λ i. met.0 i && met.1 i) (wanted == 0) refl is
    where
      by : (m : Bool) → m ≡ true → (z : Bool) → (wanted == 0) ≡ z → cond (m && not z) (below height bounds kid wanted) (Ok wanted) ≡ Ok left → IsThrough height bounds kid
      by true e true nought is =
          let none = eqb-true wanted 0 nought in let same = same_value wanted left is in absurd (omega (arith, none, same, some))
      by true e false nought is = each bounds kid wanted left met low some is
      by false e z nought is = absurd (true≢false (sym e))

  -- all its pairs are met
  one_met : (height : ℕ) (bounds : Bounds) (kid : ℕ) → IsMet bounds → IsThrough height bounds kid
      → cond (meets [] behind_keys bounds) (pairs_met height nodes [] behind_keys bounds kid) [] ≡ pairs_under height nodes kid
  one_met height bounds kid met t = ap (λ m. cond m (pairs_met height nodes [] behind_keys bounds kid) []) (λ i. met.0 i && met.1 i) ∙ t.met

  -- the children of a node
  pub record AreThrough (height : ℕ) (bounds : Bounds) (seps : List (List ℕ)) (kids : List ℕ) : Type 0 where
    pub between : AllBetween (IsSubtree height bucket nodes) bounds seps kids
    pub short : AllByRecursion IsShort (flat_map (pairs_under height nodes) kids)
    pub met : kids_met (pairs_met height nodes [] behind_keys) [] behind_keys bounds seps kids ≡ flat_map (pairs_under height nodes) kids

  through_kids : (height : ℕ) → GoesThrough height → (bounds : Bounds) (seps : List (List ℕ)) (kids : List ℕ) (wanted left : ℕ) → IsMet bounds → AllByRecursion IsWithin seps → length kids ≡ length seps + 1
      → AllByRecursion (λ kid. nat_lt kid next ≡ true) kids → 0 < left → scan_kids (below height) [] behind_keys bounds seps kids wanted ≡ Ok left → AreThrough height bounds seps kids
  unfolding AllBetween
  through_kids height each bounds [] [] wanted left met within many low some is = absurd (omega (arith, many))
  through_kids height each bounds [] (kid ∷ []) wanted left met within many low some is =
      let t = one_kid height each bounds kid wanted left met (ltb-true kid next low.0) some is in
      record {
        between = t.subtree;
        short = all_append IsShort (pairs_under height nodes kid) [] t.short tt;
        met = one_met height bounds kid met t ∙ sym (append-nil (pairs_under height nodes kid));
      }
  through_kids height each bounds [] (kid ∷ kid' ∷ kids) wanted left met within many low some is = absurd (omega (arith, many))
  through_kids height each bounds (sep ∷ seps) [] wanted left met within many low some is = absurd (omega (arith, many))
  through_kids height each bounds (sep ∷ seps) (kid ∷ kids) wanted left met within many low some is =
      by (first (below height) [] behind_keys (record { low = bounds.low; high = Some sep }) kid wanted) refl
      (λ mid h e. one_kid height each (record { low = bounds.low; high = Some sep }) kid wanted mid (within.0.0, met.1) (ltb-true kid next low.0) h e)
      (λ mid h e. through_kids height each (record { low = Some sep; high = bounds.high }) seps kids mid left (met.0, within.0.1) within.1 (omega (arith, many)) low.1 some e)
    where
      by : (r : Result ℕ ℕ) → first (below height) [] behind_keys (record { low = bounds.low; high = Some sep }) kid wanted ≡ r
          → ((mid : ℕ) → 0 < mid → first (below height) [] behind_keys (record { low = bounds.low; high = Some sep }) kid wanted ≡ Ok mid → IsThrough height (record { low = bounds.low; high = Some sep }) kid)
          → ((mid : ℕ) → 0 < mid → scan_kids (below height) [] behind_keys (record { low = Some sep; high = bounds.high }) seps kids mid ≡ Ok left → AreThrough height (record { low = Some sep; high = bounds.high }) seps kids)
          → AreThrough height bounds (sep ∷ seps) (kid ∷ kids)
      by (Err n) e one rest = absurd (not_both (sym is ∙ kids_stop (below height) [] behind_keys bounds sep seps kid kids wanted n e))
      by (Ok zero) e one rest =
          let none = same_value 0 left (sym (full (below height) [] behind_keys (record { low = Some sep; high = bounds.high }) seps kids) ∙ sym (kids_go (below height) [] behind_keys bounds sep seps kid kids wanted 0 e) ∙ is) in
          absurd (omega (arith, none, some))
      by (Ok (suc mid)) e one rest =
          let a = one (suc mid) (omega arith) e in
          let b = rest (suc mid) (omega arith) (sym (kids_go (below height) [] behind_keys bounds sep seps kid kids wanted (suc mid) e) ∙ is) in
          record {
            between = (a.subtree, b.between);
            short = all_append IsShort (pairs_under height nodes kid) (flat_map (pairs_under height nodes) kids) a.short b.short;
            met = λ i. one_met height (record { low = bounds.low; high = Some sep }) kid (within.0.0, met.1) a i ++ b.met i;
          }

  -- an inner node
  pub record IsInnerThrough (height : ℕ) (bounds : Bounds) (n : Node) : Type 0 where
    pub inner : IsInner (IsSubtree height bucket nodes) bounds n
    pub short : AllByRecursion IsShort (flat_map (pairs_under height nodes) (kids_of n))
    pub met : kids_met (pairs_met height nodes [] behind_keys) [] behind_keys bounds (seps_of n) (kids_of n) ≡ flat_map (pairs_under height nodes) (kids_of n)

  through_inner : (height : ℕ) → GoesThrough height → (bounds : Bounds) (n : Node) (wanted left : ℕ) → IsMet bounds → FitsNode n → HasByteKeys n → is_inner bounds next n ≡ true → 0 < left
      → scan_kids (below height) [] behind_keys bounds (seps_of n) (kids_of n) wanted ≡ Ok left → IsInnerThrough height bounds n
  through_inner height each bounds (node.Inner seps kids) wanted left met fit byte inner some is =
      let p = first_of_both (are_separators bounds seps && (length kids == length seps + 1)) (list_all (λ kid. nat_lt kid next) kids) inner in
      let q = first_of_both (are_separators bounds seps) (length kids == length seps + 1) p.0 in
      let t = through_kids height each bounds seps kids wanted left met (seps_within (node.Inner seps kids) fit byte) (eqb-true (length kids) (length seps + 1) q.1) (all_from_list_all (λ kid. nat_lt kid next) kids p.1) some is in
      record { inner = (q.0, t.between); short = t.short; met = t.met }
  through_inner height each bounds (node.Head root next' depth) wanted left met fit byte inner some is = absurd (true≢false (sym inner))
  through_inner height each bounds (node.Leaf pairs) wanted left met fit byte inner some is = absurd (true≢false (sym inner))
  through_inner height each bounds node.Broken wanted left met fit byte inner some is = absurd (true≢false (sym inner))

  pub through : (height : ℕ) → GoesThrough height
  unfolding IsSubtree pairs_under pairs_met scan_from
  through zero bounds number wanted left met low some is =
      let t = tested (is_leaf bucket bounds (nodes number).0) (Ok (wanted - length (between [] behind_keys (pairs_of (nodes number).0)))) number left is in
      record { subtree = t.0; short = leaf_short (nodes number).0 (fits number) (bytes number low); met = refl }
  through (suc height) bounds number wanted left met low some is =
      let t = tested (is_inner bounds next (nodes number).0) (scan_kids (below height) [] behind_keys bounds (seps_of (nodes number).0) (kids_of (nodes number).0) wanted) number left is in
      let i = through_inner height (through height) bounds (nodes number).0 wanted left met (fits number) (bytes number low) t.0 some t.1 in
      record { subtree = i.inner; short = i.short; met = i.met }
