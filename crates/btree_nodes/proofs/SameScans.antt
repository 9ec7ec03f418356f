-- Scans of nodes that are the same, as far as they go.
use Rattle.std.proofs.Common.{◌≡◌, ◌≢◌, ℕ, zero, suc, ◌-◌, ◌==◌, Bool, true, false, cond, ◌&&◌, not, List, [], ◌∷◌, ◌++◌, length, take, Some, Result, Ok, Err, refl, sym, ap, subst, ◌∙◌, true≢false, eqb-true}
use Rattle.fine_model.specs.declared.Node.{Node}
use Rattle.fine_model.specs.declared.Node.TheVariants as node
use Rattle.fine_model.specs.Map.{Pair, between}
use Rattle.fine_model.specs.Nodes.{Content}
use Rattle.fine_model.specs.Paths.{meets, seps_of, is_inner, scan_kids, scan_from}
use Rattle.fine_model.specs.Trees.{Bounds, is_leaf, kids_of, pairs_of}
use Rattle.btree_nodes.specs.Trees.{kids_met, pairs_met}
use Rattle.btree_nodes.proofs.Sound.{leaf_whole, inner_whole}
use Rattle.btree_nodes.proofs.ScanSteps.{first, kids_go, kids_stop}
use Rattle.btree_nodes.proofs.Takes.{IsSame, same_on, same_empty, same_full, between-append, between_none}

-- a scan that goes on as another one does, or ends at a node that is not there
abbrev pub GoesAlike : (ℕ → Type 0) → Result ℕ ℕ → ℕ → ℕ → List Pair → List Pair → Type 0
GoesAlike Has (Ok left) wanted left' xs ys = (left ≡ left') × IsSame wanted left' xs ys
GoesAlike Has (Err n) wanted left' xs ys = Has n → ⊥

abbrev is_ok_value : Result ℕ ℕ → ℕ
is_ok_value (Ok n) = n
is_ok_value (Err n) = 0

abbrev done : ℕ → Result ℕ ℕ
done n = Ok n

abbrev failed : ℕ → Result ℕ ℕ
failed n = Err n

pub same_value : (a b : ℕ) → done a ≡ done b → a ≡ b
same_value a b e = ap is_ok_value e

abbrev is_done : Result ℕ ℕ → Bool
is_done (Ok n) = true
is_done (Err n) = false

pub not_both : {a b : ℕ} → done a ≡ failed b → ⊥
not_both e = true≢false (ap is_done e)

-- a test that is passed on the way to an answer
pub tested : (t : Bool) (r : Result ℕ ℕ) (n left : ℕ) → cond t r (Err n) ≡ Ok left → (t ≡ true) × (r ≡ Ok left)
tested true r n left is = (refl, is)
tested false r n left is = absurd (not_both (sym is))

-- what is done with a number that is first
module _ (Has : ℕ → Type 0) (low high : List ℕ) (f g : Bounds → ℕ → ℕ → Result ℕ ℕ) (p q : Bounds → ℕ → List Pair)
    (each : (b : Bounds) (k wanted left : ℕ) → g b k wanted ≡ Ok left → GoesAlike Has (f b k wanted) wanted left (between low high (p b k)) (between low high (q b k))) where
  same_first : (b : Bounds) (k wanted left : ℕ) → first g low high b k wanted ≡ Ok left
      → GoesAlike Has (first f low high b k wanted) wanted left (between low high (cond (meets low high b) (p b k) [])) (between low high (cond (meets low high b) (q b k) []))
  same_first b k wanted left is = by (meets low high b) (wanted == 0) refl is
    where
      by : (m z : Bool) → (wanted == 0) ≡ z → cond (m && not z) (g b k wanted) (Ok wanted) ≡ Ok left
          → GoesAlike Has (cond (m && not z) (f b k wanted) (Ok wanted)) wanted left (between low high (cond m (p b k) [])) (between low high (cond m (q b k) []))
      by true true nought is =
          let none = eqb-true wanted 0 nought in
          let e = same_value wanted left is in
          (e, subst (λ w. IsSame w left (between low high (p b k)) (between low high (q b k))) (sym none) (subst (λ l. IsSame 0 l (between low high (p b k)) (between low high (q b k))) (sym none ∙ e) (same_full (between low high (p b k)) (between low high (q b k)))))
      by true false nought is = each b k wanted left is
      by false z nought is =
          let e = same_value wanted left is in
          (e, subst (λ xs. IsSame wanted left xs xs) (sym (between_none low high)) (subst (λ l. IsSame wanted l [] []) e (same_empty wanted)))

  same_kids : (b : Bounds) (seps : List (List ℕ)) (kids : List ℕ) (wanted left : ℕ) → scan_kids g low high b seps kids wanted ≡ Ok left
      → GoesAlike Has (scan_kids f low high b seps kids wanted) wanted left (between low high (kids_met p low high b seps kids)) (between low high (kids_met q low high b seps kids))
  same_kids b seps [] wanted left is =
      let e = same_value wanted left is in
      (e, subst (λ xs. IsSame wanted left xs xs) (sym (between_none low high)) (subst (λ l. IsSame wanted l [] []) e (same_empty wanted)))
  same_kids b [] (kid ∷ kids) wanted left is = same_first b kid wanted left is
  same_kids b (sep ∷ seps) (kid ∷ kids) wanted left is =
      both (cond (meets low high (record { low = b.low; high = Some sep })) (p (record { low = b.low; high = Some sep }) kid) [])
      (cond (meets low high (record { low = b.low; high = Some sep })) (q (record { low = b.low; high = Some sep }) kid) [])
      (kids_met p low high (record { low = Some sep; high = b.high }) seps kids)
      (kids_met q low high (record { low = Some sep; high = b.high }) seps kids)
      (first g low high (record { low = b.low; high = Some sep }) kid wanted) refl
      (λ mid e. same_first (record { low = b.low; high = Some sep }) kid wanted mid e)
      (λ mid e. same_kids (record { low = Some sep; high = b.high }) seps kids mid left e)
    where
      Alike : List Pair → List Pair → Result ℕ ℕ → ℕ → ℕ → Type 0
      Alike xs ys r w l = GoesAlike Has r w l (between low high xs) (between low high ys)

      join : (xs ys xs' ys' : List Pair) (mid : ℕ) → IsSame wanted mid (between low high xs) (between low high ys) → (r : Result ℕ ℕ) → Alike xs' ys' r mid left → Alike (xs ++ xs') (ys ++ ys') r wanted left
      join xs ys xs' ys' mid one (Ok l) two = (
        two.0,
        subst (λ zs. IsSame wanted left zs (between low high (ys ++ ys'))) (sym (between-append low high xs xs'))
            (subst (λ zs. IsSame wanted left (between low high xs ++ between low high xs') zs) (sym (between-append low high ys ys'))
            (same_on wanted mid left (between low high xs) (between low high ys) (between low high xs') (between low high ys') one two.1)),
      )
      join xs ys xs' ys' mid one (Err n) two = two

      both : (xs ys xs' ys' : List Pair) (r : Result ℕ ℕ) → first g low high (record { low = b.low; high = Some sep }) kid wanted ≡ r
          → ((mid : ℕ) → first g low high (record { low = b.low; high = Some sep }) kid wanted ≡ Ok mid → Alike xs ys (first f low high (record { low = b.low; high = Some sep }) kid wanted) wanted mid)
          → ((mid : ℕ) → scan_kids g low high (record { low = Some sep; high = b.high }) seps kids mid ≡ Ok left → Alike xs' ys' (scan_kids f low high (record { low = Some sep; high = b.high }) seps kids mid) mid left)
          → Alike (xs ++ xs') (ys ++ ys') (scan_kids f low high b (sep ∷ seps) (kid ∷ kids) wanted) wanted left
      both xs ys xs' ys' (Err n) e one two = absurd (not_both (sym is ∙ kids_stop g low high b sep seps kid kids wanted n e))
      both xs ys xs' ys' (Ok mid) e one two =
          either (first f low high (record { low = b.low; high = Some sep }) kid wanted) refl (one mid e)
        where
          either : (r : Result ℕ ℕ) → first f low high (record { low = b.low; high = Some sep }) kid wanted ≡ r → Alike xs ys r wanted mid → Alike (xs ++ xs') (ys ++ ys') (scan_kids f low high b (sep ∷ seps) (kid ∷ kids) wanted) wanted left
          either (Ok m) e' h =
              subst (λ r. Alike (xs ++ xs') (ys ++ ys') r wanted left) (sym (kids_go f low high b sep seps kid kids wanted mid (e' ∙ ap (λ k. Ok k) h.0)))
              (join xs ys xs' ys' mid h.1 (scan_kids f low high (record { low = Some sep; high = b.high }) seps kids mid) (two mid (sym (kids_go g low high b sep seps kid kids wanted mid e) ∙ is)))
          either (Err n) e' h = subst (λ r. Alike (xs ++ xs') (ys ++ ys') r wanted left) (sym (kids_stop f low high b sep seps kid kids wanted n e')) h

module _ (mine theirs : ℕ → Content) (Has : ℕ → Type 0) (has : (n : ℕ) → (mine n).0 ≢ node.Broken → Has n) (agrees : (n : ℕ) → Has n → (theirs n).0 ≢ node.Broken → mine n ≡ theirs n)
    (bucket next : ℕ) (low high : List ℕ) where
  -- Where one scan meets only fit nodes, another of nodes that agree with them where they are there goes alike.
  pub same_from : (height : ℕ) (bounds : Bounds) (number wanted left : ℕ) → scan_from height bucket theirs next low high bounds number wanted ≡ Ok left
      → GoesAlike Has (scan_from height bucket mine next low high bounds number wanted) wanted left (between low high (pairs_met height mine low high bounds number)) (between low high (pairs_met height theirs low high bounds number))
  unfolding scan_from pairs_met
  same_from zero bounds number wanted left is =
      let t = tested (is_leaf bucket bounds (theirs number).0) (Ok (wanted - length (between low high (pairs_of (theirs number).0)))) number left is in
      let fine = leaf_whole bucket bounds (theirs number).0 t.0 in
      by (is_leaf bucket bounds (mine number).0) refl t.0 fine (same_value _ _ t.1)
    where
      by : (b : Bool) → is_leaf bucket bounds (mine number).0 ≡ b → is_leaf bucket bounds (theirs number).0 ≡ true → (theirs number).0 ≢ node.Broken → wanted - length (between low high (pairs_of (theirs number).0)) ≡ left
          → GoesAlike Has (cond b (Ok (wanted - length (between low high (pairs_of (mine number).0)))) (Err number)) wanted left (between low high (pairs_of (mine number).0)) (between low high (pairs_of (theirs number).0))
      by true leaf good fine e =
          let same = agrees number (has number (leaf_whole bucket bounds (mine number).0 leaf)) fine in
          let pairs = ap (λ (n : Content). between low high (pairs_of n.0)) same in
          let e' = ap (λ (xs : List Pair). wanted - length xs) pairs ∙ e in
          (e', record { same = ap (take wanted) pairs; rest = sym e'; rest' = sym e })
      by false leaf good fine e = λ here. true≢false (sym good ∙ ap (λ (n : Content). is_leaf bucket bounds n.0) (sym (agrees number here fine)) ∙ leaf)
  same_from (suc height) bounds number wanted left is =
      let t = tested (is_inner bounds next (theirs number).0) (kids_of_node (theirs number).0) number left is in
      let fine = inner_whole bounds next (theirs number).0 t.0 in
      by (is_inner bounds next (mine number).0) refl t.0 fine
      (same_kids Has low high (scan_from height bucket mine next low high) (scan_from height bucket theirs next low high) (pairs_met height mine low high) (pairs_met height theirs low high) (λ b k w l e. same_from height b k w l e)
      bounds (seps_of (theirs number).0) (kids_of (theirs number).0) wanted left t.1)
    where
      kids_of_node : Node → Result ℕ ℕ
      kids_of_node n = scan_kids (scan_from height bucket theirs next low high) low high bounds (seps_of n) (kids_of n) wanted

      mine_of : Node → Result ℕ ℕ
      mine_of n = scan_kids (scan_from height bucket mine next low high) low high bounds (seps_of n) (kids_of n) wanted

      met : (ℕ → Content) → Node → List Pair
      met nodes n = between low high (kids_met (pairs_met height nodes low high) low high bounds (seps_of n) (kids_of n))

      by : (b : Bool) → is_inner bounds next (mine number).0 ≡ b → is_inner bounds next (theirs number).0 ≡ true → (theirs number).0 ≢ node.Broken
          → GoesAlike Has (mine_of (theirs number).0) wanted left (met mine (theirs number).0) (met theirs (theirs number).0)
          → GoesAlike Has (cond b (mine_of (mine number).0) (Err number)) wanted left (met mine (mine number).0) (met theirs (theirs number).0)
      by true inner good fine alike =
          let same = agrees number (has number (inner_whole bounds next (mine number).0 inner)) fine in
          subst (λ (n : Content). GoesAlike Has (mine_of n.0) wanted left (met mine n.0) (met theirs (theirs number).0)) (sym same) alike
      by false inner good fine alike = λ here. true≢false (sym good ∙ ap (λ (n : Content). is_inner bounds next n.0) (sym (agrees number here fine)) ∙ inner)
