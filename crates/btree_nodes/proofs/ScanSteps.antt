-- A scan of the children of a node, one child after the other.
use Rattle.std.proofs.Common.{◌≡◌, ℕ, zero, suc, ◌+◌, ◌≤◌, ◌==◌, nat_lt, Bool, true, false, cond, ◌&&◌, not, List, [], ◌∷◌, ◌++◌, length, drop, slice_get, get_or, Some, Result, Ok, Err, refl, sym, ap, ◌∙◌, arith, append-nil, ltb-true, true≢false, eqb-true}
use Rattle.std.proofs.lemmas.Bool.{ltb-false}
use Rattle.std.proofs.lemmas.Option.{slice_get-get_or, slice_get_within}
use Rattle.std.specs.List.{list_all}
use Rattle.fine_model.specs.Nodes.{Content}
use Rattle.fine_model.specs.Paths.{meets, seps_of, is_inner, scan_kids}
use Rattle.fine_model.specs.Trees.{Bounds, kids_of, are_separators}
use Rattle.fine_model.specs.declared.Node.{Node}
use Rattle.fine_model.specs.declared.Node.TheVariants as node
use Rattle.fine_model.proofs.Ordered.Order.{first_of_both}
use Rattle.node_record.proofs.Ordered.{at_drop}
use Rattle.btree_nodes.specs.declared.descent.Step.{Step}
use Rattle.btree_nodes.specs.Descent.{bound_at, bounds_by, low_of}
use Rattle.btree_nodes.specs.Scans.{rest_bounds, IsChildAt}
use Rattle.btree_nodes.specs.Trees.{kids_met}
use Rattle.btree_nodes.proofs.Steps.{none_at, or_else, high_is, low_is}

-- what the test of an inner node says of it
pub record IsInnerNode (next : ℕ) (n : Node) : Type 0 where
  pub is : n ≡ node.Inner (seps_of n) (kids_of n)
  pub many : length (kids_of n) ≡ length (seps_of n) + 1
  pub below : list_all (λ kid. nat_lt kid next) (kids_of n) ≡ true

pub inner_is : (bounds : Bounds) (next : ℕ) (n : Node) → is_inner bounds next n ≡ true → IsInnerNode next n
inner_is bounds next (node.Inner seps kids) inner =
    let p = first_of_both (are_separators bounds seps && (length kids == length seps + 1)) (list_all (λ kid. nat_lt kid next) kids) inner in
    record { is = refl; many = eqb-true (length kids) (length seps + 1) (first_of_both (are_separators bounds seps) (length kids == length seps + 1) p.0).1; below = p.1 }
inner_is bounds next (node.Head root next' depth) inner = absurd (true≢false (sym inner))
inner_is bounds next (node.Leaf pairs) inner = absurd (true≢false (sym inner))
inner_is bounds next node.Broken inner = absurd (true≢false (sym inner))

pub none_left : {A : Type 0} (xs : List A) (i : ℕ) → length xs ≤ i → drop i xs ≡ []
none_left [] zero le = refl
none_left [] (suc i) le = refl
none_left (x ∷ xs) zero le = absurd (omega arith)
none_left (x ∷ xs) (suc i) le = none_left xs i (omega arith)

module _ (nodes : ℕ → Content) (at : Step) where
  abbrev seps : List (List ℕ)
  seps = seps_of (nodes at.number).0

  abbrev kids : List ℕ
  kids = kids_of (nodes at.number).0

  -- the child at a place is the last one, or there are more behind it
  pub data IsCut (place : ℕ) (child : Step) : Type 0 where
    last : drop place seps ≡ [] → drop place kids ≡ child.number ∷ [] → drop (suc place) kids ≡ [] → bounds_by nodes child.low child.high ≡ rest_bounds nodes at place → IsCut place child
    more : (sep : List ℕ) → drop place seps ≡ sep ∷ drop (suc place) seps → drop place kids ≡ child.number ∷ drop (suc place) kids
        → bounds_by nodes child.low child.high ≡ record { low = bound_at nodes (low_of at.number place at.low); high = Some sep }
        → rest_bounds nodes at (suc place) ≡ record { low = Some sep; high = bound_at nodes at.high } → IsCut place child

  pub cut : (next place : ℕ) (child : Step) → IsInnerNode next (nodes at.number).0 → IsChildAt nodes at place child → IsCut place child
  cut next place child inner is = by (nat_lt place (length seps)) refl
    where
      low : bound_at nodes child.low ≡ bound_at nodes (low_of at.number place at.low)
      low = ap (bound_at nodes) is.low

      high : bound_at nodes child.high ≡ or_else (slice_get seps place) (bound_at nodes at.high)
      high = ap (bound_at nodes) is.high ∙ high_is nodes at.number seps kids inner.is at.low at.high place

      by : (t : Bool) → nat_lt place (length seps) ≡ t → IsCut place child
      by true lt =
          let sep : List ℕ = get_or seps place [] in
          let here = slice_get-get_or seps place [] (ltb-true place (length seps) lt) in
          more sep (at_drop (λ k. k) seps place sep here) (at_drop (λ (k : ℕ). []) kids place child.number is.number)
          (λ i. record { low = low i; high = (high ∙ ap (λ o. or_else o (bound_at nodes at.high)) here) i })
          (λ i. record { low = (low_is nodes at.number seps kids inner.is at.low at.high place ∙ here) i; high = bound_at nodes at.high })
      by false ge =
          let le = ltb-false place (length seps) ge in
          let within = slice_get_within kids place child.number is.number in
          let many = inner.many in
          let behind = none_left kids (suc place) (omega arith) in
          last (none_left seps place le) (at_drop (λ (k : ℕ). []) kids place child.number is.number ∙ ap (λ ks. child.number ∷ ks) behind) behind
          (λ i. record { low = low i; high = (high ∙ ap (λ o. or_else o (bound_at nodes at.high)) (none_at seps place le)) i })

-- a first child that is passed over or scanned, and one below which a node is not fit
module _ (below : Bounds → ℕ → ℕ → Result ℕ ℕ) (low high : List ℕ) where
  abbrev pub first : Bounds → ℕ → ℕ → Result ℕ ℕ
  first bounds kid wanted = cond (meets low high bounds && not (wanted == 0)) (below bounds kid wanted) (Ok wanted)

  pub kids_go : (bounds : Bounds) (sep : List ℕ) (seps : List (List ℕ)) (kid : ℕ) (kids : List ℕ) (wanted left : ℕ) → first (record { low = bounds.low; high = Some sep }) kid wanted ≡ Ok left
      → scan_kids below low high bounds (sep ∷ seps) (kid ∷ kids) wanted ≡ scan_kids below low high (record { low = Some sep; high = bounds.high }) seps kids left
  kids_go bounds sep seps kid kids wanted left is = rw is refl

  pub kids_stop : (bounds : Bounds) (sep : List ℕ) (seps : List (List ℕ)) (kid : ℕ) (kids : List ℕ) (wanted n : ℕ) → first (record { low = bounds.low; high = Some sep }) kid wanted ≡ Err n
      → scan_kids below low high bounds (sep ∷ seps) (kid ∷ kids) wanted ≡ Err n
  kids_stop bounds sep seps kid kids wanted n is = rw is refl

  module _ (nodes : ℕ → Content) (at : Step) (place : ℕ) (child : Step) where
    -- a scan of the children from a place on
    abbrev pub from : ℕ → ℕ → Result ℕ ℕ
    from place wanted = scan_kids below low high (rest_bounds nodes at place) (drop place (seps nodes at)) (drop place (kids nodes at)) wanted

    pub goes : IsCut nodes at place child → (wanted left : ℕ) → first (bounds_by nodes child.low child.high) child.number wanted ≡ Ok left → from place wanted ≡ from (suc place) left
    goes (last none one behind is) wanted left done =
        (λ i. scan_kids below low high (rest_bounds nodes at place) (none i) (one i) wanted)
        ∙ ap (λ c. first c child.number wanted) (sym is) ∙ done
        ∙ ap (λ ks. scan_kids below low high (rest_bounds nodes at (suc place)) (drop (suc place) (seps nodes at)) ks left) (sym behind)
    goes (more sep some kids' is rest) wanted left done =
        (λ i. scan_kids below low high (rest_bounds nodes at place) (some i) (kids' i) wanted)
        ∙ kids_go (rest_bounds nodes at place) sep (drop (suc place) (seps nodes at)) child.number (drop (suc place) (kids nodes at)) wanted left (ap (λ c. first c child.number wanted) (sym is) ∙ done)
        ∙ ap (λ c. scan_kids below low high c (drop (suc place) (seps nodes at)) (drop (suc place) (kids nodes at)) left) (sym rest)

    pub stops : IsCut nodes at place child → (wanted n : ℕ) → first (bounds_by nodes child.low child.high) child.number wanted ≡ Err n → from place wanted ≡ Err n
    stops (last none one behind is) wanted n done =
        (λ i. scan_kids below low high (rest_bounds nodes at place) (none i) (one i) wanted) ∙ ap (λ c. first c child.number wanted) (sym is) ∙ done
    stops (more sep some kids' is rest) wanted n done =
        (λ i. scan_kids below low high (rest_bounds nodes at place) (some i) (kids' i) wanted)
        ∙ kids_stop (rest_bounds nodes at place) sep (drop (suc place) (seps nodes at)) child.number (drop (suc place) (kids nodes at)) wanted n (ap (λ c. first c child.number wanted) (sym is) ∙ done)

-- what is met from a place on
module _ {A : Type 0} (f : Bounds → ℕ → List A) (low high : List ℕ) (nodes : ℕ → Content) (at : Step) (place : ℕ) (child : Step) where
  abbrev pub met_from : ℕ → List A
  met_from place = kids_met f low high (rest_bounds nodes at place) (drop place (seps nodes at)) (drop place (kids nodes at))

  abbrev pub met_first : Bounds → List A
  met_first bounds = cond (meets low high bounds) (f bounds child.number) []

  pub met_on : IsCut nodes at place child → met_from place ≡ met_first (bounds_by nodes child.low child.high) ++ met_from (suc place)
  met_on (last none one behind is) =
      (λ i. kids_met f low high (rest_bounds nodes at place) (none i) (one i)) ∙ ap met_first (sym is)
      ∙ sym (append-nil (met_first (bounds_by nodes child.low child.high)))
      ∙ ap (λ ks. met_first (bounds_by nodes child.low child.high) ++ kids_met f low high (rest_bounds nodes at (suc place)) (drop (suc place) (seps nodes at)) ks) (sym behind)
  met_on (more sep some kids' is rest) =
      (λ i. kids_met f low high (rest_bounds nodes at place) (some i) (kids' i))
      ∙ ap (λ c. met_first c ++ kids_met f low high (record { low = Some sep; high = bound_at nodes at.high }) (drop (suc place) (seps nodes at)) (drop (suc place) (kids nodes at))) (sym is)
      ∙ ap (λ c. met_first (bounds_by nodes child.low child.high) ++ kids_met f low high c (drop (suc place) (seps nodes at)) (drop (suc place) (kids nodes at))) (sym rest)
