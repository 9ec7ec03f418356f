-- What a scan visits, one child after the other; and that it stays the same once more nodes are loaded.
use Rattle.std.proofs.Common.{◌≡◌, ◌≢◌, ℕ, zero, suc, ◌-◌, ◌==◌, Bool, true, false, cond, ◌&&◌, not, List, [], ◌∷◌, ◌++◌, length, drop, Some, Result, Ok, Err, refl, sym, ap, subst, ◌∙◌, append-nil}
use Rattle.std.specs.Prelude.{Contains}
use Rattle.std.proofs.Math.Bool.{and-false}
use Rattle.std.proofs.lemmas.List.Elements.{Contains-append_left}
use Rattle.fine_model.specs.declared.Node.{Node}
use Rattle.fine_model.specs.declared.Node.TheVariants as node
use Rattle.fine_model.specs.Map.{between}
use Rattle.fine_model.specs.Nodes.{Content}
use Rattle.fine_model.specs.Paths.{meets, seps_of, is_inner, scan_kids, scan_from}
use Rattle.fine_model.specs.Trees.{Bounds, is_leaf, kids_of, pairs_of}
use Rattle.btree_nodes.specs.declared.descent.Step.{Step}
use Rattle.btree_nodes.specs.Descent.{bound_at, bounds_by}
use Rattle.btree_nodes.specs.Scans.{rest_bounds}
use Rattle.btree_nodes.specs.Walks.{visited_kids, visited_from}
use Rattle.btree_nodes.proofs.Sound.{leaf_whole, inner_whole}
use Rattle.btree_nodes.proofs.SameScans.{not_both, tested}
use Rattle.btree_nodes.proofs.ScanSteps.{IsCut, last, more, first, kids_go, kids_stop}

module _ (below : Bounds → ℕ → ℕ → Result ℕ ℕ) (visits : Bounds → ℕ → ℕ → List ℕ) (low high : List ℕ) where
  -- what is visited of a first child
  abbrev pub visit : Bounds → ℕ → ℕ → List ℕ
  visit bounds kid wanted = cond (meets low high bounds && not (wanted == 0)) (visits bounds kid wanted) []

  pub visited_go : (bounds : Bounds) (sep : List ℕ) (seps : List (List ℕ)) (kid : ℕ) (kids : List ℕ) (wanted left : ℕ) → first below low high (record { low = bounds.low; high = Some sep }) kid wanted ≡ Ok left
      → visited_kids below visits low high bounds (sep ∷ seps) (kid ∷ kids) wanted
      ≡ visit (record { low = bounds.low; high = Some sep }) kid wanted ++ visited_kids below visits low high (record { low = Some sep; high = bounds.high }) seps kids left
  visited_go bounds sep seps kid kids wanted left is = rw is refl

  pub visited_stop : (bounds : Bounds) (sep : List ℕ) (seps : List (List ℕ)) (kid : ℕ) (kids : List ℕ) (wanted n : ℕ) → first below low high (record { low = bounds.low; high = Some sep }) kid wanted ≡ Err n
      → visited_kids below visits low high bounds (sep ∷ seps) (kid ∷ kids) wanted ≡ visit (record { low = bounds.low; high = Some sep }) kid wanted ++ []
  visited_stop bounds sep seps kid kids wanted n is = rw is refl

  visit_none : (bounds : Bounds) (kid : ℕ) → visit bounds kid 0 ≡ []
  visit_none bounds kid = ap (λ t. cond t (visits bounds kid 0) []) (and-false (meets low high bounds))

  -- nothing is visited where nothing is wanted
  pub visited_none : (bounds : Bounds) (seps : List (List ℕ)) (kids : List ℕ) → visited_kids below visits low high bounds seps kids 0 ≡ []
  visited_none bounds seps [] = refl
  visited_none bounds [] (kid ∷ kids) = visit_none bounds kid
  visited_none bounds (sep ∷ seps) (kid ∷ kids) =
      let c : Bounds = record { low = bounds.low; high = Some sep } in
      visited_go bounds sep seps kid kids 0 0 (ap (λ t. cond t (below c kid 0) (Ok 0)) (and-false (meets low high c)))
      ∙ (λ i. visit_none c kid i ++ visited_none (record { low = Some sep; high = bounds.high }) seps kids i)

  module _ (nodes : ℕ → Content) (at : Step) (place : ℕ) (child : Step) where
    abbrev seps : List (List ℕ)
    seps = seps_of (nodes at.number).0

    abbrev kids : List ℕ
    kids = kids_of (nodes at.number).0

    -- what is visited of the children from a place on
    abbrev pub walk_from : ℕ → ℕ → List ℕ
    walk_from place wanted = visited_kids below visits low high (rest_bounds nodes at place) (drop place seps) (drop place kids) wanted

    abbrev bounds : Bounds
    bounds = bounds_by nodes child.low child.high

    -- one child, and then the others
    pub walk_on : IsCut nodes at place child → (wanted left : ℕ) → first below low high bounds child.number wanted ≡ Ok left → walk_from place wanted ≡ visit bounds child.number wanted ++ walk_from (suc place) left
    walk_on (last none one behind is) wanted left done =
        (λ i. visited_kids below visits low high (rest_bounds nodes at place) (none i) (one i) wanted)
        ∙ ap (λ c. visit c child.number wanted) (sym is) ∙ sym (append-nil (visit bounds child.number wanted))
        ∙ ap (λ ks. visit bounds child.number wanted ++ visited_kids below visits low high (rest_bounds nodes at (suc place)) (drop (suc place) seps) ks left) (sym behind)
    walk_on (more sep some kids' is rest) wanted left done =
        (λ i. visited_kids below visits low high (rest_bounds nodes at place) (some i) (kids' i) wanted)
        ∙ visited_go (rest_bounds nodes at place) sep (drop (suc place) seps) child.number (drop (suc place) kids) wanted left (ap (λ c. first below low high c child.number wanted) (sym is) ∙ done)
        ∙ (λ i. visit (sym is i) child.number wanted ++ visited_kids below visits low high (sym rest i) (drop (suc place) seps) (drop (suc place) kids) left)

    -- what is visited of a child is visited, whatever comes then
    pub walk_part : IsCut nodes at place child → (wanted n : ℕ) → Contains (visit bounds child.number wanted) n → Contains (walk_from place wanted) n
    walk_part (last none one behind is) wanted n h =
        subst (λ xs. Contains xs n) (sym ((λ i. visited_kids below visits low high (rest_bounds nodes at place) (none i) (one i) wanted) ∙ ap (λ c. visit c child.number wanted) (sym is))) h
    walk_part (more sep some kids' is rest) wanted n h = by (first below low high bounds child.number wanted) refl
      where
        start : walk_from place wanted ≡ visited_kids below visits low high (rest_bounds nodes at place) (sep ∷ drop (suc place) seps) (child.number ∷ drop (suc place) kids) wanted
        start = λ i. visited_kids below visits low high (rest_bounds nodes at place) (some i) (kids' i) wanted

        same : (xs : List ℕ) → visit (record { low = (rest_bounds nodes at place).low; high = Some sep }) child.number wanted ++ xs ≡ visit bounds child.number wanted ++ xs
        same xs = ap (λ c. visit c child.number wanted ++ xs) (sym is)

        by : (r : Result ℕ ℕ) → first below low high bounds child.number wanted ≡ r → Contains (walk_from place wanted) n
        by (Ok left) e =
            let xs = visited_kids below visits low high (record { low = Some sep; high = bound_at nodes at.high }) (drop (suc place) seps) (drop (suc place) kids) left in
            subst (λ ys. Contains ys n) (sym (start ∙ visited_go (rest_bounds nodes at place) sep (drop (suc place) seps) child.number (drop (suc place) kids) wanted left (ap (λ c. first below low high c child.number wanted) (sym is) ∙ e) ∙ same xs))
            (Contains-append_left (visit bounds child.number wanted) xs n h)
        by (Err m) e =
            subst (λ ys. Contains ys n) (sym (start ∙ visited_stop (rest_bounds nodes at place) sep (drop (suc place) seps) child.number (drop (suc place) kids) wanted m (ap (λ c. first below low high c child.number wanted) (sym is) ∙ e) ∙ same []))
            (Contains-append_left (visit bounds child.number wanted) [] n h)

-- ---- over two maps of nodes

module _ (low high : List ℕ) (f g : Bounds → ℕ → ℕ → Result ℕ ℕ) (p q : Bounds → ℕ → ℕ → List ℕ)
    (each : (b : Bounds) (k wanted left : ℕ) → g b k wanted ≡ Ok left → (f b k wanted ≡ Ok left) × (p b k wanted ≡ q b k wanted)) where
  same_visit : (b : Bounds) (k wanted left : ℕ) → first g low high b k wanted ≡ Ok left → (first f low high b k wanted ≡ Ok left) × (visit f p low high b k wanted ≡ visit g q low high b k wanted)
  same_visit b k wanted left is = by (meets low high b && not (wanted == 0)) is
    where
      by : (t : Bool) → cond t (g b k wanted) (Ok wanted) ≡ Ok left → (cond t (f b k wanted) (Ok wanted) ≡ Ok left) × (cond t (p b k wanted) [] ≡ cond t (q b k wanted) [])
      by true is = each b k wanted left is
      by false is = (is, refl)

  same_visited : (b : Bounds) (seps : List (List ℕ)) (kids : List ℕ) (wanted left : ℕ) → scan_kids g low high b seps kids wanted ≡ Ok left
      → (scan_kids f low high b seps kids wanted ≡ Ok left) × (visited_kids f p low high b seps kids wanted ≡ visited_kids g q low high b seps kids wanted)
  same_visited b seps [] wanted left is = (is, refl)
  same_visited b [] (kid ∷ kids) wanted left is = same_visit b kid wanted left is
  same_visited b (sep ∷ seps) (kid ∷ kids) wanted left is =
      by (first g low high (record { low = b.low; high = Some sep }) kid wanted) refl (λ mid e. same_visit (record { low = b.low; high = Some sep }) kid wanted mid e) (λ mid e. same_visited (record { low = Some sep; high = b.high }) seps kids mid left e)
    where
      by : (r : Result ℕ ℕ) → first g low high (record { low = b.low; high = Some sep }) kid wanted ≡ r
          → ((mid : ℕ) → first g low high (record { low = b.low; high = Some sep }) kid wanted ≡ Ok mid → (first f low high (record { low = b.low; high = Some sep }) kid wanted ≡ Ok mid) × (visit f p low high (record { low = b.low; high = Some sep }) kid wanted ≡ visit g q low high (record { low = b.low; high = Some sep }) kid wanted))
          → ((mid : ℕ) → scan_kids g low high (record { low = Some sep; high = b.high }) seps kids mid ≡ Ok left → (scan_kids f low high (record { low = Some sep; high = b.high }) seps kids mid ≡ Ok left) × (visited_kids f p low high (record { low = Some sep; high = b.high }) seps kids mid ≡ visited_kids g q low high (record { low = Some sep; high = b.high }) seps kids mid))
          → (scan_kids f low high b (sep ∷ seps) (kid ∷ kids) wanted ≡ Ok left) × (visited_kids f p low high b (sep ∷ seps) (kid ∷ kids) wanted ≡ visited_kids g q low high b (sep ∷ seps) (kid ∷ kids) wanted)
      by (Err n) e one rest = absurd (not_both (sym is ∙ kids_stop g low high b sep seps kid kids wanted n e))
      by (Ok mid) e one rest =
          let here = one mid e in
          let behind = rest mid (sym (kids_go g low high b sep seps kid kids wanted mid e) ∙ is) in (
            kids_go f low high b sep seps kid kids wanted mid here.0 ∙ behind.0,
            visited_go f p low high b sep seps kid kids wanted mid here.0 ∙ (λ i. here.1 i ++ behind.1 i) ∙ sym (visited_go g q low high b sep seps kid kids wanted mid e),
          )

module _ (mine theirs : ℕ → Content) (agrees : (n : ℕ) → (theirs n).0 ≢ node.Broken → mine n ≡ theirs n) (bucket next : ℕ) (low high : List ℕ) where
  -- Where a scan meets only fit nodes, one of nodes that are the same where they are there visits the same.
  pub same_walk : (height : ℕ) (bounds : Bounds) (number wanted left : ℕ) → scan_from height bucket theirs next low high bounds number wanted ≡ Ok left
      → (scan_from height bucket mine next low high bounds number wanted ≡ Ok left) × (visited_from height bucket mine next low high bounds number wanted ≡ visited_from height bucket theirs next low high bounds number wanted)
  unfolding scan_from visited_from
  same_walk zero bounds number wanted left is =
      let good = (tested (is_leaf bucket bounds (theirs number).0) (Ok (wanted - length (between low high (pairs_of (theirs number).0)))) number left is).0 in
      let same = agrees number (leaf_whole bucket bounds (theirs number).0 good) in
      (ap (λ (n : Content). cond (is_leaf bucket bounds n.0) (Ok (wanted - length (between low high (pairs_of n.0)))) (Err number)) same ∙ is, refl)
  same_walk (suc height) bounds number wanted left is =
      let scan : (ℕ → Content) → Node → Result ℕ ℕ = λ nodes n. scan_kids (scan_from height bucket nodes next low high) low high bounds (seps_of n) (kids_of n) wanted in
      let walk : (ℕ → Content) → Node → List ℕ = λ nodes n. visited_kids (scan_from height bucket nodes next low high) (visited_from height bucket nodes next low high) low high bounds (seps_of n) (kids_of n) wanted in
      let good = tested (is_inner bounds next (theirs number).0) (scan theirs (theirs number).0) number left is in
      let same = agrees number (inner_whole bounds next (theirs number).0 good.0) in
      let kids = same_visited low high (scan_from height bucket mine next low high) (scan_from height bucket theirs next low high) (visited_from height bucket mine next low high) (visited_from height bucket theirs next low high)
      (λ b k w l e. same_walk height b k w l e) bounds (seps_of (theirs number).0) (kids_of (theirs number).0) wanted left good.1 in (
        ap (λ (n : Content). cond (is_inner bounds next n.0) (scan mine n.0) (Err number)) same ∙ ap (λ t. cond t (scan mine (theirs number).0) (Err number)) good.0 ∙ kids.0,
        ap (λ (n : Content). number ∷ cond (is_inner bounds next n.0) (walk mine n.0) []) same ∙ ap (λ ns. number ∷ cond (is_inner bounds next (theirs number).0) ns []) kids.1,
      )
