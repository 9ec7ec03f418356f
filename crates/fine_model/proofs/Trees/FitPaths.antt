-- On a sound log, each node on the path of a key is fit.
use Rattle.std.proofs.Common.{◌≡◌, ℕ, zero, suc, ◌+◌, ◌-◌, ◌<◌, ◌≤◌, ◌==◌, nat_lt, nat_le, Bool, true, false, cond, ◌&&◌, List, [], ◌∷◌, length, slice_index, refl, ap, ◌∙◌, Some, None, arith, eq-eqb, leb, le-leb, option_map, not, ◌⊎◌, inl, inr}
use Rattle.std.proofs.lemmas.Bool.Decides.{leb_tells}
use Rattle.fine_model.specs.Map.{is_below, between}
use Rattle.std.specs.Prelude.{flat_map, Option, Result, Ok, Err}
use Rattle.std.specs.List.{list_all}
use Rattle.fine_model.specs.Types.{Node}
use Rattle.fine_model.specs.Types.node
use Rattle.fine_model.specs.Nodes.{Content}
use Rattle.fine_model.specs.Trees.{Bounds, whole, AllBetween, are_separators, IsInner, IsSubtree, kids_of, pairs_of, reached, nodes_of, bucket_of}
use Rattle.fine_model.specs.Paths.{is_inner, place_among, bounds_at, seps_of, kid_at, unfit_from, unfit_under, first_unfit, meets, scan_kids, scan_from, unfit_between, first_unfit_between}
use Rattle.fine_model.specs.Laws.{FitLaw, ScanLaw}
use Rattle.fine_model.proofs.Trees.Small.{length-filter_le}
use Rattle.fine_model.proofs.Ordered.Times.{times, times-append, times-tail, below_times}
use Rattle.fine_model.proofs.Trees.GrowInner.{between_many}
use Rattle.fine_model.proofs.Trees.CallLaw.{bucket_below}
use Rattle.fine_model.proofs.Trees.Buckets.{HasTree, has_tree}
use Rattle.fine_model.proofs.Trees.SetLaw.{reaches_itself}

-- the child at a place has the bounds there
child_at : (P : Bounds → ℕ → Type 0) (bounds : Bounds) (seps : List (List ℕ)) (kids : List ℕ) (i : ℕ) → i ≤ length seps → AllBetween P bounds seps kids → P (bounds_at bounds seps i) (slice_index kids i)
unfolding AllBetween
child_at P bounds [] [] i h all = absurd all
child_at P bounds [] (k ∷ []) zero h all = all
child_at P bounds [] (k ∷ []) (suc i) h all = absurd (omega (arith, h))
child_at P bounds [] (k ∷ k' ∷ kids) i h all = absurd all
child_at P bounds (s ∷ seps) [] i h all = absurd all
child_at P bounds (s ∷ seps) (k ∷ kids) zero h all = all.0
child_at P bounds (s ∷ []) (k ∷ kids) (suc zero) h all = child_at P (record { low = Some s; high = bounds.high }) [] kids zero (omega arith) all.1
child_at P bounds (s ∷ s' ∷ seps) (k ∷ kids) (suc zero) h all = child_at P (record { low = Some s; high = bounds.high }) (s' ∷ seps) kids zero (omega arith) all.1
child_at P bounds (s ∷ seps) (k ∷ kids) (suc (suc i)) h all = child_at P (record { low = Some s; high = bounds.high }) seps kids (suc i) (omega (arith, h)) all.1

lower : (k next : ℕ) → (next ≤ k → k < next) → nat_lt k next ≡ true
lower k next h = by (leb_tells next k)
  where
    by : ((leb next k ≡ true) × (next ≤ k)) ⊎ ((leb next k ≡ false) × (k < next)) → nat_lt k next ≡ true
    by (inl e) = le-leb (suc k) next (let l = h e.1 in omega (arith, l))
    by (inr e) = le-leb (suc k) next (let l = e.1 in omega (arith, l))

-- each child is below next where all that is reached is
kids_low : (height : ℕ) (nodes : ℕ → Content) (next : ℕ) (kids : List ℕ) → ((n : ℕ) → next ≤ n → times n (flat_map (reached height nodes) kids) ≡ 0) → list_all (λ kid. nat_lt kid next) kids ≡ true
kids_low height nodes next [] below = refl
kids_low height nodes next (k ∷ kids) below =
    ap (λ b. b && list_all (λ kid. nat_lt kid next) kids) (lower k next (λ h. let z = below k h in let a = times-append k (reached height nodes k) (flat_map (reached height nodes) kids) in let s = reaches_itself height nodes k in absurd (omega (arith, z, a, s))))
    ∙ kids_low height nodes next kids (λ n h. let z = below n h in let a = times-append n (reached height nodes k) (flat_map (reached height nodes) kids) in omega (arith, z, a))

child_part : (f : ℕ → List ℕ) (kids : List ℕ) (i n : ℕ) → i < length kids → times n (f (slice_index kids i)) ≤ times n (flat_map f kids)
child_part f [] i n h = absurd (omega (arith, h))
child_part f (k ∷ kids) zero n h = let a = times-append n (f k) (flat_map f kids) in omega (arith, a)
child_part f (k ∷ kids) (suc i) n h = let a = times-append n (f k) (flat_map f kids) in let r = child_part f kids i n (omega (arith, h)) in omega (arith, a, r)

module _ (bucket : ℕ) (nodes : ℕ → Content) (next : ℕ) (key : List ℕ) where
  abbrev IsFitPath : ℕ → Bounds → ℕ → Type 0
  IsFitPath height bounds number = unfit_from height bucket nodes next key bounds number ≡ None

  abbrev IsLow : List ℕ → Type 0
  IsLow ns = (n : ℕ) → next ≤ n → times n ns ≡ 0

  inner_good : (height : ℕ) (bounds : Bounds) (seps : List (List ℕ)) (kids : List ℕ) → are_separators bounds seps ≡ true → AllBetween (IsSubtree height bucket nodes) bounds seps kids → IsLow (flat_map (reached height nodes) kids)
      → is_inner bounds next (node.Inner seps kids) ≡ true
  inner_good height bounds seps kids good between low =
      ap (λ b. b && (length kids == length seps + 1) && list_all (λ kid. nat_lt kid next) kids) good
      ∙ ap (λ b. b && list_all (λ kid. nat_lt kid next) kids) (eq-eqb (length kids) (length seps + 1) (between_many (IsSubtree height bucket nodes) bounds seps kids between)) ∙ kids_low height nodes next kids low

  inner_path : (height : ℕ) (each : (b : Bounds) (k : ℕ) → IsSubtree height bucket nodes b k → IsLow (reached height nodes k) → IsFitPath height b k) (bounds : Bounds) (number : ℕ) (n : Node)
      → IsInner (IsSubtree height bucket nodes) bounds n → IsLow (flat_map (reached height nodes) (kids_of n))
      → cond (is_inner bounds next n) (unfit_from height bucket nodes next key (bounds_at bounds (seps_of n) (place_among key (seps_of n))) (kid_at n (place_among key (seps_of n)))) (Some number) ≡ None
  inner_path height each bounds number (node.Inner seps kids) inner low =
      let many = between_many (IsSubtree height bucket nodes) bounds seps kids inner.1 in
      let few = length-filter_le (λ sep. not (is_below key sep)) seps in
      let good : is_inner bounds next (node.Inner seps kids) ≡ true =
      ap (λ b. b && (length kids == length seps + 1) && list_all (λ kid. nat_lt kid next) kids) inner.0
      ∙ ap (λ b. b && list_all (λ kid. nat_lt kid next) kids) (eq-eqb (length kids) (length seps + 1) many) ∙ kids_low height nodes next kids low in
      ap (λ b. cond b (unfit_from height bucket nodes next key (bounds_at bounds seps (place_among key seps)) (slice_index kids (place_among key seps))) (Some number)) good
      ∙ each (bounds_at bounds seps (place_among key seps)) (slice_index kids (place_among key seps)) (child_at (IsSubtree height bucket nodes) bounds seps kids (place_among key seps) few inner.1)
      (λ n h. let z = low n h in let c = child_part (reached height nodes) kids (place_among key seps) n (omega (arith, many, few)) in omega (arith, z, c))
  inner_path height each bounds number (node.Head root next' depth) inner low = absurd inner
  inner_path height each bounds number (node.Leaf pairs) inner low = absurd inner
  inner_path height each bounds number node.Broken inner low = absurd inner

  path_fit : (height : ℕ) (bounds : Bounds) (number : ℕ) → IsSubtree height bucket nodes bounds number → IsLow (reached height nodes number) → IsFitPath height bounds number
  unfolding IsSubtree reached unfit_from
  path_fit zero bounds number subtree low = ap (λ b. cond b None (Some number)) subtree
  path_fit (suc height) bounds number subtree low =
      inner_path height (path_fit height) bounds number (nodes number).0 subtree
      (λ n h. let z = low n h in let t = times-tail n number (flat_map (reached height nodes) (kids_of (nodes number).0)) in omega (arith, z, t))

cond_none : (b : Bool) → cond {A = Option ℕ} b None None ≡ None
cond_none true = refl
cond_none false = refl

-- a scan that meets no node that is not fit
abbrev IsWanting : Result ℕ ℕ → Type 0
IsWanting r = (left : ℕ) × (r ≡ Ok left)

wanting_if : (b : Bool) (r : Result ℕ ℕ) (wanted : ℕ) → IsWanting r → IsWanting (cond b r (Ok wanted))
wanting_if true r wanted w = w
wanting_if false r wanted w = (wanted, refl)

module _ (bucket : ℕ) (nodes : ℕ → Content) (next : ℕ) (low high : List ℕ) where
  kids_scan : (height : ℕ) (each : (b : Bounds) (k wanted : ℕ) → IsSubtree height bucket nodes b k → IsLow bucket nodes next low (reached height nodes k) → IsWanting (scan_from height bucket nodes next low high b k wanted))
      (bounds : Bounds) (seps : List (List ℕ)) (kids : List ℕ) (wanted : ℕ) → AllBetween (IsSubtree height bucket nodes) bounds seps kids → IsLow bucket nodes next low (flat_map (reached height nodes) kids)
      → IsWanting (scan_kids (scan_from height bucket nodes next low high) low high bounds seps kids wanted)
  unfolding AllBetween
  kids_scan height each bounds [] [] wanted all below = absurd all
  kids_scan height each bounds [] (k ∷ []) wanted all below =
      wanting_if (meets low high bounds && not (wanted == 0)) (scan_from height bucket nodes next low high bounds k wanted) wanted
      (each bounds k wanted all (λ n h. let z = below n h in let a = times-append n (reached height nodes k) [] in omega (arith, z, a)))
  kids_scan height each bounds [] (k ∷ k' ∷ kids) wanted all below = absurd all
  kids_scan height each bounds (s ∷ seps) [] wanted all below = absurd all
  kids_scan height each bounds (s ∷ seps) (k ∷ kids) wanted all below =
      let first = wanting_if (meets low high (record { low = bounds.low; high = Some s }) && not (wanted == 0)) (scan_from height bucket nodes next low high (record { low = bounds.low; high = Some s }) k wanted) wanted
      (each (record { low = bounds.low; high = Some s }) k wanted all.0 (λ n h. let z = below n h in let a = times-append n (reached height nodes k) (flat_map (reached height nodes) kids) in omega (arith, z, a))) in
      rw first.1 (kids_scan height each (record { low = Some s; high = bounds.high }) seps kids first.0 all.1 (λ n h. let z = below n h in let a = times-append n (reached height nodes k) (flat_map (reached height nodes) kids) in omega (arith, z, a)))

  inner_scan : (height : ℕ) (each : (b : Bounds) (k wanted : ℕ) → IsSubtree height bucket nodes b k → IsLow bucket nodes next low (reached height nodes k) → IsWanting (scan_from height bucket nodes next low high b k wanted))
      (bounds : Bounds) (number wanted : ℕ) (n : Node) → IsInner (IsSubtree height bucket nodes) bounds n → IsLow bucket nodes next low (flat_map (reached height nodes) (kids_of n))
      → IsWanting (cond (is_inner bounds next n) (scan_kids (scan_from height bucket nodes next low high) low high bounds (seps_of n) (kids_of n) wanted) (Err number))
  inner_scan height each bounds number wanted (node.Inner seps kids) inner below =
      let w = kids_scan height each bounds seps kids wanted inner.1 below in
      (w.0, ap (λ b. cond b (scan_kids (scan_from height bucket nodes next low high) low high bounds seps kids wanted) (Err number)) (inner_good bucket nodes next low height bounds seps kids inner.0 inner.1 below) ∙ w.1)
  inner_scan height each bounds number wanted (node.Head root next' depth) inner below = absurd inner
  inner_scan height each bounds number wanted (node.Leaf pairs) inner below = absurd inner
  inner_scan height each bounds number wanted node.Broken inner below = absurd inner

  scan_fit : (height : ℕ) (bounds : Bounds) (number wanted : ℕ) → IsSubtree height bucket nodes bounds number → IsLow bucket nodes next low (reached height nodes number) → IsWanting (scan_from height bucket nodes next low high bounds number wanted)
  unfolding IsSubtree reached scan_from
  scan_fit zero bounds number wanted subtree below =
      (wanted - length (between low high (pairs_of (nodes number).0)), ap (λ b. cond b (Ok (wanted - length (between low high (pairs_of (nodes number).0)))) (Err number)) subtree)
  scan_fit (suc height) bounds number wanted subtree below =
      inner_scan height (scan_fit height) bounds number wanted (nodes number).0 subtree
      (λ n h. let z = below n h in let t = times-tail n number (flat_map (reached height nodes) (kids_of (nodes number).0)) in omega (arith, z, t))

pub scan_law : ScanLaw
unfolding unfit_between
scan_law rows bucket low high limit sound h = by (has_tree bucket (nodes_of rows bucket) (nodes_of rows bucket 0).0 (sound.fit bucket h))
  where
    by : HasTree bucket (nodes_of rows bucket) (nodes_of rows bucket 0).0 → first_unfit_between rows bucket low high limit ≡ None
    by t =
        let tree = t.tree in let deep = tree.deep in
        let below = below_times t.next (reached (t.depth - 1) (nodes_of rows bucket) t.root) tree.below in
        let itself = reaches_itself (t.depth - 1) (nodes_of rows bucket) t.root in
        let small : nat_lt t.root t.next ≡ true = lower t.root t.next (λ h. let z = below t.root h in absurd (omega (arith, z, itself))) in
        let w = scan_fit bucket (nodes_of rows bucket) t.next low high (t.depth - 1) whole t.root limit tree.subtree below in
        ap (λ n. option_map (λ number. record { bucket = bucket; number = number }) (unfit_between bucket (nodes_of rows bucket) low high limit n)) t.is
        ∙ ap (option_map (λ number. record { bucket = bucket; number = number })) (none t small (le-leb 1 t.depth deep) w)
      where
        none : (t : HasTree bucket (nodes_of rows bucket) (nodes_of rows bucket 0).0) → nat_lt t.root t.next ≡ true → nat_le 1 t.depth ≡ true → IsWanting (scan_from (t.depth - 1) bucket (nodes_of rows bucket) t.next low high whole t.root limit)
            → unfit_between bucket (nodes_of rows bucket) low high limit (node.Head t.root t.next t.depth) ≡ None
        none t small deep w = rw (small, deep, w.1) (cond_none (is_below low high && not (limit == 0)))

pub fit_law : FitLaw
unfolding unfit_under
fit_law rows key sound = by (has_tree (bucket_of key) (nodes_of rows (bucket_of key)) (nodes_of rows (bucket_of key) 0).0 (sound.fit (bucket_of key) (bucket_below key)))
  where
    by : HasTree (bucket_of key) (nodes_of rows (bucket_of key)) (nodes_of rows (bucket_of key) 0).0 → first_unfit rows key ≡ None
    by t =
        let tree = t.tree in let deep = tree.deep in
        let low = below_times t.next (reached (t.depth - 1) (nodes_of rows (bucket_of key)) t.root) tree.below in
        let itself = reaches_itself (t.depth - 1) (nodes_of rows (bucket_of key)) t.root in
        ap (λ n. option_map (λ number. record { bucket = bucket_of key; number = number }) (unfit_under (bucket_of key) (nodes_of rows (bucket_of key)) key n)) t.is
        ∙ ap (option_map (λ number. record { bucket = bucket_of key; number = number }))
        (ap (λ b. cond (b && nat_le 1 t.depth) (unfit_from (t.depth - 1) (bucket_of key) (nodes_of rows (bucket_of key)) t.next key whole t.root) (Some 0)) (lower t.root t.next (λ h. let z = low t.root h in absurd (omega (arith, z, itself))))
        ∙ ap (λ b. cond b (unfit_from (t.depth - 1) (bucket_of key) (nodes_of rows (bucket_of key)) t.next key whole t.root) (Some 0)) (le-leb 1 t.depth deep)
        ∙ path_fit (bucket_of key) (nodes_of rows (bucket_of key)) t.next key (t.depth - 1) whole t.root tree.subtree low)
