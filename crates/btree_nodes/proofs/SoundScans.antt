-- On sound rows, a scan meets no node that is not fit, and finds what the tree's map has.
use Rattle.std.proofs.Common.{◌≡◌, ◌≢◌, ℕ, zero, suc, ◌-◌, ◌<◌, ◌==◌, Bool, true, false, cond, ◌&&◌, not, List, [], ◌∷◌, ◌++◌, take, Option, Some, None, Result, Ok, Err, is_some, refl, sym, ap, subst, ◌∙◌, true≢false, append-nil}
use Rattle.std.specs.Prelude.{flat_map, option_map}
use Rattle.std.specs.List.{AllByRecursion}
use Rattle.std.proofs.Math.Bool.{and-false}
use Rattle.fine_model.specs.declared.Row.{Row}
use Rattle.fine_model.specs.declared.FetchFault.{FetchFault}
use Rattle.fine_model.specs.declared.Node.{Node}
use Rattle.fine_model.specs.declared.Node.TheVariants as node
use Rattle.fine_model.specs.declared.NodeId.{NodeId}
use Rattle.fine_model.specs.Map.{Pair, is_below, between}
use Rattle.fine_model.specs.Nodes.{Content}
use Rattle.fine_model.specs.Paths.{meets, seps_of, unfit_between}
use Rattle.fine_model.specs.Trees.{Bounds, whole, AllBetween, IsInner, IsSubtree, IsSound, is_up_to, is_above, kids_of, pairs_under, pairs_from, tree_map, nodes_of}
use Rattle.fine_model.proofs.Trees.FitPaths.{scan_law}
use Rattle.fine_model.proofs.Ordered.Order.{filter_none, all_map}
use Rattle.fine_model.proofs.Trees.Bounded.{AllFrom, AllUpTo, below_not, not_lower, subtree_from, subtree_up_to}
use Rattle.fine_model.proofs.Trees.Buckets.{HasTree, has_tree}
use Rattle.node_cache.specs.Cache.{Cache}
use Rattle.btree_nodes.specs.declared.fault.TreeFault.{TreeFault}
use Rattle.btree_nodes.specs.declared.fault.TreeFault.TheVariants.{Source, Unfit, BucketFull, Number, NoMemory}
use Rattle.node_cache.specs.Given.{Finds, given, IsCached, IsLoaded}
use Rattle.btree_nodes.specs.Trees.{Serves, Holds, kids_met, pairs_met, pairs_between}
use Rattle.btree_nodes.specs.Walks.{LoadsOnWalk}
use Rattle.btree_nodes.specs.Calls.{Reads, IsFirstUnfitBetween, IsFoundBetween, SoundReading}
use Rattle.btree_nodes.proofs.OnWalks.{holds_on_walk}
use Rattle.btree_nodes.proofs.Sound.{cached_of_whole}
use Rattle.btree_nodes.proofs.SameScans.{GoesAlike, same_from}
use Rattle.btree_nodes.proofs.Takes.{between_none, between-append, none_taken}
use Rattle.btree_nodes.proofs.ScanHeads.{Opens, scanned, wants, unfit, opens_or_not, fit_through, unfit_at, opened, goes_through}

-- ---- the pairs that are met are those of the range

module _ (low high : List ℕ) where
  -- no pair of a child that holds no keys of the range is in it
  beside : (bounds : Bounds) (pairs : List Pair) → meets low high bounds ≡ false → ((t : List ℕ) → bounds.low ≡ Some t → AllFrom t pairs) → ((t : List ℕ) → bounds.high ≡ Some t → AllUpTo t pairs) → between low high pairs ≡ []
  unfolding between
  beside bounds pairs out from up = filter_none (λ p. not (is_below p.0 low) && is_below p.0 high) pairs (by_high bounds.high refl out)
    where
      AllOut : Type 0
      AllOut = AllByRecursion (λ p. (not (is_below p.0 low) && is_below p.0 high) ≡ false) pairs

      by_low : (l : Option (List ℕ)) → bounds.low ≡ l → is_above l high ≡ false → AllOut
      by_low None is out = absurd (true≢false out)
      by_low (Some l) is out = all_map (λ p. is_below p.0 l ≡ false) (λ p. (not (is_below p.0 low) && is_below p.0 high) ≡ false)
          (λ p h. ap (λ b. not (is_below p.0 low) && b) (not_lower p.0 high l out h) ∙ and-false (not (is_below p.0 low))) pairs (from l is)

      by_high : (h : Option (List ℕ)) → bounds.high ≡ h → (is_up_to h low && is_above bounds.low high) ≡ false → AllOut
      by_high None is out = by_low bounds.low refl out
      by_high (Some h) is out = by (is_below low h) refl out
        where
          by : (b : Bool) → is_below low h ≡ b → (b && is_above bounds.low high) ≡ false → AllOut
          by true e out = by_low bounds.low refl out
          by false e out = all_map (λ p. is_below p.0 h ≡ true) (λ p. (not (is_below p.0 low) && is_below p.0 high) ≡ false)
              (λ p q. ap (λ b. not b && is_below p.0 high) (below_not p.0 h low q e)) pairs (up h is)

  module _ (P : Bounds → ℕ → Type 0) (f : Bounds → ℕ → List Pair) (g : ℕ → List Pair) (each : (b : Bounds) (k : ℕ) → P b k → between low high (f b k) ≡ between low high (g k))
      (from : (b : Bounds) (t : List ℕ) (k : ℕ) → b.low ≡ Some t → P b k → AllFrom t (g k)) (up : (b : Bounds) (t : List ℕ) (k : ℕ) → b.high ≡ Some t → P b k → AllUpTo t (g k)) where
    one_met : (b : Bounds) (k : ℕ) → P b k → between low high (cond (meets low high b) (f b k) []) ≡ between low high (g k)
    one_met b k h = by (meets low high b) refl
      where
        by : (m : Bool) → meets low high b ≡ m → between low high (cond m (f b k) []) ≡ between low high (g k)
        by true e = each b k h
        by false e = between_none low high ∙ sym (beside b (g k) e (λ t is. from b t k is h) (λ t is. up b t k is h))

    all_met : (b : Bounds) (seps : List (List ℕ)) (kids : List ℕ) → AllBetween P b seps kids → between low high (kids_met f low high b seps kids) ≡ between low high (flat_map g kids)
    unfolding AllBetween
    all_met b [] [] all = absurd all
    all_met b [] (kid ∷ []) all = one_met b kid all ∙ ap (between low high) (sym (append-nil (g kid)))
    all_met b [] (kid ∷ kid' ∷ kids) all = absurd all
    all_met b (sep ∷ seps) [] all = absurd all
    all_met b (sep ∷ seps) (kid ∷ kids) all =
        let c : Bounds = record { low = b.low; high = Some sep } in
        let d : Bounds = record { low = Some sep; high = b.high } in
        between-append low high (cond (meets low high c) (f c kid) []) (kids_met f low high d seps kids)
        ∙ (λ i. one_met c kid all.0 i ++ all_met d seps kids all.1 i) ∙ sym (between-append low high (g kid) (flat_map g kids))

  node_met : (height bucket : ℕ) (nodes : ℕ → Content) (each : (b : Bounds) (k : ℕ) → IsSubtree height bucket nodes b k → between low high (pairs_met height nodes low high b k) ≡ between low high (pairs_under height nodes k))
      (bounds : Bounds) (n : Node) → IsInner (IsSubtree height bucket nodes) bounds n → between low high (kids_met (pairs_met height nodes low high) low high bounds (seps_of n) (kids_of n)) ≡ between low high (flat_map (pairs_under height nodes) (kids_of n))
  node_met height bucket nodes each bounds (node.Inner seps kids) inner =
      all_met (IsSubtree height bucket nodes) (pairs_met height nodes low high) (pairs_under height nodes) each
      (λ b t k is h. subtree_from height bucket nodes b t k is h) (λ b t k is h. subtree_up_to height bucket nodes b t k is h) bounds seps kids inner.1
  node_met height bucket nodes each bounds (node.Head root next depth) inner = absurd inner
  node_met height bucket nodes each bounds (node.Leaf pairs) inner = absurd inner
  node_met height bucket nodes each bounds node.Broken inner = absurd inner

  tree_met : (height bucket : ℕ) (nodes : ℕ → Content) (bounds : Bounds) (number : ℕ) → IsSubtree height bucket nodes bounds number → between low high (pairs_met height nodes low high bounds number) ≡ between low high (pairs_under height nodes number)
  unfolding IsSubtree pairs_met pairs_under
  tree_met zero bucket nodes bounds number subtree = refl
  tree_met (suc height) bucket nodes bounds number subtree = node_met height bucket nodes (tree_met height bucket nodes) bounds (nodes number).0 subtree

-- ---- on sound rows

module _ (rows : List Row) (b : Cache) (sound : IsSound rows) (small : b.bucket < 256) (agrees : (n : ℕ) → IsCached b n → (nodes_of rows b.bucket n).0 ≢ node.Broken → given b n ≡ nodes_of rows b.bucket n) (low high : List ℕ) (limit : ℕ) where
  abbrev theirs : ℕ → Content
  theirs = nodes_of rows b.bucket

  tree : HasTree b.bucket theirs (theirs 0).0
  tree = has_tree b.bucket theirs (theirs 0).0 (sound.fit b.bucket small)

  none_unfit : unfit b.bucket theirs low high limit tree.root tree.next tree.depth ≡ None
  none_unfit = ap (unfit_between b.bucket theirs low high limit) (sym tree.is) ∙ unmapped (unfit_between b.bucket theirs low high limit (theirs 0).0) (scan_law rows b.bucket low high limit sound small)
    where
      unmapped : (o : Option ℕ) → option_map (λ number. let id : NodeId = record { bucket = b.bucket; number = number } in id) o ≡ None → o ≡ None
      unmapped None e = refl
      unmapped (Some n) e = cc

  open_head : Opens b.bucket theirs low high limit tree.root tree.next tree.depth
  open_head = opened b.bucket theirs low high limit tree.root tree.next tree.depth none_unfit

  head_same : IsCached b 0 → (given b 0).0 ≡ node.Head tree.root tree.next tree.depth
  head_same here = ap (λ (n : Content). n.0) (agrees 0 here (λ broken. let e = sym tree.is ∙ broken in cc)) ∙ tree.is

  abbrev mine : Result ℕ ℕ
  mine = scanned b.bucket (given b) low high limit tree.root tree.next tree.depth

  abbrev met : (ℕ → Content) → List Pair
  met nodes = between low high (pairs_met (tree.depth - 1) nodes low high whole tree.root)

  -- where the range is wanted, the bucket's scan goes as the rows' does
  alike : wants b.bucket theirs low high limit tree.root tree.next tree.depth ≡ true → (left : ℕ) × GoesAlike (IsCached b) mine limit left (met (given b)) (met theirs)
  alike some =
      let through = goes_through b.bucket theirs low high limit tree.root tree.next tree.depth open_head some none_unfit in
      (through.0, same_from (given b) theirs (IsCached b) (cached_of_whole b) agrees b.bucket tree.next low high (tree.depth - 1) whole tree.root limit through.0 through.1)

  -- the pairs that are found are those of the map
  pub sound_found : (old new : List Pair) → IsFoundBetween b low high limit old new → new ≡ old ++ take limit (between low high (tree_map rows b.bucket))
  unfolding pairs_between tree_map
  sound_found old new found =
      found.behind
      ∙ ap (λ n. old ++ take limit (pairs_between (given b) low high n)) (head_same found.here)
      ∙ ap (λ xs. old ++ xs) (by (is_below low high && not (limit == 0)) refl ∙ ap (take limit) (tree_met low high (tree.depth - 1) b.bucket theirs whole tree.root tree.tree.subtree))
      ∙ ap (λ n. old ++ take limit (between low high (pairs_from theirs n))) (sym tree.is)
    where
      fits : unfit b.bucket (given b) low high limit tree.root tree.next tree.depth ≡ None
      fits = ap (unfit_between b.bucket (given b) low high limit) (sym (head_same found.here)) ∙ found.fit

      by : (w : Bool) → (is_below low high && not (limit == 0)) ≡ w → take limit (met (given b)) ≡ take limit (met theirs)
      by false none = none_taken low high limit (pairs_met (tree.depth - 1) (given b) low high whole tree.root) none ∙ sym (none_taken low high limit (pairs_met (tree.depth - 1) theirs low high whole tree.root) none)
      by true some = with mine refl (alike some).1
        where
          with : (r : Result ℕ ℕ) → mine ≡ r → GoesAlike (IsCached b) r limit (alike some).0 (met (given b)) (met theirs) → take limit (met (given b)) ≡ take limit (met theirs)
          with (Ok left) e h = h.1.same
          with (Err n) e h = absurd (true≢false (sym (ap is_some (unfit_at b.bucket (given b) low high limit tree.root tree.next tree.depth open_head some n e)) ∙ ap is_some fits))

  -- and no node is unfit
  pub sound_fit : (id : NodeId) → IsFirstUnfitBetween b low high limit id → ⊥
  unfolding unfit_between
  sound_fit id first = by (is_below low high && not (limit == 0)) refl
    where
      here : IsCached b 0
      here = of (given b 0).0 refl first.first
        where
          of : (n : Node) → (given b 0).0 ≡ n → unfit_between b.bucket (given b) low high limit n ≡ Some id.number → IsCached b 0
          of (node.Head root next depth) is first = cached_of_whole b 0 (λ broken. let e = sym is ∙ broken in cc)
          of (node.Leaf pairs) is first = cached_of_whole b 0 (λ broken. let e = sym is ∙ broken in cc)
          of (node.Inner seps kids) is first = cached_of_whole b 0 (λ broken. let e = sym is ∙ broken in cc)
          of node.Broken is first' = subst (IsCached b) (let e : id.number ≡ 0 = cc in e) first.there

      is_unfit : unfit b.bucket (given b) low high limit tree.root tree.next tree.depth ≡ Some id.number
      is_unfit = ap (unfit_between b.bucket (given b) low high limit) (sym (head_same here)) ∙ first.first

      by : (w : Bool) → (is_below low high && not (limit == 0)) ≡ w → ⊥
      by false none = true≢false (sym (ap is_some is_unfit) ∙ ap is_some (opens_or_not b.bucket (given b) low high limit tree.root tree.next tree.depth open_head none))
      by true some = with mine refl (alike some).1
        where
          with : (r : Result ℕ ℕ) → mine ≡ r → GoesAlike (IsCached b) r limit (alike some).0 (met (given b)) (met theirs) → ⊥
          with (Ok left) e h = true≢false (sym (ap is_some is_unfit) ∙ ap is_some (fit_through b.bucket (given b) low high limit tree.root tree.next tree.depth open_head some left e))
          with (Err n) e h =
              let two : Some n ≡ Some id.number = sym (unfit_at b.bucket (given b) low high limit tree.root tree.next tree.depth open_head some n e) ∙ is_unfit in
              h (subst (IsCached b) (sym (let same : n ≡ id.number = cc in same)) first.there)

-- what a scan answers on sound rows
pub scans_soundly : (tells : List Row → Type 0) (finds : Finds) (upper : ℕ) (old new : Cache) (low high : List ℕ) (limit : ℕ) (out out' : List Pair) (F : FetchFault → Type 0) (r : Result (Unit {0}) TreeFault) → old.bucket < 256 → IsLoaded tells finds upper old new
    → LoadsOnWalk old new low high limit → Reads (λ done. IsFoundBetween new low high limit out out') F (IsFirstUnfitBetween new low high limit) r
    → (rows log : List Row) → Serves tells old rows → Holds old rows log → IsSound (rows ++ log) → SoundReading rows log new (λ done. out' ≡ out ++ take limit (between low high (tree_map (rows ++ log) old.bucket))) r
scans_soundly tells finds upper old new low high limit out out' F r small loaded on_walk answer rows log serves holds sound = by r answer
  where
    small' : new.bucket < 256
    small' = subst (λ k. k < 256) (sym loaded.bucket) small

    then_holds : Holds new rows log
    then_holds = holds_on_walk tells finds upper rows log old new low high limit small sound loaded on_walk serves holds

    agrees : (n : ℕ) → IsCached new n → (nodes_of (rows ++ log) new.bucket n).0 ≢ node.Broken → given new n ≡ nodes_of (rows ++ log) new.bucket n
    agrees n here fine = then_holds.same n here

    by : (r : Result (Unit {0}) TreeFault) → Reads (λ done. IsFoundBetween new low high limit out out') F (IsFirstUnfitBetween new low high limit) r → SoundReading rows log new (λ done. out' ≡ out ++ take limit (between low high (tree_map (rows ++ log) old.bucket))) r
    by (Ok done) h = (sound_found (rows ++ log) new sound small' agrees low high limit out out' h ∙ ap (λ k. out ++ take limit (between low high (tree_map (rows ++ log) k))) loaded.bucket, then_holds)
    by (Err (Unfit id)) h = sound_fit (rows ++ log) new sound small' agrees low high limit id h
    by (Err (Source f)) h = then_holds
    by (Err (BucketFull m d)) h = h
    by (Err (Number id)) h = h
    by (Err NoMemory) h = then_holds
