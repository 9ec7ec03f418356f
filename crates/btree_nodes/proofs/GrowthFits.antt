-- The rows that setting a pair pushes are of the bucket, within bounds, and of nodes that are there or that they make.
use Rattle.std.proofs.Common.{◌≡◌, ◌⊎◌, inl, inr, ℕ, zero, suc, ◌+◌, ◌<◌, ◌≤◌, nat_lt, Bool, true, false, cond, ◌||◌, List, [], ◌∷◌, ◌++◌, length, drop, slice_get, refl, sym, ap, subst, Option, Some, None, arith}
use Rattle.std.specs.Prelude.{◌↔◌, unwrap_or, IfSome}
use Rattle.std.specs.List.{AllByRecursion}
use Rattle.std.proofs.lemmas.Bool.{or_parts, ltb-false}
use Rattle.fine_model.specs.declared.Rec.{Rec}
use Rattle.fine_model.specs.declared.Rec.TheVariants as rec
use Rattle.fine_model.specs.declared.Row.{Row}
use Rattle.fine_model.specs.declared.Node.{Node}
use Rattle.fine_model.specs.declared.Node.TheVariants as node
use Rattle.fine_model.specs.Map.{Pair, is_below, has}
use Rattle.fine_model.specs.Nodes.{Content}
use Rattle.fine_model.specs.Paths.{is_inner, place_among, bounds_at, seps_of, kid_at, unfit_from}
use Rattle.fine_model.specs.Pushed.{Growth, row_of, key_at, child_for, split_leaf, split_inner, grown_leaf, grown_inner, growth}
use Rattle.fine_model.specs.RowBytes.{kind, FitsKey, FitsPair, FitsChild, FitsRec}
use Rattle.fine_model.specs.Trees.{Bounds, is_leaf, pairs_of}
use Rattle.fine_model.specs.Merge.{is_image}
use Rattle.fine_model.proofs.Ordered.Zip.{all_right}
use Rattle.fine_model.proofs.Ordered.Sets.{all_append}
use Rattle.fine_model.proofs.Ordered.Parts.{Parted, parted, key_at-is}
use Rattle.node_record.specs.Bounds.{FitsNode}
use Rattle.fine_model.proofs.Trees.FitGrown.{pairs_fit, drop_leaf, drop_inner}
use Rattle.node_cache.specs.declared.cached.Cached.{Cached}
use Rattle.node_cache.specs.Cache.{Cache, cached}
use Rattle.node_cache.specs.Given.{given, IsCached}
use Rattle.btree_nodes.specs.Changes.{IsReady, AreReady}
use Rattle.btree_nodes.specs.Growths.{split_rows}
use Rattle.btree_nodes.proofs.Changed.{content_of, given_of}
use Rattle.btree_nodes.proofs.Pushed.{ready_more}
use Rattle.btree_nodes.proofs.Sound.{cached_of_whole, leaf_whole, inner_whole, passed}
use Rattle.btree_nodes.proofs.Ways.{child_is}
use Rattle.btree_nodes.proofs.Paths.{HasPlace, kid_below, leaf_place, inner_place}

-- ---- rows that are ready

pub ready_append : (K : ℕ → Type 0) (rows more : List Row) → AreReady K rows → AreReady K more → AreReady K (rows ++ more)
ready_append K [] more first second = second
ready_append K (row ∷ rows) more first second = (first.0, ready_append (λ n. K n ⊎ (n ≡ row.node.number)) rows more first.1 (ready_more K (λ n. K n ⊎ (n ≡ row.node.number)) (λ n h. inl h) more second))

pub split_ready : (K : ℕ → Type 0) (bucket number version next : ℕ) (image cut set : Rec) (left : Bool) → K number → is_image image ≡ true → AreReady K (split_rows bucket number version next image cut set left)
split_ready K bucket number version next image cut set left here is = (inr is, (inl (inl here), (by left, tt)))
  where
    by : (t : Bool) → IsReady (λ n. (K n ⊎ (n ≡ next)) ⊎ (n ≡ number)) (cond t (row_of bucket number (version + 2) set) (row_of bucket next 2 set))
    by true = inl (inr refl)
    by false = inl (inl (inr refl))

module _ (b : Cache) (next : ℕ) (key value : List ℕ) where
  ready_leaf : (number version : ℕ) (pairs : List Pair) → IsCached b number → AreReady (IsCached b) (grown_leaf b.bucket number version next (key, value) pairs).rows
  unfolding grown_leaf split_leaf
  ready_leaf number version pairs here = by (has pairs key || nat_lt (length pairs) 32)
    where
      by : (t : Bool) → AreReady (IsCached b) (cond {A = Growth} t (record { rows = row_of b.bucket number (version + 1) (rec.Put key value) ∷ []; next = next; split = None }) (split_leaf b.bucket number version next (key, value) pairs (key_at pairs 16))).rows
      by true = (inl here, tt)
      by false = split_ready (IsCached b) b.bucket number version next (rec.LeafImage (drop 16 pairs)) (rec.CutLeaf (key_at pairs 16)) (rec.Put key value) (is_below key (key_at pairs 16)) here refl

  ready_inner : (number version : ℕ) (n : Node) (rows : List Row) (next' : ℕ) (split : Option (List ℕ × ℕ)) → IsCached b number → AreReady (IsCached b) rows → AreReady (IsCached b) (grown_inner b.bucket number version n rows next' split).rows
  unfolding grown_inner split_inner
  ready_inner number version (node.Inner seps kids) rows next' (Some split) here ready = by (nat_lt (length seps) 32)
    where
      by : (t : Bool) → AreReady (IsCached b) (cond {A = Growth} t (record { rows = rows ++ row_of b.bucket number (version + 1) (rec.Link split.0 split.1) ∷ []; next = next'; split = None })
          (split_inner b.bucket number version seps kids (unwrap_or (slice_get seps 16) []) rows next' split.0 split.1)).rows
      by true = ready_append (IsCached b) rows (row_of b.bucket number (version + 1) (rec.Link split.0 split.1) ∷ []) ready (inl here, tt)
      by false = ready_append (IsCached b) rows _ ready (split_ready (IsCached b) b.bucket number version next' (rec.InnerImage (drop 17 seps) (drop 17 kids)) (rec.CutInner (unwrap_or (slice_get seps 16) [])) (rec.Link split.0 split.1) (is_below split.0 (unwrap_or (slice_get seps 16) [])) here refl)
  ready_inner number version (node.Inner seps kids) rows next' None here ready = ready
  ready_inner number version (node.Head root n d) rows next' split here ready = ready
  ready_inner number version (node.Leaf pairs) rows next' split here ready = ready
  ready_inner number version node.Broken rows next' split here ready = ready

  -- on a way that is fit
  pub growth_ready : (height : ℕ) (bounds : Bounds) (number : ℕ) → unfit_from height b.bucket (given b) next key bounds number ≡ None → AreReady (IsCached b) (growth height b.bucket (given b) next (key, value) number).rows
  unfolding unfit_from growth
  growth_ready zero bounds number fit =
      ready_leaf number (given b number).1 (pairs_of (given b number).0) (cached_of_whole b number (leaf_whole b.bucket bounds (given b number).0 (passed (is_leaf b.bucket bounds (given b number).0) None number fit).0))
  growth_ready (suc height) bounds number fit =
      let kid = kid_at (given b number).0 (place_among key (seps_of (given b number).0)) in
      let inside = bounds_at bounds (seps_of (given b number).0) (place_among key (seps_of (given b number).0)) in
      let p = passed (is_inner bounds next (given b number).0) (unfit_from height b.bucket (given b) next key inside kid) number fit in
      let below = subst (λ k. AreReady (IsCached b) (growth height b.bucket (given b) next (key, value) k).rows) (sym (child_is key (given b number).0)) (growth_ready height inside kid p.1) in
      let g = growth height b.bucket (given b) next (key, value) (child_for key (given b number).0) in
      ready_inner number (given b number).1 (given b number).0 g.rows g.next g.split (cached_of_whole b number (inner_whole bounds next (given b number).0 p.0)) below

-- ---- rows within bounds

pub node_fits : (b : Cache) (n : ℕ) → FitsNode (given b n).0
node_fits b n = subst (λ (c : Content). FitsNode c.0) (sym (given_of b n)) (by (cached b n))
  where
    by : (o : Option Cached) → FitsNode (content_of o).0
    by None = tt
    by (Some kept) = kept.fits

item_fits : {A : Type 0} (P : A → Type 0) (n : ℕ) (xs : List A) (p : Parted n xs) → AllByRecursion P xs → P p.item
item_fits P n xs p all = (all_right P p.front (p.item ∷ p.back) (subst (AllByRecursion P) p.is all)).0

module _ (bucket : ℕ) where
  -- a row is of the bucket, and within bounds but for the greatest version
  pub record IsGood (row : Row) : Type 0 where
    pub of_bucket : row.node.bucket ≡ bucket
    pub number : row.node.number < 1048576
    pub head : (row.node.number ≡ 0) ↔ (kind row.rec ≡ 1)
    pub version : 1 ≤ row.version
    pub rec : FitsRec row.rec

  -- a row that is no head's
  pub one_good : (number version : ℕ) (change : Rec) → 1 ≤ version → HasPlace number → (kind change ≡ 1 → ⊥) → FitsRec change → IsGood (row_of bucket number version change)
  one_good number version change some place other fits =
      let above = place.above in
      record { of_bucket = refl; number = place.small; head = (λ zero. absurd (omega (arith, above, zero)), λ one. absurd (other one)); version = some; rec = fits }

  split_good : (number version next : ℕ) (image cut set : Rec) (left : Bool) → HasPlace number → HasPlace next → (kind image ≡ 1 → ⊥) → (kind cut ≡ 1 → ⊥) → (kind set ≡ 1 → ⊥) → FitsRec image → FitsRec cut → FitsRec set
      → AllByRecursion IsGood (split_rows bucket number version next image cut set left)
  split_good number version next image cut set left place new no_i no_c no_s i c s = (one_good next 1 image (omega arith) new no_i i, (one_good number (version + 1) cut (omega arith) place no_c c, (by left, tt)))
    where
      by : (t : Bool) → IsGood (cond t (row_of bucket number (version + 2) set) (row_of bucket next 2 set))
      by true = one_good number (version + 2) set (omega arith) place no_s s
      by false = one_good next 2 set (omega arith) new no_s s

  pub record FitsGrowth (low : ℕ) (g : Growth) : Type 0 where
    pub ordered : low ≤ g.next
    pub rows : g.next ≤ 1048576 → AllByRecursion IsGood g.rows
    pub split : g.next ≤ 1048576 → IfSome g.split (λ s. FitsKey s.0 × FitsChild s.1)

  module _ (low : ℕ) (some : 1 ≤ low) (key value : List ℕ) (pair : FitsPair (key, value)) where
    leaf_good : (number version : ℕ) (pairs : List Pair) → HasPlace number → FitsRec (rec.LeafImage pairs) → FitsGrowth low (grown_leaf bucket number version low (key, value) pairs)
    unfolding grown_leaf split_leaf
    leaf_good number version pairs place fits = by (has pairs key || nat_lt (length pairs) 32) refl
      where
        by : (t : Bool) → (has pairs key || nat_lt (length pairs) 32) ≡ t
            → FitsGrowth low (cond {A = Growth} t (record { rows = row_of bucket number (version + 1) (rec.Put key value) ∷ []; next = low; split = None }) (split_leaf bucket number version low (key, value) pairs (key_at pairs 16)))
        by true e = record { ordered = omega arith; rows = λ enough. (one_good number (version + 1) (rec.Put key value) (omega arith) place (λ e. omega (arith, e)) pair, tt); split = λ enough. tt }
        by false e =
            let many = ltb-false (length pairs) 32 (or_parts (has pairs key) (nat_lt (length pairs) 32) e).1 in
            let p = parted 16 pairs (omega (arith, many)) in
            let sep : FitsKey (key_at pairs 16) = subst FitsKey (sym (key_at-is pairs 16 p.item p.at)) (item_fits FitsPair 16 pairs p fits.1).0 in
            record {
              ordered = omega arith;
              rows = λ enough. split_good number version low (rec.LeafImage (drop 16 pairs)) (rec.CutLeaf (key_at pairs 16)) (rec.Put key value) (is_below key (key_at pairs 16)) place (record { above = some; small = omega (arith, enough) }) (λ e. omega (arith, e)) (λ e. omega (arith, e)) (λ e. omega (arith, e)) (drop_leaf 16 pairs fits) sep pair;
              split = λ enough. (sep, (some, omega (arith, enough)));
            }

    inner_good : (number version : ℕ) (n : Node) → HasPlace number → FitsNode n → (g : Growth) → FitsGrowth low g → (s : Option (List ℕ × ℕ)) → g.split ≡ s → FitsGrowth low (grown_inner bucket number version n g.rows g.next s)
    unfolding grown_inner split_inner
    inner_good number version (node.Inner seps kids) place fits g w (Some split) is = by (nat_lt (length seps) 32) refl
      where
        set : g.next ≤ 1048576 → FitsKey split.0 × FitsChild split.1
        set enough = subst (λ o. IfSome o (λ s. FitsKey s.0 × FitsChild s.1)) is (w.split enough)

        by : (t : Bool) → nat_lt (length seps) 32 ≡ t
            → FitsGrowth low (cond {A = Growth} t (record { rows = g.rows ++ row_of bucket number (version + 1) (rec.Link split.0 split.1) ∷ []; next = g.next; split = None })
            (split_inner bucket number version seps kids (unwrap_or (slice_get seps 16) []) g.rows g.next split.0 split.1))
        by true e = record {
          ordered = w.ordered;
          rows = λ enough. all_append IsGood g.rows _ (w.rows enough) (one_good number (version + 1) (rec.Link split.0 split.1) (omega arith) place (λ e. omega (arith, e)) (set enough), tt);
          split = λ enough. tt;
        }
        by false e =
            let many = ltb-false (length seps) 32 e in
            let p = parted 16 seps (omega (arith, many)) in
            let middle : FitsKey (unwrap_or (slice_get seps 16) []) = subst FitsKey (sym (ap (λ o. unwrap_or o []) p.at)) (item_fits FitsKey 16 seps p fits.3) in
            let ordered = w.ordered in
            record {
              ordered = omega (arith, ordered);
              rows = λ enough. all_append IsGood g.rows _ (w.rows (omega (arith, enough)))
                  (split_good number version g.next (rec.InnerImage (drop 17 seps) (drop 17 kids)) (rec.CutInner (unwrap_or (slice_get seps 16) [])) (rec.Link split.0 split.1) (is_below split.0 (unwrap_or (slice_get seps 16) []))
                  place (record { above = omega (arith, some, ordered); small = omega (arith, enough) }) (λ e. omega (arith, e)) (λ e. omega (arith, e)) (λ e. omega (arith, e))
                  (drop_inner 17 seps kids (omega (arith, many)) fits) middle (set (omega (arith, enough))));
              split = λ enough. (middle, (omega (arith, some, ordered), omega (arith, enough)));
            }
    inner_good number version (node.Inner seps kids) place fits g w None is = record { ordered = w.ordered; rows = w.rows; split = λ enough. tt }
    inner_good number version (node.Head root n d) place fits g w s is = record { ordered = w.ordered; rows = w.rows; split = λ enough. tt }
    inner_good number version (node.Leaf pairs) place fits g w s is = record { ordered = w.ordered; rows = w.rows; split = λ enough. tt }
    inner_good number version node.Broken place fits g w s is = record { ordered = w.ordered; rows = w.rows; split = λ enough. tt }

    module _ (nodes : ℕ → Content) (fits : (n : ℕ) → FitsNode (nodes n).0) (small : low ≤ 1048576) (root next' depth : ℕ) (head : (nodes 0).0 ≡ node.Head root next' depth) where
      -- on a way that is fit
      pub growth_good : (height : ℕ) (bounds : Bounds) (number : ℕ) → number < low → unfit_from height bucket nodes low key bounds number ≡ None → FitsGrowth low (growth height bucket nodes low (key, value) number)
      unfolding growth unfit_from
      growth_good zero bounds number below fit =
          leaf_good number (nodes number).1 (pairs_of (nodes number).0) (leaf_place nodes bucket low key small root next' depth head bounds number below (passed (is_leaf bucket bounds (nodes number).0) None number fit).0)
          (pairs_fit (nodes number).0 (fits number))
      growth_good (suc height) bounds number below fit =
          let kid = kid_at (nodes number).0 (place_among key (seps_of (nodes number).0)) in
          let inside = bounds_at bounds (seps_of (nodes number).0) (place_among key (seps_of (nodes number).0)) in
          let p = passed (is_inner bounds low (nodes number).0) (unfit_from height bucket nodes low key inside kid) number fit in
          let g = growth height bucket nodes low (key, value) (child_for key (nodes number).0) in
          inner_good number (nodes number).1 (nodes number).0 (inner_place nodes bucket low key small root next' depth head bounds number below p.0) (fits number) g
          (subst (λ k. FitsGrowth low (growth height bucket nodes low (key, value) k)) (sym (child_is key (nodes number).0))
          (growth_good height inside kid (kid_below bounds low (place_among key (seps_of (nodes number).0)) (nodes number).0 p.0 some) p.1)) g.split refl
