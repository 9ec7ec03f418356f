-- The way down, one node after the other.
use Rattle.std.proofs.Common.{◌≡◌, ℕ, zero, suc, ◌-◌, ◌<◌, true, false, cond, List, [], ◌∷◌, Option, Some, None, Result, Ok, Err, refl, sym, ap, subst, ◌∙◌, arith, slice_get}
use Rattle.std.specs.Prelude.{Contains}
use Rattle.fine_model.specs.declared.FetchFault.{FetchFault}
use Rattle.fine_model.specs.declared.Row.{Row}
use Rattle.fine_model.specs.Nodes.{Content}
use Rattle.fine_model.specs.Paths.{is_inner, place_among, bounds_at, seps_of, kid_at, unfit_from}
use Rattle.fine_model.specs.Pushed.{leaf_for, child_for}
use Rattle.fine_model.specs.Trees.{Bounds, is_leaf}
use Rattle.fine_model.specs.declared.Node.{Node}
use Rattle.fine_model.specs.declared.Node.TheVariants as node
use Rattle.node_cache.specs.Cache.{Cache}
use Rattle.btree_nodes.specs.declared.descent.Sep.{Sep}
use Rattle.btree_nodes.specs.declared.descent.Step.{Step}
use Rattle.btree_nodes.specs.declared.fault.TreeFault.{TreeFault}
use Rattle.btree_nodes.specs.declared.fault.TreeFault.TheVariants.{Source, Unfit, BucketFull, Number, NoMemory}
use Rattle.node_cache.specs.Given.{Finds, given, IsCached, IsLoaded}
use Rattle.btree_nodes.specs.Descent.{bound_at, bounds_by, AreKept, IsStep}
use Rattle.btree_nodes.specs.Descends.{IsWay, IsUnfit, Descends}
use Rattle.btree_nodes.specs.Trees.{way, way_from, way_in, LoadsAmong, last_used, AreUsed}
use Rattle.btree_nodes.proofs.Loads.{loaded_given, loaded_kept, contains_first, contains_one, among_more, among_on}

module _ (b : Cache) (next : ℕ) (key : List ℕ) (bounds : Bounds) (number : ℕ) where
  -- the way ends at a fit leaf
  pub way_leaf : (height : ℕ) → height ≡ 0 → is_leaf b.bucket bounds (given b number).0 ≡ true → IsCached b number → IsWay b height next key bounds number number
  unfolding unfit_from leaf_for
  way_leaf zero ground leaf here = record { fit = ap (λ t. cond t None (Some number)) leaf; ends = refl; there = here }
  way_leaf (suc height) ground leaf here = absurd (omega (arith, ground))

  pub unfit_leaf : (height bucket : ℕ) → height ≡ 0 → bucket ≡ b.bucket → is_leaf b.bucket bounds (given b number).0 ≡ false → IsCached b number → IsUnfit b height next key bounds number bucket number
  unfolding unfit_from
  unfit_leaf zero bucket ground of leaf here = record { of_bucket = of; first = ap (λ t. cond t None (Some number)) leaf; there = here }
  unfit_leaf (suc height) bucket ground of leaf here = absurd (omega (arith, ground))

  pub unfit_inner : (height bucket : ℕ) → 0 < height → bucket ≡ b.bucket → is_inner bounds next (given b number).0 ≡ false → IsCached b number → IsUnfit b height next key bounds number bucket number
  unfolding unfit_from
  unfit_inner zero bucket above of inner here = absurd (omega (arith, above))
  unfit_inner (suc height) bucket above of inner here = record {
    of_bucket = of;
    first = ap (λ t. cond t (unfit_from height b.bucket (given b) next key (bounds_at bounds (seps_of (given b number).0) (place_among key (seps_of (given b number).0))) (kid_at (given b number).0 (place_among key (seps_of (given b number).0)))) (Some number)) inner;
    there = here;
  }

pub child_is : (key : List ℕ) (n : Node) → child_for key n ≡ kid_at n (place_among key (seps_of n))
child_is key (node.Inner seps kids) = refl
child_is key (node.Head root next depth) = refl
child_is key (node.Leaf pairs) = refl
child_is key node.Broken = refl

module _ (b : Cache) (next : ℕ) (key : List ℕ) (low high : Option Sep) (number : ℕ) (s : Step) (is : IsStep (given b) next key (bounds_by (given b) low high) (given b number).0 s) where
  -- a way from the child is one from its parent
  on : (height : ℕ) → unfit_from (suc height) b.bucket (given b) next key (bounds_by (given b) low high) number ≡ unfit_from height b.bucket (given b) next key (bounds_by (given b) s.low s.high) s.number
  unfolding unfit_from
  on height =
      ap (λ t. cond t (unfit_from height b.bucket (given b) next key (bounds_at (bounds_by (given b) low high) (seps_of (given b number).0) (place_among key (seps_of (given b number).0))) (kid_at (given b number).0 (place_among key (seps_of (given b number).0)))) (Some number)) is.good
      ∙ (λ i. unfit_from height b.bucket (given b) next key (sym is.within i) (sym is.number i))

  leaf_on : (height : ℕ) → leaf_for (suc height) (given b) key number ≡ leaf_for height (given b) key s.number
  unfolding leaf_for
  leaf_on height = ap (leaf_for height (given b) key) (child_is key (given b number).0 ∙ sym is.number)

  pub descends_on : (height : ℕ) (Failed Failed' : FetchFault → Type 0) → ((f : FetchFault) → Failed f → Failed' f) → 0 < height → (r : Result ℕ TreeFault)
      → Descends b (height - 1) next key (bounds_by (given b) s.low s.high) s.number Failed r → Descends b height next key (bounds_by (given b) low high) number Failed' r
  descends_on zero F G fails above r h = absurd (omega arith)
  descends_on (suc height) F G fails above r h = by r (subst (λ k. Descends b k next key (bounds_by (given b) s.low s.high) s.number F r) (let e : suc height - 1 ≡ height = omega arith in e) h)
    where
      by : (r : Result ℕ TreeFault) → Descends b height next key (bounds_by (given b) s.low s.high) s.number F r → Descends b (suc height) next key (bounds_by (given b) low high) number G r
      by (Ok leaf) h = record { fit = on height ∙ h.fit; ends = h.ends ∙ sym (leaf_on height); there = h.there }
      by (Err (Source f)) h = fails f h
      by (Err (Unfit id)) h = record { of_bucket = h.of_bucket; first = on height ∙ h.first; there = h.there }
      by (Err (BucketFull m d)) h = h
      by (Err (Number id)) h = h
      by (Err NoMemory) h = h

-- a step is one as well once more nodes are loaded
module _ (tells : List Row → Type 0) (finds : Finds) (upper : ℕ) (b c : Cache) (loaded : IsLoaded tells finds upper b c) where
  pub bound_stays : (sep : Option Sep) → AreKept b sep → bound_at (given c) sep ≡ bound_at (given b) sep
  bound_stays None kept = refl
  bound_stays (Some at) kept = ap (λ n. slice_get (seps_of n.0) at.place) (loaded_given tells finds upper b c loaded at.number kept)

  pub kept_stays : (sep : Option Sep) → AreKept b sep → AreKept c sep
  kept_stays None kept = tt
  kept_stays (Some at) kept = loaded_kept tells finds upper b c loaded at.number kept

  pub step_stays : (next : ℕ) (key : List ℕ) (low high : Option Sep) (number : ℕ) (s : Step) → IsCached b number → AreKept b low → AreKept b high → AreKept b s.low → AreKept b s.high
      → IsStep (given b) next key (bounds_by (given b) low high) (given b number).0 s → IsStep (given c) next key (bounds_by (given c) low high) (given c number).0 s
  step_stays next key low high number s here low_kept high_kept low_kept' high_kept' is =
      subst (λ n. IsStep (given c) next key (bounds_by (given c) low high) n s) (sym (ap (λ k. k.0) (loaded_given tells finds upper b c loaded number here)))
      (subst (λ bounds. IsStep (given c) next key bounds (given b number).0 s) (λ i. record { low = sym (bound_stays low low_kept) i; high = sym (bound_stays high high_kept) i })
      (record { good = is.good; number = is.number; small = is.small; within = (λ i. record { low = bound_stays s.low low_kept' i; high = bound_stays s.high high_kept' i }) ∙ is.within }))

-- the step from a node that is reached is one still behind the descent from its child
pub step_behind : (tells tells' : List Row → Type 0) (finds finds' : Finds) (upper upper' : ℕ) (a b c : Cache) → IsLoaded tells finds upper a b → IsLoaded tells' finds' upper' b c
    → (next : ℕ) (key : List ℕ) (low high : Option Sep) (number : ℕ) (s : Step) → AreKept a low → AreKept a high → IsCached b number → AreKept b s.low × AreKept b s.high
    → IsStep (given b) next key (bounds_by (given b) low high) (given b number).0 s → IsStep (given c) next key (bounds_by (given c) low high) (given c number).0 s
step_behind tells tells' finds finds' upper upper' a b c reached loaded next key low high number s low_kept high_kept here kept is =
    step_stays tells' finds' upper' b c loaded next key low high number s here (kept_stays tells finds upper a b reached low low_kept) (kept_stays tells finds upper a b reached high high_kept) kept.0 kept.1 is

-- ---- what was loaded lies on the way

module _ (b c : Cache) (nodes : ℕ → Content) (key : List ℕ) where
  -- a number lies on the way down from it
  pub among_first : (height number : ℕ) → LoadsAmong b c (number ∷ []) → LoadsAmong b c (way height nodes key number)
  unfolding way
  among_first zero number among = among
  among_first (suc height) number among =
      among_more b c (number ∷ []) (way (suc height) nodes key number) (λ n on. subst (Contains (way (suc height) nodes key number)) (sym (contains_one number n on)) (contains_first number _)) among

  pub among_head : (n : Node) → LoadsAmong b c (0 ∷ []) → LoadsAmong b c (way_from nodes key n)
  among_head (node.Head root next depth) among =
      among_more b c (0 ∷ []) (0 ∷ way (depth - 1) nodes key root) (λ n on. subst (Contains (0 ∷ way (depth - 1) nodes key root)) (sym (contains_one 0 n on)) (contains_first 0 _)) among
  among_head (node.Leaf pairs) among = among
  among_head (node.Inner seps kids) among = among
  among_head node.Broken among = among

-- a number and then the way down from its child
way_step : (c : Cache) (key : List ℕ) (height number kid : ℕ) → 0 < height → kid ≡ kid_at (given c number).0 (place_among key (seps_of (given c number).0)) → way height (given c) key number ≡ number ∷ way (height - 1) (given c) key kid
unfolding way
way_step c key zero number kid above is = absurd (omega arith)
way_step c key (suc height) number kid above is =
    let e : height ≡ suc height - 1 = omega arith in
    (λ i. number ∷ way (e i) (given c) key (sym is i))

pub among_step : (a b c : Cache) (key : List ℕ) (height number kid : ℕ) → 0 < height → kid ≡ kid_at (given c number).0 (place_among key (seps_of (given c number).0)) → LoadsAmong a b (number ∷ []) → LoadsAmong b c (way (height - 1) (given c) key kid) → LoadsAmong a c (way height (given c) key number)
among_step a b c key height number kid above is first rest =
    subst (LoadsAmong a c) (sym (way_step c key height number kid above is)) (among_on a b c number (way (height - 1) (given c) key kid) first rest)

-- ---- what was used

pub used_first : (a b : Cache) (nodes : ℕ → Content) (key : List ℕ) (height number : ℕ) → height ≡ 0 → AreUsed a b (number ∷ []) → AreUsed a b (way height nodes key number)
unfolding way
used_first a b nodes key zero number ground first = first
used_first a b nodes key (suc height) number ground first = absurd (omega arith)

-- one number, and then others
pub used_then : (a b c : Cache) (number : ℕ) (rest : List ℕ) → AreUsed a b (number ∷ []) → AreUsed b c rest → AreUsed a c (number ∷ rest)
used_then a b c number rest first then_rest = then_rest ∙ ap (λ ks. last_used ks rest) first

pub used_step : (a b c : Cache) (key : List ℕ) (height number kid : ℕ) → 0 < height → kid ≡ kid_at (given c number).0 (place_among key (seps_of (given c number).0)) → AreUsed a b (number ∷ [])
    → AreUsed b c (way (height - 1) (given c) key kid) → AreUsed a c (way height (given c) key number)
used_step a b c key height number kid above is first rest =
    subst (AreUsed a c) (sym (way_step c key height number kid above is)) (used_then a b c number (way (height - 1) (given c) key kid) first rest)

pub used_under : (a b c : Cache) (key : List ℕ) (root next depth : ℕ) → (given c 0).0 ≡ node.Head root next depth → AreUsed a b (0 ∷ []) → AreUsed b c (way (depth - 1) (given c) key root) → AreUsed a c (way_in c key)
used_under a b c key root next depth is first rest =
    subst (λ n. AreUsed a c (way_from (given c) key n)) (sym is) (used_then a b c 0 (way (depth - 1) (given c) key root) first rest)
