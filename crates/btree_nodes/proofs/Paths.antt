-- From the head of a tree on.
use Rattle.std.proofs.Common.{◌≡◌, ℕ, zero, suc, ◌-◌, ◌<◌, ◌≤◌, nat_lt, nat_le, Bool, true, false, cond, ◌&&◌, List, [], ◌∷◌, slice_index, true≢false, Some, None, Err, refl, sym, ap, subst, ◌∙◌, arith, lt-ltb, le-leb, ltb-true}
use Rattle.std.specs.List.{list_all}
use Rattle.fine_model.specs.declared.FetchFault.{FetchFault}
use Rattle.fine_model.specs.declared.Node.{Node}
use Rattle.fine_model.specs.declared.Node.TheVariants as node
use Rattle.fine_model.specs.declared.Row.{Row}
use Rattle.fine_model.specs.Nodes.{Content}
use Rattle.fine_model.specs.Paths.{is_inner, place_among, bounds_at, seps_of, kid_at, unfit_from, unfit_under}
use Rattle.fine_model.specs.Pushed.{leaf_for, pairs_beside}
use Rattle.fine_model.specs.Trees.{Bounds, whole, bucket_of, is_leaf, kids_of, pairs_of}
use Rattle.fine_model.proofs.Trees.CallLaw.{bucket_below}
use Rattle.fine_model.proofs.Ordered.Order.{first_of_both}
use Rattle.node_cache.specs.Cache.{Cache}
use Rattle.btree_nodes.specs.declared.fault.TreeFault.{TreeFault}
use Rattle.btree_nodes.specs.declared.fault.TreeFault.TheVariants.{Source, Unfit, BucketFull, Number, NoMemory}
use Rattle.btree_nodes.specs.declared.tree.Path.{Path}
use Rattle.btree_nodes.specs.Faults.{OnFault}
use Rattle.node_cache.specs.Given.{Finds, given, IsCached, IsLoaded}
use Rattle.btree_nodes.specs.Descends.{IsWay, Descends}
use Rattle.btree_nodes.specs.Trees.{pairs_in, HeadIs, IsPath, unfit_in, way, way_from, LoadsAmong, LoadsOnWay}
use Rattle.btree_nodes.proofs.Loads.{among_on, loaded_given}
use Rattle.btree_nodes.specs.Calls.{IsFirstUnfit}
use Rattle.btree_nodes.proofs.ScanSteps.{inner_is}
use Rattle.btree_nodes.proofs.Sound.{passed}
use Rattle.btree_nodes.proofs.Ways.{child_is}

-- the bucket of a key is one of all buckets
pub key_bucket : (bucket : ℕ) (key : List ℕ) → bucket ≡ bucket_of key → bucket < 256
key_bucket bucket key of = subst (λ (k : ℕ). k < 256) (sym of) (bucket_below key)

-- what a head says
pub record SaysHead (n : Node) (root next depth : ℕ) : Type 0 where
  pub is : n ≡ node.Head root next depth
  pub below : root < next
  pub deep : (1 ≤ depth) × (depth ≤ 8)
  pub small : next ≤ 1048576

pub head_some : (n : Node) (h : ℕ × ℕ × ℕ) → HeadIs n (Some h) → SaysHead n h.0 h.1 h.2
head_some (node.Head root next depth) h is = subst (λ t. SaysHead (node.Head root next depth) t.0 t.1 t.2) (sym is.0) (record { is = refl; below = is.1; deep = (is.2, is.3); small = is.4 })
head_some (node.Leaf pairs) h is = absurd is
head_some (node.Inner seps kids) h is = absurd is
head_some node.Broken h is = absurd is

-- and once more nodes are loaded
pub head_behind : (tells : List Row → Type 0) (finds : Finds) (upper : ℕ) (b c : Cache) → IsLoaded tells finds upper b c → (root next depth : ℕ) → IsCached b 0 → HeadIs (given b 0).0 (Some (root, next, depth)) → SaysHead (given c 0).0 root next depth
head_behind tells finds upper b c loaded root next depth here is =
    subst (λ (n : Content). SaysHead n.0 root next depth) (sym (loaded_given tells finds upper b c loaded 0 here)) (head_some (given b 0).0 (root, next, depth) is)

pub not_lower : (a b : ℕ) → b ≤ a → nat_lt a b ≡ false
not_lower a b le = by (nat_lt a b) refl
  where
    by : (t : Bool) → nat_lt a b ≡ t → t ≡ false
    by true e = absurd (let l = ltb-true a b e in omega (arith, l, le))
    by false e = refl

pub head_none : (bucket : ℕ) (nodes : ℕ → Content) (key : List ℕ) (n : Node) → HeadIs n None → unfit_under bucket nodes key n ≡ Some 0
unfolding unfit_under
head_none bucket nodes key (node.Head root next depth) is = ap (λ t. cond (t && nat_le 1 depth) (unfit_from (depth - 1) bucket nodes next key whole root) (Some 0)) (not_lower root next is)
head_none bucket nodes key (node.Leaf pairs) is = refl
head_none bucket nodes key (node.Inner seps kids) is = refl
head_none bucket nodes key node.Broken is = refl

-- the way from the head is the one from the root
pub under_head : (bucket : ℕ) (nodes : ℕ → Content) (key : List ℕ) (n : Node) (root next depth : ℕ) → SaysHead n root next depth → unfit_under bucket nodes key n ≡ unfit_from (depth - 1) bucket nodes next key whole root
unfolding unfit_under
under_head bucket nodes key n root next depth says =
    ap (unfit_under bucket nodes key) says.is
    ∙ ap (λ t. cond (t && nat_le 1 depth) (unfit_from (depth - 1) bucket nodes next key whole root) (Some 0)) (lt-ltb root next says.below)
    ∙ ap (λ t. cond t (unfit_from (depth - 1) bucket nodes next key whole root) (Some 0)) (le-leb 1 depth says.deep.0)

module _ (b : Cache) (key : List ℕ) (root next depth : ℕ) (here : IsCached b 0) (says : SaysHead (given b 0).0 root next depth) where
  under : unfit_in b key ≡ unfit_from (depth - 1) b.bucket (given b) next key whole root
  under = under_head b.bucket (given b) key (given b 0).0 root next depth says

  pub way_path : (leaf : ℕ) → b.bucket ≡ bucket_of key → IsWay b (depth - 1) next key whole root leaf → IsPath b key (record { root = root; next = next; depth = depth; leaf = leaf })
  way_path leaf of way = record { of_key = of; below = says.below; here = here; head = says.is; deep = says.deep; small = says.small; fit = under ∙ way.fit; leaf = way.ends; there = way.there }

  pub fault_under : (F G : FetchFault → Type 0) → ((f : FetchFault) → F f → G f) → (e : TreeFault) → Descends b (depth - 1) next key whole root F (Err e) → OnFault e G (IsFirstUnfit b key) (Unit {0})
  fault_under F G on (Source f) h = on f h
  fault_under F G on (Unfit id) h = record { of_bucket = h.of_bucket; first = under ∙ h.first; there = h.there }
  fault_under F G on (BucketFull m d) h = h
  fault_under F G on (Number id) h = h
  fault_under F G on NoMemory h = tt

-- what was loaded from a head down lies on the way
pub way_from_head : (a b c : Cache) (key : List ℕ) (root next depth : ℕ) → SaysHead (given c 0).0 root next depth → LoadsAmong a b (0 ∷ []) → LoadsAmong b c (way (depth - 1) (given c) key root) → LoadsOnWay a c key
way_from_head a b c key root next depth says first rest =
    subst (λ n. LoadsAmong a c (way_from (given c) key n)) (sym says.is) (among_on a b c 0 (way (depth - 1) (given c) key root) first rest)

-- the pairs beside a key are those of its leaf
pub path_pairs : (b : Cache) (key : List ℕ) (path : Path) → IsPath b key path → pairs_in b key ≡ pairs_of (given b path.leaf).0
unfolding pairs_beside
path_pairs b key path is = ap (pairs_beside (given b) key) is.head ∙ ap (λ n. pairs_of (given b n).0) (sym is.leaf)

-- ---- the numbers on a fit way

-- a number of a node that is not the head
pub record HasPlace (number : ℕ) : Type 0 where
  pub above : 1 ≤ number
  pub small : number < 1048576

index_below : (kids : List ℕ) (i next : ℕ) → list_all (λ kid. nat_lt kid next) kids ≡ true → 0 < next → slice_index kids i < next
index_below [] i next all some = some
index_below (kid ∷ kids) zero next all some = ltb-true kid next (first_of_both (nat_lt kid next) (list_all (λ k. nat_lt k next) kids) all).0
index_below (kid ∷ kids) (suc i) next all some = index_below kids i next (first_of_both (nat_lt kid next) (list_all (λ k. nat_lt k next) kids) all).1 some

-- the child of a fit inner node is below next
pub kid_below : (bounds : Bounds) (next i : ℕ) (n : Node) → is_inner bounds next n ≡ true → 0 < next → kid_at n i < next
kid_below bounds next i n inner some = by n (inner_is bounds next n inner).below
  where
    by : (n : Node) → list_all (λ kid. nat_lt kid next) (kids_of n) ≡ true → kid_at n i < next
    by (node.Inner seps kids) all = index_below kids i next all some
    by (node.Head root next' depth) all = some
    by (node.Leaf pairs) all = some
    by node.Broken all = some

module _ (nodes : ℕ → Content) (bucket next : ℕ) (key : List ℕ) (small : next ≤ 1048576) (root next' depth : ℕ) (head : (nodes 0).0 ≡ node.Head root next' depth) where
  not_head : (P : Node → Bool) → P (node.Head root next' depth) ≡ false → (number : ℕ) → number < next → P (nodes number).0 ≡ true → HasPlace number
  not_head P out zero below fit = absurd (true≢false (sym fit ∙ ap P head ∙ out))
  not_head P out (suc number) below fit = record { above = omega arith; small = omega arith }

  pub leaf_place : (bounds : Bounds) (number : ℕ) → number < next → is_leaf bucket bounds (nodes number).0 ≡ true → HasPlace number
  leaf_place bounds number below leaf = not_head (is_leaf bucket bounds) refl number below leaf

  pub inner_place : (bounds : Bounds) (number : ℕ) → number < next → is_inner bounds next (nodes number).0 ≡ true → HasPlace number
  inner_place bounds number below inner = not_head (is_inner bounds next) refl number below inner

  -- the leaf at the end of a fit way
  pub leaf_end : (height : ℕ) (bounds : Bounds) (number : ℕ) → number < next → unfit_from height bucket nodes next key bounds number ≡ None → HasPlace (leaf_for height nodes key number)
  unfolding unfit_from leaf_for
  leaf_end zero bounds number below fit = leaf_place bounds number below (passed (is_leaf bucket bounds (nodes number).0) None number fit).0
  leaf_end (suc height) bounds number below fit =
      let kid = kid_at (nodes number).0 (place_among key (seps_of (nodes number).0)) in
      let p = passed (is_inner bounds next (nodes number).0) (unfit_from height bucket nodes next key (bounds_at bounds (seps_of (nodes number).0) (place_among key (seps_of (nodes number).0))) kid) number fit in
      subst (λ k. HasPlace (leaf_for height nodes key k)) (sym (child_is key (nodes number).0))
      (leaf_end height (bounds_at bounds (seps_of (nodes number).0) (place_among key (seps_of (nodes number).0))) kid (kid_below bounds next (place_among key (seps_of (nodes number).0)) (nodes number).0 p.0 (omega arith)) p.1)

-- the leaf of a path
pub path_leaf : (b : Cache) (key : List ℕ) (path : Path) → IsPath b key path → HasPlace path.leaf
path_leaf b key path is =
    subst HasPlace (sym is.leaf) (leaf_end (given b) b.bucket path.next key is.small path.root path.next path.depth is.head (path.depth - 1) whole path.root is.below
    (sym (under_head b.bucket (given b) key (given b 0).0 path.root path.next path.depth (record { is = is.head; below = is.below; deep = is.deep; small = is.small })) ∙ is.fit))
