-- On sound rows, the way that a bucket gives is the way in the rows' tree.
use Rattle.std.proofs.Common.{◌≡◌, ◌≢◌, ◌⊎◌, ℕ, zero, suc, ◌+◌, ◌∷◌, ◌-◌, nat_lt, nat_le, inl, inr, ⊎_elim, Bool, true, false, cond, ◌&&◌, List, [], ◌++◌, Option, Some, None, is_some, refl, sym, ap, subst, ◌∙◌, true≢false}
use Rattle.std.specs.Prelude.{IsSome, option_map, unwrap_or}
use Rattle.fine_model.specs.declared.Row.{Row}
use Rattle.fine_model.specs.declared.Rec.{Rec}
use Rattle.fine_model.specs.declared.Node.{Node}
use Rattle.fine_model.specs.declared.Node.TheVariants as node
use Rattle.fine_model.specs.declared.NodeId.{NodeId}
use Rattle.fine_model.specs.Map.{get}
use Rattle.fine_model.specs.Nodes.{Content}
use Rattle.fine_model.specs.Paths.{is_inner, place_among, bounds_at, seps_of, kid_at, unfit_from, unfit_under}
use Rattle.fine_model.specs.Pushed.{Push, row_of, leaf_for, leaf_push, child_for, pairs_beside}
use Rattle.fine_model.specs.Trees.{Bounds, whole, is_leaf, bucket_of, nodes_of, pairs_of, IsSound, map_of}
use Rattle.fine_model.proofs.Trees.FitPaths.{fit_law}
use Rattle.fine_model.proofs.Histories.Stated.{leaf_law}
use Rattle.node_cache.specs.declared.cached.Cached.{Cached}
use Rattle.node_cache.specs.Cache.{Cache, cached}
use Rattle.node_cache.specs.Given.{given, IsCached}
use Rattle.btree_nodes.specs.Trees.{Holds, unfit_in, pairs_in}
use Rattle.btree_nodes.specs.Calls.{IsFirstUnfit}
use Rattle.btree_nodes.proofs.Ways.{child_is}

-- what a bucket does not have it gives as broken
pub cached_of_whole : (b : Cache) (n : ℕ) → (given b n).0 ≢ node.Broken → IsCached b n
unfolding given
cached_of_whole b n fine = by (cached b n) refl fine
  where
    of : Option Cached → Content
    of o = unwrap_or (option_map (λ k. (k.node, k.version)) o) (node.Broken, 0)

    by : (o : Option Cached) → cached b n ≡ o → (of o).0 ≢ node.Broken → IsSome (cached b n)
    by None is fine = absurd (fine refl)
    by (Some kept) is fine = ap is_some is

pub leaf_whole : (bucket : ℕ) (bounds : Bounds) (n : Node) → is_leaf bucket bounds n ≡ true → n ≢ node.Broken
leaf_whole bucket bounds n leaf broken = true≢false (sym leaf ∙ ap (is_leaf bucket bounds) broken)

pub inner_whole : (bounds : Bounds) (next : ℕ) (n : Node) → is_inner bounds next n ≡ true → n ≢ node.Broken
inner_whole bounds next n inner broken = true≢false (sym inner ∙ ap (is_inner bounds next) broken)

-- a test that is passed on the way to nothing unfit
pub passed : (t : Bool) (r : Option ℕ) (n : ℕ) → cond t r (Some n) ≡ None → (t ≡ true) × (r ≡ None)
passed true r n is = (refl, is)
passed false r n is = cc

none_some : {A : Type 0} {x : A} → None ≡ Some x → ⊥
none_some e = true≢false (sym (ap is_some e))

some_none : {A : Type 0} {x : A} → Some x ≡ None → ⊥
some_none e = true≢false (ap is_some e)

-- a way that ends at something unfit
either : (t : Bool) (r : Option ℕ) (n u : ℕ) → cond t r (Some n) ≡ Some u → ((t ≡ true) × (r ≡ Some u)) ⊎ ((t ≡ false) × (n ≡ u))
either true r n u is = inl (refl, is)
either false r n u is = inr (refl, cc)

module _ (b : Cache) (nodes : ℕ → Content) (agrees : (n : ℕ) → IsCached b n → (nodes n).0 ≢ node.Broken → given b n ≡ nodes n) (bucket next : ℕ) (key : List ℕ) where
  -- the child's way, by a node's content
  abbrev pub rest : ℕ → (ℕ → Content) → Bounds → Node → Option ℕ
  rest height from bounds n = unfit_from height bucket from next key (bounds_at bounds (seps_of n) (place_among key (seps_of n))) (kid_at n (place_among key (seps_of n)))

  -- both ways end at the same leaf
  pub record SameWay (height number : ℕ) : Type 0 where
    pub leaf : leaf_for height (given b) key number ≡ leaf_for height nodes key number
    pub same : given b (leaf_for height (given b) key number) ≡ nodes (leaf_for height nodes key number)

  pub way_same : (height : ℕ) (bounds : Bounds) (number : ℕ) → unfit_from height bucket nodes next key bounds number ≡ None → unfit_from height bucket (given b) next key bounds number ≡ None → SameWay height number
  unfolding unfit_from leaf_for
  way_same zero bounds number fit fit' =
      let leaf = leaf_whole bucket bounds (nodes number).0 (passed (is_leaf bucket bounds (nodes number).0) None number fit).0 in
      let here = cached_of_whole b number (leaf_whole bucket bounds (given b number).0 (passed (is_leaf bucket bounds (given b number).0) None number fit').0) in
      record { leaf = refl; same = agrees number here leaf }
  way_same (suc height) bounds number fit fit' =
      let there = passed (is_inner bounds next (nodes number).0) (rest height nodes bounds (nodes number).0) number fit in
      let here = passed (is_inner bounds next (given b number).0) (rest height (given b) bounds (given b number).0) number fit' in
      let same = agrees number (cached_of_whole b number (inner_whole bounds next (given b number).0 here.0)) (inner_whole bounds next (nodes number).0 there.0) in
      let kid = kid_at (nodes number).0 (place_among key (seps_of (nodes number).0)) in
      let below = way_same height (bounds_at bounds (seps_of (nodes number).0) (place_among key (seps_of (nodes number).0))) kid there.1 (subst (λ n. rest height (given b) bounds n.0 ≡ None) same here.1) in
      let mine : child_for key (given b number).0 ≡ kid = child_is key (given b number).0 ∙ ap (λ n. kid_at n.0 (place_among key (seps_of n.0))) same in
      let theirs : child_for key (nodes number).0 ≡ kid = child_is key (nodes number).0 in
      record {
        leaf = ap (leaf_for height (given b) key) mine ∙ below.leaf ∙ ap (leaf_for height nodes key) (sym theirs);
        same = ap (λ k. given b (leaf_for height (given b) key k)) mine ∙ below.same ∙ ap (λ k. nodes (leaf_for height nodes key k)) (sym theirs);
      }

  pub no_unfit : (height : ℕ) (bounds : Bounds) (number u : ℕ) → unfit_from height bucket nodes next key bounds number ≡ None → unfit_from height bucket (given b) next key bounds number ≡ Some u → IsCached b u → ⊥
  unfolding unfit_from
  no_unfit zero bounds number u fit unfit here =
      let good = (passed (is_leaf bucket bounds (nodes number).0) None number fit).0 in
      ⊎_elim (λ p. absurd (none_some p.1))
      (λ p. true≢false (sym good ∙ ap (λ n. is_leaf bucket bounds n.0) (sym (agrees number (subst (IsCached b) (sym p.1) here) (leaf_whole bucket bounds (nodes number).0 good))) ∙ p.0))
      (either (is_leaf bucket bounds (given b number).0) None number u unfit)
  no_unfit (suc height) bounds number u fit unfit here =
      let good = passed (is_inner bounds next (nodes number).0) (rest height nodes bounds (nodes number).0) number fit in
      let whole = inner_whole bounds next (nodes number).0 good.0 in
      ⊎_elim
      (λ p. no_unfit height (bounds_at bounds (seps_of (nodes number).0) (place_among key (seps_of (nodes number).0))) (kid_at (nodes number).0 (place_among key (seps_of (nodes number).0))) u good.1
      (subst (λ n. rest height (given b) bounds n.0 ≡ Some u) (agrees number (cached_of_whole b number (inner_whole bounds next (given b number).0 p.0)) whole) p.1) here)
      (λ p. true≢false (sym good.0 ∙ ap (λ n. is_inner bounds next n.0) (sym (agrees number (subst (IsCached b) (sym p.1) here) whole)) ∙ p.0))
      (either (is_inner bounds next (given b number).0) (rest height (given b) bounds (given b number).0) number u unfit)

-- what the head of a sound tree is
pub record IsHead (bucket : ℕ) (nodes : ℕ → Content) (key : List ℕ) : Type 0 where
  pub root : ℕ
  pub next : ℕ
  pub depth : ℕ
  pub is : (nodes 0).0 ≡ node.Head root next depth
  pub test : (nat_lt root next && nat_le 1 depth) ≡ true
  pub fit : unfit_from (depth - 1) bucket nodes next key whole root ≡ None

pub head_of : (bucket : ℕ) (nodes : ℕ → Content) (key : List ℕ) → unfit_under bucket nodes key (nodes 0).0 ≡ None → IsHead bucket nodes key
unfolding unfit_under
head_of bucket nodes key fit = by (nodes 0).0 refl fit
  where
    by : (n : Node) → (nodes 0).0 ≡ n → unfit_under bucket nodes key n ≡ None → IsHead bucket nodes key
    by (node.Head root next depth) is fit =
        let p = passed (nat_lt root next && nat_le 1 depth) (unfit_from (depth - 1) bucket nodes next key whole root) 0 fit in
        record { root = root; next = next; depth = depth; is = is; test = p.0; fit = p.1 }
    by (node.Leaf pairs) is fit = absurd (some_none fit)
    by (node.Inner seps kids) is fit = absurd (some_none fit)
    by node.Broken is fit = absurd (some_none fit)

-- the nodes of a key's bucket
abbrev pub theirs : List Row → List ℕ → ℕ → Content
theirs rows key = nodes_of rows (bucket_of key)

module _ (rows : List Row) (key : List ℕ) (sound : IsSound rows) where
  abbrev nodes : ℕ → Content
  nodes = theirs rows key

  pub sound_head : IsHead (bucket_of key) nodes key
  sound_head = head_of (bucket_of key) nodes key (unmapped (unfit_under (bucket_of key) nodes key (nodes 0).0) (fit_law rows key sound))
    where
      named : Option ℕ → Option NodeId
      named o = option_map (λ number. record { bucket = bucket_of key; number = number }) o

      unmapped : (o : Option ℕ) → named o ≡ None → o ≡ None
      unmapped None e = refl
      unmapped (Some n) e = cc

  module _ (b : Cache) (of_key : b.bucket ≡ bucket_of key) (agrees : (n : ℕ) → IsCached b n → (nodes n).0 ≢ node.Broken → given b n ≡ nodes n) where
    pub head_same : IsCached b 0 → given b 0 ≡ nodes 0
    head_same here = agrees 0 here (λ broken. absurd (head_broken (sym sound_head.is ∙ broken)))
      where
        head_broken : node.Head sound_head.root sound_head.next sound_head.depth ≡ node.Broken → ⊥
        head_broken e = cc

    -- what the bucket says of the way is what it says from the root that the rows give
    pub from_root : IsCached b 0 → unfit_in b key ≡ unfit_from (sound_head.depth - 1) (bucket_of key) (given b) sound_head.next key whole sound_head.root
    unfolding unfit_under
    from_root here =
        ap (λ k. unfit_under k (given b) key (given b 0).0) of_key
        ∙ ap (unfit_under (bucket_of key) (given b) key) (ap (λ n. n.0) (head_same here) ∙ sound_head.is)
        ∙ ap (λ t. cond t (unfit_from (sound_head.depth - 1) (bucket_of key) (given b) sound_head.next key whole sound_head.root) (Some 0)) sound_head.test

    pub sound_same : IsCached b 0 → unfit_in b key ≡ None → SameWay b nodes agrees (bucket_of key) sound_head.next key (sound_head.depth - 1) sound_head.root
    sound_same here fit = way_same b nodes agrees (bucket_of key) sound_head.next key (sound_head.depth - 1) whole sound_head.root sound_head.fit (sym (from_root here) ∙ fit)

    -- the leaf has the pairs that it has in the rows' tree
    pub sound_pairs : IsCached b 0 → unfit_in b key ≡ None → pairs_in b key ≡ pairs_beside nodes key (nodes 0).0
    unfolding pairs_beside
    sound_pairs here fit =
        ap (pairs_beside (given b) key) (ap (λ n. n.0) (head_same here) ∙ sound_head.is)
        ∙ ap (λ n. pairs_of n.0) (sound_same here fit).same
        ∙ ap (pairs_beside nodes key) (sym sound_head.is)

    pub sound_value : IsCached b 0 → unfit_in b key ≡ None → get (pairs_in b key) key ≡ get (map_of rows) key
    sound_value here fit = ap (λ m. get m key) (sound_pairs here fit) ∙ sym (leaf_law rows key sound)

    -- a change of the key's leaf is the same row
    pub sound_leaf_push : (change : Rec) → IsCached b 0 → unfit_in b key ≡ None → leaf_push (bucket_of key) (given b) key change (given b 0).0 ≡ leaf_push (bucket_of key) nodes key change (nodes 0).0
    unfolding leaf_push
    sound_leaf_push change here fit =
        ap (leaf_push (bucket_of key) (given b) key change) (ap (λ n. n.0) (head_same here) ∙ sound_head.is)
        ∙ (λ i. let p : Push = record { rows = row_of (bucket_of key) ((sound_same here fit).leaf i) (((sound_same here fit).same i).1 + 1) change ∷ []; next = sound_head.next; depth = sound_head.depth } in p)
        ∙ ap (leaf_push (bucket_of key) nodes key change) (sym sound_head.is)

    pub sound_fit : (id : NodeId) → IsFirstUnfit b key id → ⊥
    unfolding unfit_under
    sound_fit id unfit = no_unfit b nodes agrees (bucket_of key) sound_head.next key (sound_head.depth - 1) whole sound_head.root id.number sound_head.fit (sym (from_root here) ∙ unfit.first) unfit.there
      where
        here : IsCached b 0
        here = by (given b 0).0 refl unfit.first
          where
            by : (n : Node) → (given b 0).0 ≡ n → unfit_under b.bucket (given b) key n ≡ Some id.number → IsCached b 0
            by (node.Head root next depth) is first = cached_of_whole b 0 (λ broken. let e = sym is ∙ broken in cc)
            by (node.Leaf pairs) is first = cached_of_whole b 0 (λ broken. let e = sym is ∙ broken in cc)
            by (node.Inner seps kids) is first = cached_of_whole b 0 (λ broken. let e = sym is ∙ broken in cc)
            by node.Broken is first = subst (IsCached b) (let e : id.number ≡ 0 = cc in e) unfit.there

-- a bucket that holds rows gives what they leave
pub holds_agrees : (b : Cache) (rows log : List Row) (key : List ℕ) → b.bucket ≡ bucket_of key → Holds b rows log → (n : ℕ) → IsCached b n → (theirs (rows ++ log) key n).0 ≢ node.Broken → given b n ≡ theirs (rows ++ log) key n
holds_agrees b rows log key of_key holds n here fine = holds.same n here ∙ ap (λ k. nodes_of (rows ++ log) k n) of_key
