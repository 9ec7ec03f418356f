-- What a scan loads and uses: the numbers that it visits, of which on sound rows none is one that the rows leave broken.
use Rattle.std.proofs.Common.{◌≡◌, ◌≢◌, ⊎_elim, ℕ, zero, suc, ◌+◌, ◌-◌, ◌<◌, ◌==◌, nat_lt, nat_le, ◌&&◌, not, Bool, true, false, cond, List, [], ◌∷◌, ◌++◌, drop, Some, None, Result, Ok, Err, refl, sym, ap, subst, ◌∙◌, arith, ne_eqb}
use Rattle.std.specs.Prelude.{Contains}
use Rattle.std.proofs.lemmas.List.Elements.{Contains-append_left, Contains-append_right, Contains-append_cases}
use Rattle.fine_model.specs.declared.Row.{Row}
use Rattle.fine_model.specs.declared.Node.{Node}
use Rattle.fine_model.specs.declared.Node.TheVariants as node
use Rattle.fine_model.specs.Map.{is_below}
use Rattle.fine_model.specs.Nodes.{Content}
use Rattle.fine_model.specs.Paths.{meets, is_inner, scan_from, seps_of}
use Rattle.fine_model.specs.Trees.{Bounds, whole, AllBetween, IsInner, IsSubtree, IsSound, kids_of, nodes_of}
use Rattle.fine_model.proofs.Trees.Buckets.{HasTree, has_tree}
use Rattle.node_cache.specs.Cache.{Cache, cached}
use Rattle.node_cache.specs.Given.{Finds, given, IsCached, IsLoaded}
use Rattle.btree_nodes.specs.declared.descent.Step.{Step}
use Rattle.btree_nodes.specs.Descent.{bounds_by}
use Rattle.btree_nodes.specs.Scans.{rest_bounds, visited_of}
use Rattle.btree_nodes.specs.Trees.{Serves, Holds, LoadsAmong, AreUsed, last_used, without}
use Rattle.btree_nodes.specs.Walks.{visited_kids, visited_from, visited_between, walk_in, LoadsOnWalk}
use Rattle.btree_nodes.proofs.Loads.{none_or_some, loaded_given, contains_first, contains_none, contains_one, contains_cases, among_more, among_both, among_on}
use Rattle.btree_nodes.proofs.Held.{agrees_loaded, holds_loaded}
use Rattle.btree_nodes.proofs.OnWays.{given_none, head_whole}
use Rattle.btree_nodes.proofs.Paths.{SaysHead}
use Rattle.btree_nodes.proofs.Scanned.{IsChildOf, cut_off}
use Rattle.btree_nodes.proofs.ScanHeads.{wants, open_head}
use Rattle.btree_nodes.proofs.ScanSteps.{first}
use Rattle.btree_nodes.proofs.Sound.{leaf_whole, cached_of_whole}
use Rattle.btree_nodes.proofs.Walked.{visit, visited_go, visited_stop, visited_none, walk_on, walk_part, same_walk}
use Rattle.btree_nodes.proofs.Ways.{used_then}

-- numbers that are used one after the other
last_used_append : (ks xs ys : List ℕ) → last_used ks (xs ++ ys) ≡ last_used (last_used ks xs) ys
last_used_append ks [] ys = refl
last_used_append ks (x ∷ xs) ys = last_used_append (without x ks ++ x ∷ []) xs ys

used_both : (a b c : Cache) (xs ys : List ℕ) → AreUsed a b xs → AreUsed b c ys → AreUsed a c (xs ++ ys)
used_both a b c xs ys one two = two ∙ ap (λ ks. last_used ks ys) one ∙ sym (last_used_append _ xs ys)

module _ (low high : List ℕ) where
  -- ---- one number, and what is visited below it

  module _ (bucket next : ℕ) (nodes : ℕ → Content) (bounds : Bounds) (number wanted : ℕ) where
    first_in : (height : ℕ) → Contains (visited_from height bucket nodes next low high bounds number wanted) number
    unfolding visited_from
    first_in zero = contains_first number []
    first_in (suc height) = contains_first number _

    pub first_among : (a b : Cache) (height : ℕ) → LoadsAmong a b (number ∷ []) → LoadsAmong a b (visited_from height bucket nodes next low high bounds number wanted)
    first_among a b height among =
        among_more a b (number ∷ []) _ (λ n on. subst (Contains (visited_from height bucket nodes next low high bounds number wanted)) (sym (contains_one number n on)) (first_in height)) among

    pub leaf_used : (a b : Cache) (height : ℕ) → height ≡ 0 → AreUsed a b (number ∷ []) → AreUsed a b (visited_from height bucket nodes next low high bounds number wanted)
    unfolding visited_from
    leaf_used a b zero ground used = used
    leaf_used a b (suc height) ground used = absurd (omega arith)

  -- an inner node, and then its children
  inner_walk : (c : Cache) (height next : ℕ) (at : Step) (wanted : ℕ) → 0 < height → is_inner (bounds_by (given c) at.low at.high) next (given c at.number).0 ≡ true
      → visited_from height c.bucket (given c) next low high (bounds_by (given c) at.low at.high) at.number wanted ≡ at.number ∷ visited_of (height - 1) c.bucket (given c) next low high at 0 wanted
  unfolding visited_from
  inner_walk c zero next at wanted above inner = absurd (omega arith)
  inner_walk c (suc height) next at wanted above inner =
      ap (λ t. at.number ∷ cond t (visited_of height c.bucket (given c) next low high at 0 wanted) []) inner
      ∙ ap (λ h. at.number ∷ visited_of h c.bucket (given c) next low high at 0 wanted) (let e : height ≡ suc height - 1 = omega arith in e)

  module _ (a b c : Cache) (height next : ℕ) (at : Step) (wanted : ℕ) (above : 0 < height) (inner : is_inner (bounds_by (given c) at.low at.high) next (given c at.number).0 ≡ true) where
    pub inner_among : LoadsAmong a b (at.number ∷ []) → LoadsAmong b c (visited_of (height - 1) c.bucket (given c) next low high at 0 wanted)
        → LoadsAmong a c (visited_from height c.bucket (given c) next low high (bounds_by (given c) at.low at.high) at.number wanted)
    inner_among one rest = subst (LoadsAmong a c) (sym (inner_walk c height next at wanted above inner)) (among_on a b c at.number (visited_of (height - 1) c.bucket (given c) next low high at 0 wanted) one rest)

    pub inner_used : AreUsed a b (at.number ∷ []) → AreUsed b c (visited_of (height - 1) c.bucket (given c) next low high at 0 wanted)
        → AreUsed a c (visited_from height c.bucket (given c) next low high (bounds_by (given c) at.low at.high) at.number wanted)
    inner_used one rest = subst (AreUsed a c) (sym (inner_walk c height next at wanted above inner)) (used_then a b c at.number (visited_of (height - 1) c.bucket (given c) next low high at 0 wanted) one rest)

  -- ---- a head

  module _ (c : Cache) (limit : ℕ) where
    only_head : (n : Node) → Contains (visited_between c.bucket (given c) low high limit n) 0
    unfolding visited_between
    only_head (node.Head root next depth) = contains_first 0 _
    only_head (node.Leaf pairs) = contains_first 0 []
    only_head (node.Inner seps kids) = contains_first 0 []
    only_head node.Broken = contains_first 0 []

    pub head_among : (a b : Cache) → LoadsAmong a b (0 ∷ []) → LoadsAmong a b (walk_in c low high limit)
    head_among a b among = among_more a b (0 ∷ []) _ (λ n on. subst (Contains (walk_in c low high limit)) (sym (contains_one 0 n on)) (only_head (given c 0).0)) among

    module _ (root next depth : ℕ) (says : SaysHead (given c 0).0 root next depth) where
      abbrev under : List ℕ
      under = visited_from (depth - 1) c.bucket (given c) next low high whole root limit

      walk_is : (t : Bool) → wants c.bucket (given c) low high limit root next depth ≡ t → walk_in c low high limit ≡ 0 ∷ cond t under []
      unfolding visited_between
      walk_is t wanted =
          ap (visited_between c.bucket (given c) low high limit) says.is
          ∙ (λ i. 0 ∷ cond (open_head c low high limit root next depth says i && wanted i) under [])

      pub unwanted_used : (a b : Cache) → wants c.bucket (given c) low high limit root next depth ≡ false → AreUsed a b (0 ∷ []) → AreUsed a b (walk_in c low high limit)
      unwanted_used a b none used = subst (AreUsed a b) (sym (walk_is false none)) used

      module _ (a b : Cache) (some : wants c.bucket (given c) low high limit root next depth ≡ true) where
        pub under_among : LoadsAmong a b (0 ∷ []) → LoadsAmong b c under → LoadsOnWalk a c low high limit
        under_among one rest = subst (LoadsAmong a c) (sym (walk_is true some)) (among_on a b c 0 under one rest)

        pub under_used : AreUsed a b (0 ∷ []) → AreUsed b c under → AreUsed a c (walk_in c low high limit)
        under_used one rest = subst (AreUsed a c) (sym (walk_is true some)) (used_then a b c 0 under one rest)

  -- ---- one child, and then the others

  pub none_used : (b : Cache) (height next : ℕ) (at : Step) (place wanted : ℕ) → wanted ≡ 0 → AreUsed b b (visited_of height b.bucket (given b) next low high at place wanted)
  none_used b height next at place wanted none =
      subst (AreUsed b b) (sym (ap (visited_of height b.bucket (given b) next low high at place) none
      ∙ visited_none (scan_from height b.bucket (given b) next low high) (visited_from height b.bucket (given b) next low high) low high (rest_bounds (given b) at place) (drop place (seps_of (given b at.number).0)) (drop place (kids_of (given b at.number).0)))) refl

  pub behind_used : (b : Cache) (height next : ℕ) (at : Step) (place wanted : ℕ) → drop place (kids_of (given b at.number).0) ≡ [] → AreUsed b b (visited_of height b.bucket (given b) next low high at place wanted)
  behind_used b height next at place wanted none =
      subst (AreUsed b b) (sym (ap (λ ks. visited_kids (scan_from height b.bucket (given b) next low high) (visited_from height b.bucket (given b) next low high) low high (rest_bounds (given b) at place) (drop place (seps_of (given b at.number).0)) ks wanted) none)) refl

  module _ (d : Cache) (height next : ℕ) (at : Step) (place : ℕ) (child : Step) (of : IsChildOf d next at place child) (wanted : ℕ) where
    abbrev bounds : Bounds
    bounds = bounds_by (given d) child.low child.high

    abbrev below : Bounds → ℕ → ℕ → Result ℕ ℕ
    below = scan_from height d.bucket (given d) next low high

    abbrev visits : Bounds → ℕ → ℕ → List ℕ
    visits = visited_from height d.bucket (given d) next low high

    abbrev here : ℕ → ℕ → List ℕ
    here = visited_of height d.bucket (given d) next low high at

    after : place + 1 ≡ suc place
    after = omega arith

    -- a child with no keys of the range is passed over
    past : meets low high bounds ≡ false → here place wanted ≡ here (place + 1) wanted
    past none =
        walk_on below visits low high (given d) at place child (cut_off d height next low high at place child of) wanted wanted (ap (λ t. cond (t && not (wanted == 0)) (below bounds child.number wanted) (Ok wanted)) none)
        ∙ ap (λ t. cond (t && not (wanted == 0)) (visits bounds child.number wanted) [] ++ here (suc place) wanted) none ∙ ap (λ k. here k wanted) (sym after)

    pub past_among : (b : Cache) → meets low high bounds ≡ false → LoadsAmong b d (here (place + 1) wanted) → LoadsAmong b d (here place wanted)
    past_among b none among = subst (LoadsAmong b d) (sym (past none)) among

    pub past_used : (b : Cache) → meets low high bounds ≡ false → AreUsed b d (here (place + 1) wanted) → AreUsed b d (here place wanted)
    past_used b none used = subst (AreUsed b d) (sym (past none)) used

    module _ (some : meets low high bounds ≡ true) (more : wanted ≢ 0) where
      into : visit below visits low high bounds child.number wanted ≡ visits bounds child.number wanted
      into = λ i. cond (some i && not (ne_eqb wanted 0 more i)) (visits bounds child.number wanted) []

      -- the scan of a child ends, whatever comes then
      pub part_among : (b : Cache) → LoadsAmong b d (visits bounds child.number wanted) → LoadsAmong b d (here place wanted)
      part_among b among = among_more b d (visits bounds child.number wanted) (here place wanted)
          (λ n on. walk_part below visits low high (given d) at place child (cut_off d height next low high at place child of) wanted n (subst (λ xs. Contains xs n) (sym into) on)) among

      module _ (tells : List Row → Type 0) (finds : Finds) (upper : ℕ) (b mid : Cache) (loaded : IsLoaded tells finds upper mid d) (left : ℕ) (same : bounds ≡ bounds_by (given mid) child.low child.high)
          (goes : scan_from height mid.bucket (given mid) next low high (bounds_by (given mid) child.low child.high) child.number wanted ≡ Ok left) where
        abbrev before : List ℕ
        before = visited_from height mid.bucket (given mid) next low high (bounds_by (given mid) child.low child.high) child.number wanted

        agrees : (n : ℕ) → (given mid n).0 ≢ node.Broken → given d n ≡ given mid n
        agrees n fine = loaded_given tells finds upper mid d loaded n (cached_of_whole mid n fine)

        alike : (below bounds child.number wanted ≡ Ok left) × (visits bounds child.number wanted ≡ before)
        alike =
            let one = same_walk (given d) (given mid) agrees mid.bucket next low high height (bounds_by (given mid) child.low child.high) child.number wanted left goes in (
              (λ i. scan_from height (loaded.bucket i) (given d) next low high (same i) child.number wanted) ∙ one.0,
              (λ i. visited_from height (loaded.bucket i) (given d) next low high (same i) child.number wanted) ∙ one.1,
            )

        all_is : here place wanted ≡ before ++ here (place + 1) left
        all_is =
            walk_on below visits low high (given d) at place child (cut_off d height next low high at place child of) wanted left
            ((λ i. cond (some i && not (ne_eqb wanted 0 more i)) (below bounds child.number wanted) (Ok wanted)) ∙ alike.0)
            ∙ (λ i. (into ∙ alike.1) i ++ here (sym after i) left)

        pub on_among : LoadsAmong b mid before → LoadsAmong mid d (here (place + 1) left) → LoadsAmong b d (here place wanted)
        on_among one rest = subst (LoadsAmong b d) (sym all_is)
            (among_both b mid d before (here (place + 1) left) _ (λ n h. Contains-append_left before (here (place + 1) left) n h) (λ n h. Contains-append_right before (here (place + 1) left) n h) one rest)

        pub on_used : AreUsed b mid before → AreUsed mid d (here (place + 1) left) → AreUsed b d (here place wanted)
        on_used one rest = subst (AreUsed b d) (sym all_is) (used_both b mid d before (here (place + 1) left) one rest)

  -- ---- on sound rows

  module _ (P : Bounds → ℕ → Type 0) (Q : Type 0) (below : Bounds → ℕ → ℕ → Result ℕ ℕ) (visits : Bounds → ℕ → ℕ → List ℕ) (n : ℕ) (each : (b : Bounds) (k w : ℕ) → P b k → Contains (visits b k w) n → Q) where
    one_met : (b : Bounds) (k w : ℕ) → P b k → (t : Bool) → Contains (cond t (visits b k w) []) n → Q
    one_met b k w p true h = each b k w p h
    one_met b k w p false h = absurd (contains_none n h)

    all_met : (b : Bounds) (seps : List (List ℕ)) (kids : List ℕ) (w : ℕ) → AllBetween P b seps kids → Contains (visited_kids below visits low high b seps kids w) n → Q
    unfolding AllBetween
    all_met b [] [] w all h = absurd all
    all_met b [] (kid ∷ []) w all h = one_met b kid w all (meets low high b && not (w == 0)) h
    all_met b [] (kid ∷ kid' ∷ kids) w all h = absurd all
    all_met b (sep ∷ seps) [] w all h = absurd all
    all_met b (sep ∷ seps) (kid ∷ kids) w all h = by (first below low high (record { low = b.low; high = Some sep }) kid w) refl (λ left more. all_met (record { low = Some sep; high = b.high }) seps kids left all.1 more)
      where
        here : Contains (visit below visits low high (record { low = b.low; high = Some sep }) kid w) n → Q
        here one = one_met (record { low = b.low; high = Some sep }) kid w all.0 (meets low high (record { low = b.low; high = Some sep }) && not (w == 0)) one

        by : (r : Result ℕ ℕ) → first below low high (record { low = b.low; high = Some sep }) kid w ≡ r → ((left : ℕ) → Contains (visited_kids below visits low high (record { low = Some sep; high = b.high }) seps kids left) n → Q) → Q
        by (Ok left) e rest = ⊎_elim here (rest left)
            (Contains-append_cases (visit below visits low high (record { low = b.low; high = Some sep }) kid w) (visited_kids below visits low high (record { low = Some sep; high = b.high }) seps kids left) n (subst (λ xs. Contains xs n) (visited_go below visits low high b sep seps kid kids w left e) h))
        by (Err m) e rest = ⊎_elim here (λ none. absurd (contains_none n none))
            (Contains-append_cases (visit below visits low high (record { low = b.low; high = Some sep }) kid w) [] n (subst (λ xs. Contains xs n) (visited_stop below visits low high b sep seps kid kids w m e) h))

    node_met : (b : Bounds) (c : Node) (w : ℕ) → IsInner P b c → Contains (visited_kids below visits low high b (seps_of c) (kids_of c) w) n → Q
    node_met b (node.Inner seps kids) w inner h = all_met b seps kids w inner.1 h
    node_met b (node.Head root next depth) w inner h = absurd inner
    node_met b (node.Leaf pairs) w inner h = absurd inner
    node_met b node.Broken w inner h = absurd inner

  inner_fine : (P : Bounds → ℕ → Type 0) (bounds : Bounds) (c : Node) → IsInner P bounds c → c ≢ node.Broken
  inner_fine P bounds c inner broken = subst (IsInner P bounds) broken inner

  in_true : (t : Bool) (xs : List ℕ) (n : ℕ) → Contains (cond t xs []) n → Contains xs n
  in_true true xs n h = h
  in_true false xs n h = absurd (contains_none n h)

  module _ (b : Cache) (bucket : ℕ) (nodes : ℕ → Content) (agrees : (n : ℕ) → IsCached b n → (nodes n).0 ≢ node.Broken → given b n ≡ nodes n) (next n : ℕ) where
    met_whole : (height : ℕ) (bounds : Bounds) (number wanted : ℕ) → IsSubtree height bucket nodes bounds number → Contains (visited_from height b.bucket (given b) next low high bounds number wanted) n → (nodes n).0 ≢ node.Broken
    unfolding visited_from IsSubtree
    met_whole zero bounds number wanted subtree h = subst (λ k. (nodes k).0 ≢ node.Broken) (sym (contains_one number n h)) (leaf_whole bucket bounds (nodes number).0 subtree)
    met_whole (suc height) bounds number wanted subtree h =
        let met : Content → List ℕ = λ c. visited_kids (scan_from height b.bucket (given b) next low high) (visited_from height b.bucket (given b) next low high) low high bounds (seps_of c.0) (kids_of c.0) wanted in
        let fine = inner_fine (IsSubtree height bucket nodes) bounds (nodes number).0 subtree in
        ⊎_elim
        (λ same. subst (λ k. (nodes k).0 ≢ node.Broken) (sym same) fine)
        (λ more. let kids = in_true (is_inner bounds next (given b number).0) (met (given b number)) n more in
        ⊎_elim
        (λ none. absurd (contains_none n (subst (λ (c : Content). Contains (met c) n) (given_none b number none) kids)))
        (λ here. node_met (IsSubtree height bucket nodes) ((nodes n).0 ≢ node.Broken) (scan_from height b.bucket (given b) next low high) (visited_from height b.bucket (given b) next low high) n (λ c k w. met_whole height c k w)
        bounds (nodes number).0 wanted subtree (subst (λ (c : Content). Contains (met c) n) (agrees number here fine) kids))
        (none_or_some (cached b number)))
        (contains_cases number (cond (is_inner bounds next (given b number).0) (met (given b number)) []) n h)

  module _ (b : Cache) (bucket : ℕ) (nodes : ℕ → Content) (agrees : (n : ℕ) → IsCached b n → (nodes n).0 ≢ node.Broken → given b n ≡ nodes n) (limit n : ℕ) where
    pub walk_whole : (t : HasTree bucket nodes (nodes 0).0) → Contains (walk_in b low high limit) n → (nodes n).0 ≢ node.Broken
    unfolding visited_between
    walk_whole t h = ⊎_elim without with (none_or_some (cached b 0))
      where
        fine : (nodes 0).0 ≢ node.Broken
        fine = head_whole t.root t.next t.depth (nodes 0).0 t.is

        at_head : n ≡ 0 → (nodes n).0 ≢ node.Broken
        at_head e = subst (λ k. (nodes k).0 ≢ node.Broken) (sym e) fine

        without : cached b 0 ≡ None → (nodes n).0 ≢ node.Broken
        without none = at_head (contains_one 0 n (subst (λ (c : Content). Contains (visited_between b.bucket (given b) low high limit c.0) n) (given_none b 0 none) h))

        with : IsCached b 0 → (nodes n).0 ≢ node.Broken
        with here =
            let is : (given b 0).0 ≡ node.Head t.root t.next t.depth = ap (λ (c : Content). c.0) (agrees 0 here fine) ∙ t.is in
            let under = visited_from (t.depth - 1) b.bucket (given b) t.next low high whole t.root limit in
            let opens = (nat_lt t.root t.next && nat_le 1 t.depth) && (is_below low high && not (limit == 0)) in
            ⊎_elim at_head (λ more. met_whole b bucket nodes agrees t.next n (t.depth - 1) whole t.root limit t.tree.subtree (in_true opens under n more))
            (contains_cases 0 (cond opens under []) n (subst (λ c. Contains (visited_between b.bucket (given b) low high limit c) n) is h))

-- what a bucket holds once a range was scanned
pub holds_on_walk : (tells : List Row → Type 0) (finds : Finds) (upper : ℕ) (rows log : List Row) (old new : Cache) (low high : List ℕ) (limit : ℕ) → old.bucket < 256 → IsSound (rows ++ log) → IsLoaded tells finds upper old new → LoadsOnWalk old new low high limit → Serves tells old rows → Holds old rows log → Holds new rows log
holds_on_walk tells finds upper rows log old new low high limit small sound loaded on_walk serves holds =
    holds_loaded tells finds upper rows log old new loaded serves holds
    (λ n none here. walk_whole low high new new.bucket (nodes_of (rows ++ log) new.bucket) (agrees_loaded tells finds upper rows log old new loaded serves holds) limit n
    (has_tree new.bucket (nodes_of (rows ++ log) new.bucket) (nodes_of (rows ++ log) new.bucket 0).0 (sound.fit new.bucket (subst (λ (k : ℕ). k < 256) (sym loaded.bucket) small))) (on_walk.each n none here))
