-- The pairs of all trees, bucket by bucket and then in the order of their keys.
use Rattle.std.proofs.Common.{◌≡◌, ◌≢◌, ◌⊎◌, inl, inr, ℕ, zero, suc, ◌+◌, ◌<◌, ◌≤◌, ◌==◌, nat_lt, Bool, true, false, cond, List, [], ◌∷◌, ◌++◌, length, refl, sym, ap, subst, ◌∙◌, arith, append-nil, ne_eqb, le_refl, ltb-true, eq-eqb, map}
use Rattle.std.specs.Prelude.{IsPermutation, bytes_eq, flat_map, sum_by, if◌then◌else◌}
use Rattle.std.specs.List.{AllByRecursion, range_with_len}
use Rattle.std.specs.Cmp.{IsStrictWeakOrder}
use Rattle.std.proofs.lemmas.Cmp.{nat_list_cmp_total, on_total}
use Rattle.std.proofs.lemmas.List.MinMax.{ranks_by}
use Rattle.std.proofs.lemmas.Bool.{cases_eq, ltb-false}
use Rattle.std.proofs.lemmas.Grind.{flat_map-append}
use Rattle.std.proofs.lemmas.List.Folds.{flat_map-map}
use Rattle.std.proofs.lemmas.List.FromFn.{map-range_with_len_more}
use Rattle.std.proofs.lemmas.List.Sums.{sum_by-cons, sum_by-append}
use Rattle.std.proofs.lemmas.List.Sorted.{sum_by-IsPermutation}
use Rattle.fine_model.specs.declared.Node.TheVariants as node
use Rattle.fine_model.specs.declared.NodeId.{NodeId}
use Rattle.fine_model.specs.declared.Row.{Row}
use Rattle.fine_model.specs.Map.{Pair, from_pairs, is_below}
use Rattle.fine_model.specs.Nodes.{Content, content, replay}
use Rattle.fine_model.specs.ScanLaws.{IsSorted, KeysAscend, times_of}
use Rattle.fine_model.specs.Trees.{IsSound, IsSubtree, bucket_of, is_distinct, map_of, nodes_of, pairs_from, reached, tree_map}
use Rattle.fine_model.proofs.Ordered.Gathered.{count, order_law}
use Rattle.fine_model.proofs.Ordered.KeptPairs.{absent, kept_all, once_ascending}
use Rattle.fine_model.proofs.Ordered.Order.{all_map}
use Rattle.fine_model.proofs.Ordered.Sets.{all_append}
use Rattle.node_cache.specs.Given.{Finds}
use Rattle.log_commands.specs.Reading.{FindsAll, FindsTree, Gathers, GathersOne, IsGiven, MeetsUnfit}

pub pairs_ranked : IsStrictWeakOrder (λ (a b : Pair). is_below a.0 b.0)
pairs_ranked = ranks_by (on_total (λ (p : Pair). p.0) nat_list_cmp_total) (λ (r : Pair). r)

-- ---- keys that stand once

-- pairs of the buckets below a number, of which no key stands twice
pub record AreOnce (next : ℕ) (pairs : List Pair) : Type 0 where
  pub once : (key : List ℕ) → times_of key pairs ≤ 1
  pub below : AllByRecursion (λ p. bucket_of p.0 < next) pairs

once_more : (next : ℕ) (pairs own : List Pair) → AreOnce next pairs → KeysAscend own → AllByRecursion (λ p. bucket_of p.0 ≡ next) own → AreOnce (next + 1) (pairs ++ own)
once_more next pairs own o up here = record {
  once = λ key. by key (cases_eq (bucket_of key) next);
  below = all_append (λ p. bucket_of p.0 < next + 1) pairs own (all_map (λ p. bucket_of p.0 < next) (λ p. bucket_of p.0 < next + 1) (λ p h. omega (arith, h)) pairs o.below)
      (all_map (λ p. bucket_of p.0 ≡ next) (λ p. bucket_of p.0 < next + 1) (λ p h. omega (arith, h)) own here);
}
  where
    by : (key : List ℕ) → (bucket_of key ≡ next) ⊎ (bucket_of key ≢ next) → times_of key (pairs ++ own) ≤ 1
    by key (inl same) =
        let a = sum_by-append (λ p. count (bytes_eq p.0 key)) pairs own in let u = once_ascending own up key in
        let none = absent key pairs (all_map (λ p. bucket_of p.0 < next) (λ p. p.0 ≢ key) (λ p h e. let s = ap bucket_of e in absurd (omega (arith, h, s, same))) pairs o.below) in omega (arith, a, u, none)
    by key (inr other) =
        let a = sum_by-append (λ p. count (bytes_eq p.0 key)) pairs own in let u = o.once key in
        let none = absent key own (all_map (λ p. bucket_of p.0 ≡ next) (λ p. p.0 ≢ key) (λ p h e. other (sym (ap bucket_of e) ∙ h)) own here) in omega (arith, a, u, none)

-- ---- sorted

unused : (bucket n : ℕ) → 2 ≤ n → nodes_of [] bucket n ≡ (node.Leaf [], 0)
unfolding content replay
unused bucket n least = ap (λ b. if b then (node.Head 1 2 1, 0) else (node.Leaf [], 0)) (ne_eqb n 0 (λ e. omega (arith, e, least)))

-- an empty log is sound
none_sound : IsSound []
unfolding content replay IsSubtree reached is_distinct
none_sound = record { fit = λ bucket low. record { deep = le_refl 1; subtree = refl; distinct = refl; below = (omega arith, tt); unused = unused bucket } }

-- of an empty log, all that is kept of a scan that wants nothing is that no key stands twice
sorted_ascends : (pairs found : List Pair) → AreOnce 256 pairs → IsSorted pairs found → KeysAscend found
sorted_ascends pairs found o sorted =
    (kept_all [] [] [] 0 pairs found none_sound (record { same = λ more. refl; once = o.once; of_buckets = o.below }) sorted).ascends

pub in_order : (pairs found : List Pair) → AreOnce 256 pairs → IsSorted pairs found → found ≡ from_pairs pairs
in_order pairs found o sorted = order_law pairs found sorted.permuted (sorted_ascends pairs found o sorted)

same_length : (pairs found : List Pair) → IsPermutation pairs found → length found ≡ length pairs
same_length pairs found p = by (sym (sum_by-IsPermutation (λ q. 1) pairs found p))
  where
    ones : (xs : List Pair) → sum_by (λ q. 1) xs ≡ length xs
    ones [] = refl
    ones (x ∷ xs) = let c = sum_by-cons (λ (q : Pair). 1) x xs in let o = ones xs in omega (arith, c, o)

    by : sum_by (λ (q : Pair). 1) pairs ≡ sum_by (λ (q : Pair). 1) found → length found ≡ length pairs
    by e = sym (ones found) ∙ sym e ∙ ones pairs

-- ---- lists over the numbers of a range

range_same : {A : Type 0} (f g : ℕ → List A) (from n : ℕ) → ((i : ℕ) → i < from + n → f i ≡ g i) → flat_map f (range_with_len from n) ≡ flat_map g (range_with_len from n)
range_same f g from zero same = refl
range_same f g from (suc n) same =
    ap (λ xs. xs ++ flat_map f (range_with_len (from + 1) n)) (same from (omega arith)) ∙ ap (λ xs. g from ++ xs) (range_same f g (from + 1) n (λ i low. same i (omega (arith, low))))

range_more : {A : Type 0} (f : ℕ → List A) (n : ℕ) → flat_map f (range_with_len 0 (n + 1)) ≡ flat_map f (range_with_len 0 n) ++ f n
range_more f n =
    sym (flat_map-map f (λ k. k) (range_with_len 0 (n + 1))) ∙ ap (flat_map f) (map-range_with_len_more (λ k. k) 0 n n (omega arith)) ∙ flat_map-append f (map (λ k. k) (range_with_len 0 n)) (n ∷ [])
    ∙ (λ i. flat_map-map f (λ k. k) (range_with_len 0 n) i ++ append-nil (f n) i)

-- ---- from bucket to bucket

module _ (tells : List Row → Type 0) (finds : Finds) where
  pub gathers_none : Gathers tells finds 0 []
  gathers_none = record { nodes = λ bucket number. (node.Broken, 0); each = λ bucket low. absurd (omega (arith, low)); others = λ bucket number from. refl; are = refl; few = omega arith }

  pub gathers_more : (next : ℕ) (old new : List Pair) → Gathers tells finds next old → GathersOne tells finds next old new → Gathers tells finds (next + 1) new
  gathers_more next old new g one = record { nodes = all; each = each; others = others; are = are; few = one.few }
    where
      all : ℕ → ℕ → Content
      all bucket = cond (bucket == next) one.nodes (g.nodes bucket)

      here : all next ≡ one.nodes
      here = ap (λ b. cond b one.nodes (g.nodes next)) (eq-eqb next next refl)

      other : (bucket : ℕ) → bucket ≢ next → all bucket ≡ g.nodes bucket
      other bucket is_other = ap (λ b. cond b one.nodes (g.nodes bucket)) (ne_eqb bucket next is_other)

      each : (bucket : ℕ) → bucket < next + 1 → FindsTree tells finds bucket (all bucket)
      each bucket low = by (cases_eq bucket next)
        where
          by : (bucket ≡ next) ⊎ (bucket ≢ next) → FindsTree tells finds bucket (all bucket)
          by (inl same) = subst (λ k. FindsTree tells finds k (all k)) (sym same) (subst (FindsTree tells finds next) (sym here) one.tree)
          by (inr is_other) = subst (FindsTree tells finds bucket) (sym (other bucket is_other)) (g.each bucket (omega (arith, low, is_other)))

      others : (bucket number : ℕ) → next + 1 ≤ bucket → all bucket number ≡ (node.Broken, 0)
      others bucket number from = ap (λ (f : ℕ → Content). f number) (other bucket (λ same. omega (arith, from, same))) ∙ g.others bucket number (omega (arith, from))

      are : new ≡ flat_map (λ bucket. pairs_from (all bucket) (all bucket 0).0) (range_with_len 0 (next + 1))
      are =
          one.behind
          ∙ (λ i. g.are i ++ pairs_from one.nodes (one.nodes 0).0)
          ∙ (λ i. range_same (λ bucket. pairs_from (g.nodes bucket) (g.nodes bucket 0).0) (λ bucket. pairs_from (all bucket) (all bucket 0).0) 0 next
          (λ k low. ap (λ (f : ℕ → Content). pairs_from f (f 0).0) (sym (other k (λ same. omega (arith, low, same))))) i ++ pairs_from (sym here i) (sym here i 0).0)
          ∙ sym (range_more (λ bucket. pairs_from (all bucket) (all bucket 0).0) next)

  once_of : (next : ℕ) (nodes : ℕ → ℕ → Content) → ((bucket : ℕ) → bucket < next → FindsTree tells finds bucket (nodes bucket)) → AreOnce next (flat_map (λ bucket. pairs_from (nodes bucket) (nodes bucket 0).0) (range_with_len 0 next))
  once_of zero nodes each = record { once = λ key. omega arith; below = tt }
  once_of (suc next) nodes each =
      let e : next + 1 ≡ suc next = omega arith in
      let t = each next (omega arith) in
      subst (λ n. AreOnce n (flat_map (λ bucket. pairs_from (nodes bucket) (nodes bucket 0).0) (range_with_len 0 n))) e
      (subst (AreOnce (next + 1)) (sym (range_more (λ bucket. pairs_from (nodes bucket) (nodes bucket 0).0) next))
      (once_more next (flat_map (λ bucket. pairs_from (nodes bucket) (nodes bucket 0).0) (range_with_len 0 next)) (pairs_from (nodes next) (nodes next 0).0)
      (once_of next nodes (λ bucket low. each bucket (omega (arith, low)))) t.ascends t.of_bucket))

  pub finds_all : (pairs found : List Pair) → Gathers tells finds 256 pairs → IsSorted pairs found → FindsAll tells finds found
  unfolding map_of tree_map
  finds_all pairs found g sorted = record {
    nodes = g.nodes;
    each = λ bucket number. by bucket number (nat_lt bucket 256) refl;
    few = let s = same_length pairs found sorted.permuted in let f = g.few in omega (arith, s, f);
    fit = λ bucket low. (g.each bucket low).fit;
    are = is_found ∙ ap from_pairs g.are;
    map = map_is;
  }
    where
      by : (bucket number : ℕ) → (t : Bool) → nat_lt bucket 256 ≡ t → IsGiven tells finds bucket number (g.nodes bucket number)
      by bucket number true e = (g.each bucket (ltb-true bucket 256 e)).each number
      by bucket number false e = inr (g.others bucket number (ltb-false bucket 256 e))

      is_found : found ≡ from_pairs pairs
      is_found = in_order pairs found (subst (AreOnce 256) (sym g.are) (once_of 256 g.nodes g.each)) sorted

      map_is : (rows : List Row) → tells rows → found ≡ map_of rows
      map_is rows told = is_found ∙ ap from_pairs (g.are ∙ range_same (λ bucket. pairs_from (g.nodes bucket) (g.nodes bucket 0).0) (tree_map rows) 0 256 (λ bucket low. (g.each bucket low).same rows told))

-- ---- an earlier state of the source

module _ (tells tells' : List Row → Type 0) (finds finds' : Finds) (tell : (rows : List Row) → tells rows → tells' rows) (find : (id : NodeId) (c : Content) → finds' id c → finds id c) where
  given_before : (bucket number : ℕ) (c : Content) → IsGiven tells' finds' bucket number c → IsGiven tells finds bucket number c
  given_before bucket number c (inl f) = inl (find (record { bucket = bucket; number = number }) c f.0, λ rows told. f.1 rows (tell rows told))
  given_before bucket number c (inr broken) = inr broken

  tree_before : (bucket : ℕ) (nodes : ℕ → Content) → FindsTree tells' finds' bucket nodes → FindsTree tells finds bucket nodes
  tree_before bucket nodes t = record {
    each = λ number. given_before bucket number (nodes number) (t.each number);
    fit = t.fit;
    ascends = t.ascends;
    of_bucket = t.of_bucket;
    same = λ rows told. t.same rows (tell rows told);
  }

  pub one_before : (bucket : ℕ) (old new : List Pair) → GathersOne tells' finds' bucket old new → GathersOne tells finds bucket old new
  one_before bucket old new g = record { nodes = g.nodes; tree = tree_before bucket g.nodes g.tree; behind = g.behind; few = g.few }

  pub unfit_before : (id : NodeId) → MeetsUnfit tells' finds' id → MeetsUnfit tells finds id
  unfit_before id m = record {
    in_bucket = m.in_bucket;
    nodes = m.nodes;
    each = λ number. given_before id.bucket number (m.nodes number) (m.each number);
    itself = find id (m.nodes id.number) m.itself;
    unfit = m.unfit;
    none_sound = λ rows told sound. m.none_sound rows (tell rows told) sound;
  }

  pub all_before : (pairs : List Pair) → FindsAll tells' finds' pairs → FindsAll tells finds pairs
  all_before pairs f = record {
    nodes = f.nodes;
    each = λ bucket number. given_before bucket number (f.nodes bucket number) (f.each bucket number);
    few = f.few;
    fit = f.fit;
    are = f.are;
    map = λ rows told. f.map rows (tell rows told);
  }
