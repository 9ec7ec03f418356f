-- The pairs that a scan keeps from bucket to bucket.
use Rattle.std.proofs.Common.{length, ◌≡◌, ◌≢◌, ◌⊎◌, inl, inr, ℕ, zero, suc, ◌+◌, ◌<◌, ◌≤◌, ◌==◌, Bool, true, false, not, ◌&&◌, List, [], ◌∷◌, ◌++◌, take, get_or, refl, sym, ap, ◌∙◌, subst, arith, true≢false, append-nil, append_assoc, eqb-true, replicate, nat_lt, is_lt, Less, Equal, Greater, nat_cmp, eq-eqb, cond}
use Rattle.std.specs.Prelude.{flat_map, bytes_eq, IsSortedBy}
use Rattle.std.specs.List.{AllByRecursion, range_with_len}
use Rattle.std.specs.Ordering.{ordering_then}
use Rattle.std.specs.Cmp.Lexicographic.{slice_cmp}
use Rattle.std.proofs.lemmas.Bool.{cases_eq, ltb-false}
use Rattle.std.proofs.lemmas.Grind.{flat_map-append}
use Rattle.std.proofs.lemmas.Slice.Eq.{bytes_eq-Decides}
use Rattle.std.proofs.lemmas.List.Elements.{All-from_recursion, recursion_from_All}
use Rattle.std.proofs.lemmas.List.Sums.{sum_by-cons, sum_by-append}
use Rattle.std.proofs.lemmas.List.Sorted.{sum_by-IsPermutation, All-permutation}
use Rattle.fine_model.specs.Types.{Row, Node}
use Rattle.fine_model.specs.Types.reply
use Rattle.fine_model.specs.Types.node
use Rattle.fine_model.specs.RowBytes.{FitsPair}
use Rattle.fine_model.specs.Map.{Pair, is_below, is_ascending, between, from_pairs}
use Rattle.fine_model.specs.Nodes.{content}
use Rattle.fine_model.specs.BoundLaws.{FitsNode}
use Rattle.fine_model.specs.Store.{answer}
use Rattle.fine_model.specs.Trees.{bucket_of, pairs_of, tree_map, map_of}
use Rattle.fine_model.specs.ScanLaws.{gathered, times_of, IsSorted, KeptFirst, KeptMore, KeptCut, KeptAll, PairsFit, WholeRange}
use Rattle.fine_model.proofs.Ordered.Order.{filter_all, order_cases, all_map, keys_of}
use Rattle.fine_model.proofs.Ordered.Sets.{all_append, all_filter, ascending-filter, ascending-tail}
use Rattle.fine_model.proofs.Ordered.Lists.{all_take}
use Rattle.fine_model.proofs.Trees.Buckets.{in_bucket, ascends}
use Rattle.fine_model.proofs.Trees.NodeBounds.{node_fits}
use Rattle.fine_model.proofs.Ordered.AllPairs.{map_all}
use Rattle.fine_model.proofs.Ordered.Gathered.{Ascends, count, up_front, above_none, all_above, order_law, cut_law, first_gathered}

-- ---- keys that stand once

pub once_ascending : (pairs : List Pair) → Ascends pairs → (key : List ℕ) → times_of key pairs ≤ 1
once_ascending [] up key = omega arith
once_ascending (p ∷ pairs) up key = by (bytes_eq p.0 key) refl (once_ascending pairs (ascending-tail p pairs up) key)
  where
    by : (b : Bool) → bytes_eq p.0 key ≡ b → times_of key pairs ≤ 1 → times_of key (p ∷ pairs) ≤ 1
    by true e rest =
        let c = sum_by-cons (λ p. count (bytes_eq p.0 key)) p pairs in
        let one : count (bytes_eq p.0 key) ≡ 1 = ap count e in
        let none : times_of key pairs ≡ 0 = ap (λ k. times_of k pairs) (sym ((bytes_eq-Decides p.0 key).0 e)) ∙ above_none p.0 pairs (all_above p pairs up) in omega (arith, c, one, none)
    by false e rest =
        let c = sum_by-cons (λ p. count (bytes_eq p.0 key)) p pairs in
        let one : count (bytes_eq p.0 key) ≡ 0 = ap count e in omega (arith, c, one, rest)

pub absent : (key : List ℕ) (pairs : List Pair) → AllByRecursion (λ p. p.0 ≢ key) pairs → times_of key pairs ≡ 0
absent key [] others = refl
absent key (p ∷ pairs) others =
    let c = sum_by-cons (λ p. count (bytes_eq p.0 key)) p pairs in let z = by (bytes_eq p.0 key) refl in let rest = absent key pairs others.1 in omega (arith, c, z, rest)
  where
    by : (b : Bool) → bytes_eq p.0 key ≡ b → count (bytes_eq p.0 key) ≡ 0
    by false e = ap count e
    by true e = absurd (others.0 ((bytes_eq-Decides p.0 key).0 e))

-- ---- sorted pairs

Up : List Pair → Type 0
Up [] = Unit {0}
Up (a ∷ []) = Unit {0}
Up (a ∷ b ∷ pairs) = (is_below b.0 a.0 ≡ false) × Up (b ∷ pairs)

up_from : (pairs : List Pair) → IsSortedBy (λ a b. is_below a.0 b.0) pairs → Up pairs
unfolding Up
up_from [] sorted = tt
up_from (a ∷ []) sorted = tt
up_from (a ∷ b ∷ pairs) sorted = (
  sorted 0 a (omega arith) (omega arith),
  up_from (b ∷ pairs) (λ k d low high. let e : suc k + 1 ≡ suc (k + 1) = omega arith in subst (λ n. is_below (get_or (a ∷ b ∷ pairs) n d).0 (get_or (b ∷ pairs) k d).0 ≡ false) e (sorted (suc k) d (omega arith) (omega (arith, high)))),
)

-- sorted pairs of which no key stands twice ascend
up_ascends : (pairs : List Pair) → Up pairs → ((key : List ℕ) → times_of key pairs ≤ 1) → Ascends pairs
unfolding Up
up_ascends [] up once = refl
up_ascends (a ∷ []) up once = refl
up_ascends (a ∷ b ∷ pairs) up once =
    ap (λ t. t && is_ascending (keys_of (b ∷ pairs))) (by (order_cases a.0 b.0))
    ∙ up_ascends (b ∷ pairs) up.1 (λ key. let o = once key in let c = sum_by-cons (λ p. count (bytes_eq p.0 key)) a (b ∷ pairs) in omega (arith, o, c))
  where
    twice : a.0 ≡ b.0 → ⊥
    twice e =
        let o = once b.0 in
        let c = sum_by-cons (λ p. count (bytes_eq p.0 b.0)) a (b ∷ pairs) in let d = sum_by-cons (λ p. count (bytes_eq p.0 b.0)) b pairs in
        let x : count (bytes_eq a.0 b.0) ≡ 1 = ap count ((bytes_eq-Decides a.0 b.0).1 e) in
        let y : count (bytes_eq b.0 b.0) ≡ 1 = ap count ((bytes_eq-Decides b.0 b.0).1 refl) in absurd (omega (arith, o, c, d, x, y))

    by : ((is_below a.0 b.0 ≡ true) × (is_below b.0 a.0 ≡ false)) ⊎ (a.0 ≡ b.0) ⊎ ((is_below b.0 a.0 ≡ true) × (is_below a.0 b.0 ≡ false)) → is_below a.0 b.0 ≡ true
    by (inl h) = h.0
    by (inr (inl e)) = absurd (twice e)
    by (inr (inr h)) = absurd (true≢false (sym h.0 ∙ up.0))

sorted_ascends : (kept found : List Pair) → ((key : List ℕ) → times_of key kept ≤ 1) → IsSorted kept found → Ascends found
sorted_ascends kept found once s =
    up_ascends found (up_from found s.sorted) (λ key. let o = once key in let e = sum_by-IsPermutation (λ p. count (bytes_eq p.0 key)) kept found s.permuted in omega (arith, o, e))

-- ---- from bucket to bucket

pub kept_first : KeptFirst
unfolding gathered
kept_first rows low high limit = record { same = λ more. refl; once = λ key. omega arith; of_buckets = tt }

range_push : (from n : ℕ) → range_with_len from (n + 1) ≡ range_with_len from n ++ (from + n) ∷ []
range_push from zero = let e : from ≡ from + 0 = omega arith in ap (λ k. k ∷ []) e
range_push from (suc n) =
    let e : (from + 1) + n ≡ from + suc n = omega arith in
    let f : suc n + 1 ≡ suc (n + 1) = omega arith in
    ap (range_with_len from) f ∙ ap (λ ks. from ∷ ks) (range_push (from + 1) n) ∙ ap (λ k. from ∷ (range_with_len (from + 1) n ++ k ∷ [])) e

in_range : (rows : List Row) (low high : List ℕ) (b : ℕ) → AllByRecursion (λ p. (bucket_of p.0 == b) ≡ true) (tree_map rows b) → AllByRecursion (λ p. (bucket_of p.0 == b) ≡ true) (between low high (tree_map rows b))
unfolding between
in_range rows low high b all = all_filter (λ p. (bucket_of p.0 == b) ≡ true) (λ p. not (is_below p.0 low) && is_below p.0 high) (tree_map rows b) all

range_ascends : (rows : List Row) (low high : List ℕ) (b : ℕ) → Ascends (tree_map rows b) → Ascends (between low high (tree_map rows b))
unfolding between
range_ascends rows low high b up = ascending-filter (λ p. not (is_below p.0 low) && is_below p.0 high) (tree_map rows b) up

pub kept_more : KeptMore
unfolding gathered
kept_more rows low high limit next kept sound below k = record {
  same = λ more. ap (λ xs. take limit (from_pairs xs)) (append_assoc kept own more) ∙ k.same (own ++ more)
      ∙ ap (λ xs. take limit (from_pairs xs)) (sym (append_assoc (gathered rows low high limit next) own more) ∙ ap (λ xs. xs ++ more) (sym one_more));
  once = λ key. by key (cases_eq (bucket_of key) next);
  of_buckets = all_append (λ p. bucket_of p.0 < next + 1) kept own (all_map (λ p. bucket_of p.0 < next) (λ p. bucket_of p.0 < next + 1) (λ p h. omega (arith, h)) kept k.of_buckets)
      (all_map (λ p. (bucket_of p.0 == next) ≡ true) (λ p. bucket_of p.0 < next + 1) (λ p h. let e = eqb-true (bucket_of p.0) next h in omega (arith, e)) own own_bucket);
}
  where
    each : ℕ → List Pair
    each b = take limit (between low high (tree_map rows b))

    own : List Pair
    own = take limit (between low high (tree_map rows next))

    one_more : flat_map each (range_with_len 0 (next + 1)) ≡ flat_map each (range_with_len 0 next) ++ own
    one_more =
        let e : 0 + next ≡ next = omega arith in
        ap (flat_map each) (range_push 0 next) ∙ flat_map-append each (range_with_len 0 next) ((0 + next) ∷ [])
        ∙ ap (λ xs. flat_map each (range_with_len 0 next) ++ xs) (append-nil (each (0 + next)) ∙ ap each e)

    own_bucket : AllByRecursion (λ p. (bucket_of p.0 == next) ≡ true) own
    own_bucket = all_take (λ p. (bucket_of p.0 == next) ≡ true) limit (between low high (tree_map rows next)) (in_range rows low high next (in_bucket rows sound next below))

    own_once : (key : List ℕ) → times_of key own ≤ 1
    own_once key = once_ascending own (up_front limit (between low high (tree_map rows next)) (range_ascends rows low high next (ascends rows sound next below))) key

    by : (key : List ℕ) → (bucket_of key ≡ next) ⊎ (bucket_of key ≢ next) → times_of key (kept ++ own) ≤ 1
    by key (inl here) =
        let a = sum_by-append (λ p. count (bytes_eq p.0 key)) kept own in let o = own_once key in
        let none = absent key kept (all_map (λ p. bucket_of p.0 < next) (λ p. p.0 ≢ key) (λ p h e. let same = ap bucket_of e in absurd (omega (arith, h, same, here))) kept k.of_buckets) in omega (arith, a, o, none)
    by key (inr other) =
        let a = sum_by-append (λ p. count (bytes_eq p.0 key)) kept own in let o = k.once key in
        let none = absent key own (all_map (λ p. (bucket_of p.0 == next) ≡ true) (λ p. p.0 ≢ key) (λ p h e. other (sym (ap bucket_of e) ∙ eqb-true (bucket_of p.0) next h)) own own_bucket) in omega (arith, a, o, none)

pub kept_cut : KeptCut
kept_cut rows low high limit next kept found k s =
    let up = sorted_ascends kept found k.once s in
    let is = order_law kept found s.permuted up in record {
      same = λ more. ap (λ xs. take limit (from_pairs (take limit xs ++ more))) is ∙ cut_law limit kept more ∙ k.same more;
      once = once_ascending (take limit found) (up_front limit found up);
      of_buckets = all_take (λ p. bucket_of p.0 < next) limit found
          (recursion_from_All (λ p. bucket_of p.0 < next) found (All-permutation (λ p. bucket_of p.0 < next) kept found s.permuted (All-from_recursion (λ p. bucket_of p.0 < next) kept k.of_buckets)));
    }

pub kept_all : KeptAll
unfolding answer
kept_all rows low high limit kept found sound k s =
    let up = sorted_ascends kept found k.once s in
    let all : List Pair = gathered rows low high limit 256 in
    let first : take limit found ≡ take limit (between low high (map_of rows)) =
    ap (take limit) (order_law kept found s.permuted up) ∙ ap (λ xs. take limit (from_pairs xs)) (sym (append-nil kept)) ∙ k.same [] ∙ ap (λ xs. take limit (from_pairs xs)) (append-nil all)
    ∙ first_gathered rows low high limit sound in
    record { ascends = up; first = first; reply = ap (λ pairs. (reply.Found pairs, [])) (sym first) }

-- ---- keys and values

pub pairs_fit_node : (n : Node) → FitsNode n → AllByRecursion FitsPair (pairs_of n)
pairs_fit_node (node.Leaf pairs) fits = fits.1
pairs_fit_node (node.Head root next depth) fits = tt
pairs_fit_node (node.Inner seps kids) fits = tt
pairs_fit_node node.Broken fits = tt

pub pairs_fit : PairsFit
pairs_fit mark rows fits = map_all FitsPair rows (λ id. pairs_fit_node (content rows id).0 (node_fits mark rows id fits))

-- ---- the whole range

-- a key of bytes is below more bytes of 255
below_last : (key : List ℕ) (n : ℕ) → length key < n → AllByRecursion (λ byte. byte < 256) key → is_below key (replicate n 255) ≡ true
below_last key zero short small = absurd (omega (arith, short))
below_last [] (suc n) short small = refl
below_last (b ∷ key) (suc n) short small = by (nat_lt b 255) (b == 255) refl refl (below_last key n (omega (arith, short)) small.1)
  where
    by : (l e : Bool) → nat_lt b 255 ≡ l → (b == 255) ≡ e → is_below key (replicate n 255) ≡ true → is_lt (ordering_then (cond l Less (cond e Equal Greater)) (slice_cmp nat_cmp key (replicate n 255))) ≡ true
    by true e low same rest = refl
    by false true low same rest = rest
    by false false low same rest =
        let high = ltb-false b 255 low in let least = small.0 in
        absurd (true≢false (sym (eq-eqb b 255 (omega (arith, high, least))) ∙ same))

none_below : (key : List ℕ) → is_below key [] ≡ false
none_below [] = refl
none_below (b ∷ key) = refl

pub whole_range : WholeRange
unfolding between
whole_range pairs small =
    filter_all (λ p. not (is_below p.0 []) && is_below p.0 (replicate 65 255)) pairs
    (all_map (λ p. (length p.0 ≤ 64) × AllByRecursion (λ byte. byte < 256) p.0) (λ p. (not (is_below p.0 []) && is_below p.0 (replicate 65 255)) ≡ true)
    (λ p h. let short = h.0 in ap (λ b. not b && is_below p.0 (replicate 65 255)) (none_below p.0) ∙ below_last p.0 65 (omega (arith, short)) h.1) pairs small)
