-- The pairs that a scan finds are of its range and stand once, be the log sound or not: its reply is that of the store on the map of them.
use Rattle.std.proofs.Common.{◌≡◌, ◌≢◌, ◌⊎◌, ⊎_elim, inl, inr, ℕ, ◌+◌, ◌<◌, ◌≤◌, true, List, [], ◌++◌, take, refl, sym, ap, ◌∙◌, subst, arith, le_refl}
use Rattle.std.specs.Prelude.{All, bytes_eq}
use Rattle.std.specs.List.{AllByRecursion}
use Rattle.std.proofs.lemmas.Bool.{cases_eq}
use Rattle.std.proofs.lemmas.List.{take-take}
use Rattle.std.proofs.lemmas.List.Elements.{All-append, All-from_recursion, All-nil, All-take, filter_passes, recursion_from_All}
use Rattle.std.proofs.lemmas.List.Sorted.{All-permutation}
use Rattle.std.proofs.lemmas.List.Sums.{sum_by-append}
use Rattle.fine_model.specs.declared.Call.TheVariants as call
use Rattle.fine_model.specs.declared.Node.{Node}
use Rattle.fine_model.specs.declared.Node.TheVariants as node
use Rattle.fine_model.specs.declared.Reply.TheVariants as reply
use Rattle.fine_model.specs.Map.{Pair, between}
use Rattle.fine_model.specs.Nodes.{Content}
use Rattle.fine_model.specs.ScanLaws.{IsSorted, KeysAscend, times_of}
use Rattle.fine_model.specs.Store.{IsReplyTo, answer}
use Rattle.fine_model.specs.Trees.{bucket_of}
use Rattle.fine_model.proofs.Chain.EmptyLog.{none_sound}
use Rattle.fine_model.proofs.Ordered.Gathered.{count, up_front}
use Rattle.fine_model.proofs.Ordered.KeptPairs.{absent, kept_all, once_ascending}
use Rattle.fine_model.proofs.Ordered.Lists.{all_take}
use Rattle.fine_model.proofs.Ordered.Order.{all_map, filter_all}
use Rattle.fine_model.proofs.Ordered.Sets.{all_append}
use Rattle.node_cache.specs.Cache.{Cache}
use Rattle.node_cache.specs.Given.{given}
use Rattle.btree_nodes.specs.Calls.{IsFoundBetween}
use Rattle.btree_nodes.specs.Trees.{pairs_between}
use Rattle.txn_draft.specs.Scans.{IsFirst, IsGathered}
use Rattle.txn_tries.specs.Found.{AreFound, is_inside}
use Rattle.txn_tries.proofs.FitScans.{AreTaken, fit_taken}

-- ---- keys that stand once

-- pairs of one bucket behind those of the buckets below it
once_more : (bucket : ℕ) (old own : List Pair) → AllByRecursion (λ p. bucket_of p.0 < bucket) old → ((key : List ℕ) → times_of key old ≤ 1) → AreTaken bucket own → (key : List ℕ) → times_of key (old ++ own) ≤ 1
once_more bucket old own below once taken key = by (cases_eq (bucket_of key) bucket)
  where
    by : (bucket_of key ≡ bucket) ⊎ (bucket_of key ≢ bucket) → times_of key (old ++ own) ≤ 1
    by (inl here) =
        let a = sum_by-append (λ p. count (bytes_eq p.0 key)) old own in
        let one = once_ascending own taken.ascend key in
        let none = absent key old (all_map (λ p. bucket_of p.0 < bucket) (λ p. p.0 ≢ key) (λ p low same. let e = ap bucket_of same in absurd (omega (arith, low, e, here))) old below) in omega (arith, a, one, none)
    by (inr other) =
        let a = sum_by-append (λ p. count (bytes_eq p.0 key)) old own in
        let one = once key in
        let none = absent key own (all_map (λ p. bucket_of p.0 ≡ bucket) (λ p. p.0 ≢ key) (λ p here same. other (sym (ap bucket_of same) ∙ here)) own taken.here) in omega (arith, a, one, none)

-- Sorted pairs of which no key stands twice ascend: so says the law of a whole scan, on the log with no rows and of a scan that wants no pair.
sorted_ascends : (pairs found : List Pair) → AllByRecursion (λ p. bucket_of p.0 < 256) pairs → ((key : List ℕ) → times_of key pairs ≤ 1) → IsSorted pairs found → KeysAscend found
sorted_ascends pairs found below once sorted = (kept_all [] [] [] 0 pairs found none_sound (record { same = λ more. refl; once = once; of_buckets = below }) sorted).ascends

-- ---- from bucket to bucket

module _ (low high : List ℕ) where
  abbrev IsInside : Pair → Type 0
  IsInside p = is_inside low high p ≡ true

  inside_between : (nodes : ℕ → Content) (head : Node) → All IsInside (pairs_between nodes low high head)
  unfolding pairs_between between
  inside_between nodes (node.Head root next depth) = filter_passes (is_inside low high) _
  inside_between nodes (node.Leaf pairs) = All-nil IsInside
  inside_between nodes (node.Inner seps kids) = All-nil IsInside
  inside_between nodes node.Broken = All-nil IsInside

  -- nothing was found yet
  pub found_none : AreFound low high 0 []
  found_none = record { inside = All-nil IsInside; of_buckets = tt; once = λ key. omega arith }

  -- what is found in the next bucket stands behind
  found_more : (b : Cache) (limit next : ℕ) (old new : List Pair) → b.bucket ≡ next → IsFoundBetween b low high limit old new → AreFound low high next old → AreFound low high (next + 1) new
  found_more b limit next old new here f was =
      let own = take limit (pairs_between (given b) low high (given b 0).0) in
      let taken = subst (λ (k : ℕ). AreTaken k own) here (fit_taken b.bucket low high (given b) limit (given b 0).0 f.fit) in
      subst (AreFound low high (next + 1)) (sym f.behind) (record {
        inside = All-append IsInside old own was.inside (All-take IsInside limit (pairs_between (given b) low high (given b 0).0) (inside_between (given b) (given b 0).0));
        of_buckets = all_append (λ p. bucket_of p.0 < next + 1) old own (all_map (λ p. bucket_of p.0 < next) (λ p. bucket_of p.0 < next + 1) (λ p h. omega (arith, h)) old was.of_buckets)
            (all_map (λ p. bucket_of p.0 ≡ next) (λ p. bucket_of p.0 < next + 1) (λ p h. omega (arith, h)) own taken.here);
        once = once_more next old own was.of_buckets was.once taken;
      })

  -- of some pairs the first ones, in the order of their keys
  module _ (limit next : ℕ) (most : next ≤ 256) (pairs first : List Pair) (is : IsFirst limit pairs first) (found : AreFound low high next pairs) where
    ascend : KeysAscend is.found
    ascend = sorted_ascends pairs is.found (all_map (λ p. bucket_of p.0 < next) (λ p. bucket_of p.0 < 256) (λ p h. omega (arith, h, most)) pairs found.of_buckets) found.once is.sorted

    first_ascends : KeysAscend first
    first_ascends = subst KeysAscend (sym is.is) (up_front limit is.found ascend)

    first_inside : All IsInside first
    first_inside = subst (All IsInside) (sym is.is) (All-take IsInside limit is.found (All-permutation IsInside pairs is.found is.sorted.permuted found.inside))

    found_first : AreFound low high next first
    found_first = record {
      inside = first_inside;
      of_buckets = subst (AllByRecursion (λ p. bucket_of p.0 < next)) (sym is.is) (all_take (λ p. bucket_of p.0 < next) limit is.found
          (recursion_from_All (λ p. bucket_of p.0 < next) is.found (All-permutation (λ p. bucket_of p.0 < next) pairs is.found is.sorted.permuted (All-from_recursion (λ p. bucket_of p.0 < next) pairs found.of_buckets))));
      once = once_ascending first first_ascends;
    }

    -- what a scan found is the store's reply on a map that has these pairs alone
    pub found_reply : IsReplyTo (call.Scan low high limit) (reply.Found first)
    unfolding answer between
    found_reply = (
      first,
      first_ascends,
      ap reply.Found (is.is ∙ sym (take-take limit limit is.found (le_refl limit)) ∙ ap (take limit) (sym is.is) ∙ ap (take limit) (sym (filter_all (is_inside low high) first (recursion_from_All IsInside first first_inside)))),
    )

  pub found_gathered : (b : Cache) (limit next : ℕ) (old new : List Pair) → b.bucket ≡ next → next < 256 → IsGathered b low high limit old new → AreFound low high next old → AreFound low high (next + 1) new
  found_gathered b limit next old new here within g was =
      ⊎_elim (λ (same : new ≡ g.longer). subst (AreFound low high (next + 1)) (sym same) longer)
      (λ (is : IsFirst limit g.longer new). found_first limit (next + 1) (omega (arith, within)) g.longer new is longer) g.cut
    where
      longer : AreFound low high (next + 1) g.longer
      longer = found_more b limit next old g.longer here g.found was
