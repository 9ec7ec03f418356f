-- What a scan of all keys in a new bucket finds of its tree.
use Rattle.std.proofs.Common.{◌≡◌, ◌≢◌, ◌⊎◌, inl, inr, ℕ, ◌-◌, ◌<◌, ◌==◌, nat_lt, nat_le, true, List, [], ◌++◌, length, take, Option, Some, None, Result, Ok, Err, refl, sym, ap, subst, ◌∙◌, arith, eqb-true, ltb-true, true≢false, length-append}
use Rattle.std.specs.Prelude.{IfSome, IsSome, option_map, unwrap_or}
use Rattle.std.specs.List.{AllByRecursion}
use Rattle.std.proofs.lemmas.List.{length-take, take_all}
use Rattle.fine_model.specs.declared.FetchFault.{FetchFault}
use Rattle.fine_model.specs.declared.Node.{Node}
use Rattle.fine_model.specs.declared.Node.TheVariants as node
use Rattle.fine_model.specs.declared.NodeId.{NodeId}
use Rattle.fine_model.specs.declared.Row.{Row}
use Rattle.fine_model.specs.BoundLaws.{FitsNode}
use Rattle.fine_model.specs.Map.{Pair, between}
use Rattle.fine_model.specs.Nodes.{Content}
use Rattle.fine_model.specs.Paths.{unfit_between}
use Rattle.fine_model.specs.ScanLaws.{KeysAscend}
use Rattle.fine_model.specs.Trees.{bucket_of, nodes_of, pairs_from, pairs_under, whole}
use Rattle.fine_model.proofs.Trees.FoundUnfit.{found_unfit, soundly_fit}
use Rattle.fine_model.proofs.Ordered.KeptPairs.{whole_range}
use Rattle.fine_model.proofs.Trees.Among.{subtree_ascends, subtree_in_bucket}
use Rattle.fine_model.proofs.Ordered.Order.{all_map, first_of_both}
use Rattle.fine_model.proofs.Trees.TreeLaws.{pairs_kept}
use Rattle.node_cache.specs.declared.cached.Cached.{Cached}
use Rattle.node_cache.specs.Cache.{Cache, cached}
use Rattle.node_cache.specs.Given.{Finds, IsCached, IsFetched, IsLoaded, given}
use Rattle.btree_nodes.specs.declared.fault.TreeFault.{TreeFault}
use Rattle.btree_nodes.specs.declared.fault.TreeFault.TheVariants.{Source, Unfit, BucketFull, Number, NoMemory}
use Rattle.btree_nodes.specs.Calls.{IsFirstUnfitBetween, IsFoundBetween}
use Rattle.btree_nodes.specs.Faults.{OnFault}
use Rattle.btree_nodes.specs.Trees.{pairs_between, pairs_met}
use Rattle.btree_nodes.proofs.SameScans.{GoesAlike, same_from}
use Rattle.btree_nodes.proofs.ScanHeads.{Opens, goes_through, opened, scanned}
use Rattle.log_commands.specs.Reading.{FindsTree, GathersOne, HasByteKeys, IsGiven, MeetsUnfit, behind_keys, most_pairs, next_of}
use Rattle.log_commands.proofs.Trees.{IsThrough, through}

abbrev pub new_bucket : ℕ → Cache
new_bucket bucket = record { bucket = bucket; nodes = []; saved = [] }

-- ---- what a new bucket gives

module _ (tells : List Row → Type 0) (finds : Finds) (upper bucket : ℕ) (b : Cache) (loaded : IsLoaded tells finds upper (new_bucket bucket) b) where
  pub each_given : (number : ℕ) → IsGiven tells finds bucket number (given b number)
  unfolding given
  each_given number = by (cached b number) (loaded.fetched number refl)
    where
      by : (o : Option Cached) → IfSome o (IsFetched tells finds upper bucket number) → IsGiven tells finds bucket number (unwrap_or (option_map (λ kept. (kept.node, kept.version)) o) (node.Broken, 0))
      by None f = inr refl
      by (Some kept) f = inl (f.found, f.same)

  pub is_found : (number : ℕ) → IsCached b number → finds (record { bucket = bucket; number = number }) (given b number)
  unfolding given
  is_found number here = by (cached b number) here (loaded.fetched number refl)
    where
      by : (o : Option Cached) → IsSome o → IfSome o (IsFetched tells finds upper bucket number) → finds (record { bucket = bucket; number = number }) (unwrap_or (option_map (λ kept. (kept.node, kept.version)) o) (node.Broken, 0))
      by None here f = absurd (true≢false (sym here))
      by (Some kept) here f = f.found

  pub told_found : (number : ℕ) → IsCached b number → (rows : List Row) → tells rows → given b number ≡ nodes_of rows bucket number
  unfolding given
  told_found number here rows told = by (cached b number) here (loaded.fetched number refl)
    where
      by : (o : Option Cached) → IsSome o → IfSome o (IsFetched tells finds upper bucket number) → unwrap_or (option_map (λ kept. (kept.node, kept.version)) o) (node.Broken, 0) ≡ nodes_of rows bucket number
      by None here f = absurd (true≢false (sym here))
      by (Some kept) here f = f.same rows told

  -- the first node that is not fit
  pub meets_unfit : bucket < 256 → (id : NodeId) → IsFirstUnfitBetween b [] behind_keys most_pairs id → MeetsUnfit tells finds id
  meets_unfit low id first = subst (λ (i : NodeId). MeetsUnfit tells finds i) same_id (record {
    in_bucket = low;
    nodes = given b;
    each = each_given;
    itself = is_found id.number first.there;
    unfit = is_unfit;
    none_sound = λ rows told sound.
        soundly_fit rows here low sound
        (found_unfit (given b) (nodes_of rows bucket) here (own rows told) (told_found id.number first.there rows told) (inr ([], behind_keys, most_pairs, is_unfit)));
  })
    where
      is_bucket : bucket ≡ id.bucket
      is_bucket = sym (first.of_bucket ∙ loaded.bucket)

      here : NodeId
      here = record { bucket = bucket; number = id.number }

      same_id : here ≡ id
      same_id = λ i. record { bucket = is_bucket i; number = id.number }

      is_unfit : unfit_between bucket (given b) [] behind_keys most_pairs (given b 0).0 ≡ Some id.number
      is_unfit = subst (λ k. unfit_between k (given b) [] behind_keys most_pairs (given b 0).0 ≡ Some id.number) loaded.bucket first.first

      own : (rows : List Row) → tells rows → (number : ℕ) → (given b number ≡ nodes_of rows bucket number) ⊎ (given b number ≡ (node.Broken, 0))
      own rows told number = of (each_given number)
        where
          of : IsGiven tells finds bucket number (given b number) → (given b number ≡ nodes_of rows bucket number) ⊎ (given b number ≡ (node.Broken, 0))
          of (inl f) = inl (f.1 rows told)
          of (inr broken) = inr broken

-- each node that a bucket gives is within the format's bounds
pub given_fits : (b : Cache) (number : ℕ) → FitsNode (given b number).0
unfolding given
given_fits b number = by (cached b number)
  where
    by : (o : Option Cached) → FitsNode (unwrap_or (option_map (λ kept. let c : Content = (kept.node, kept.version) in c) o) (node.Broken, 0)).0
    by None = tt
    by (Some kept) = kept.fits

-- ---- the tree

few_taken : (n : ℕ) (old new more : List Pair) → new ≡ old ++ take n more → length new < n → length more < n
few_taken n old new more is few =
    let a = ap length is in let b = length-append old (take n more) in let c = length-take n more in omega (arith, few, a, b, c)

module _ (tells : List Row → Type 0) (finds : Finds) (bucket : ℕ) (nodes : ℕ → Content) (each : (number : ℕ) → IsGiven tells finds bucket number (nodes number)) (fits : (n : ℕ) → FitsNode (nodes n).0)
    (bytes : (n : ℕ) → n < next_of (nodes 0).0 → HasByteKeys (nodes n).0) (fit : unfit_between bucket nodes [] behind_keys most_pairs (nodes 0).0 ≡ None) where
  -- rows that are told leave each node that is not broken
  keeps : (rows : List Row) → tells rows → (number : ℕ) → (nodes number).0 ≢ node.Broken → nodes_of rows bucket number ≡ nodes number
  keeps rows told number whole_node = by (each number)
    where
      by : IsGiven tells finds bucket number (nodes number) → nodes_of rows bucket number ≡ nodes number
      by (inl f) = sym (f.1 rows told)
      by (inr broken) = absurd (whole_node (ap (λ (c : Content). c.0) broken))

  module _ (root next depth : ℕ) (is : (nodes 0).0 ≡ node.Head root next depth) where
    open_head : Opens bucket nodes [] behind_keys most_pairs root next depth
    open_head = opened bucket nodes [] behind_keys most_pairs root next depth (ap (unfit_between bucket nodes [] behind_keys most_pairs) (sym is) ∙ fit)

    abbrev met : List Pair
    met = between [] behind_keys (pairs_met (depth - 1) nodes [] behind_keys whole root)

    -- where there are fewer pairs than are wanted
    module _ (few : length met < most_pairs) where
      goes : (left : ℕ) × (scanned bucket nodes [] behind_keys most_pairs root next depth ≡ Ok left)
      goes = goes_through bucket nodes [] behind_keys most_pairs root next depth open_head refl (ap (unfit_between bucket nodes [] behind_keys most_pairs) (sym is) ∙ fit)

      left_some : 0 < goes.0
      left_some = by (scanned bucket nodes [] behind_keys most_pairs root next depth) goes.1
          (same_from nodes nodes (λ n. (nodes n).0 ≢ node.Broken) (λ n h. h) (λ n h g. refl) bucket next [] behind_keys (depth - 1) whole root most_pairs goes.0 goes.1)
        where
          by : (r : Result ℕ ℕ) → r ≡ Ok goes.0 → GoesAlike (λ n. (nodes n).0 ≢ node.Broken) r most_pairs goes.0 met met → 0 < goes.0
          by (Ok left) e h = let rest = h.1.rest in omega (arith, rest, few)
          by (Err n) e h = absurd cc

      tree : IsThrough bucket next nodes fits (λ n low. bytes n (subst (λ h. n < next_of h) (sym is) low)) (depth - 1) whole root
      tree = through bucket next nodes fits (λ n low. bytes n (subst (λ h. n < next_of h) (sym is) low)) (depth - 1) whole root most_pairs goes.0 (refl, refl) (ltb-true root next (first_of_both (nat_lt root next) (nat_le 1 depth) open_head).0) left_some goes.1

      is_all : met ≡ pairs_under (depth - 1) nodes root
      is_all = ap (between [] behind_keys) tree.met ∙ whole_range (pairs_under (depth - 1) nodes root) tree.short

      finds_tree : FindsTree tells finds bucket nodes
      finds_tree = record {
        each = each;
        fit = fit;
        ascends = subst (λ (h : Node). KeysAscend (pairs_from nodes h)) (sym is) (subtree_ascends bucket nodes (depth - 1) whole root tree.subtree);
        of_bucket = subst (λ (h : Node). AllByRecursion (λ p. bucket_of p.0 ≡ bucket) (pairs_from nodes h)) (sym is)
            (all_map (λ p. (bucket_of p.0 == bucket) ≡ true) (λ p. bucket_of p.0 ≡ bucket) (λ p h. eqb-true (bucket_of p.0) bucket h) (pairs_under (depth - 1) nodes root) (subtree_in_bucket (depth - 1) bucket nodes whole root tree.subtree));
        same = same_pairs;
      }
        where
          same_pairs : (rows : List Row) → tells rows → pairs_from nodes (nodes 0).0 ≡ pairs_from (nodes_of rows bucket) (nodes_of rows bucket 0).0
          same_pairs rows told =
              let head : (nodes_of rows bucket 0).0 ≡ node.Head root next depth = ap (λ (c : Content). c.0) (keeps rows told 0 (λ broken. let e = sym is ∙ broken in cc)) ∙ is in
              ap (pairs_from nodes) is ∙ sym (pairs_kept (depth - 1) bucket (nodes_of rows bucket) nodes (keeps rows told) whole root tree.subtree) ∙ sym (ap (pairs_from (nodes_of rows bucket)) head)

  pub gathers : (old new : List Pair) → new ≡ old ++ take most_pairs (pairs_between nodes [] behind_keys (nodes 0).0) → length new < most_pairs → GathersOne tells finds bucket old new
  unfolding pairs_between unfit_between
  gathers old new behind few = by (nodes 0).0 refl fit behind
    where
      by : (h : Node) → (nodes 0).0 ≡ h → unfit_between bucket nodes [] behind_keys most_pairs h ≡ None → new ≡ old ++ take most_pairs (pairs_between nodes [] behind_keys h) → GathersOne tells finds bucket old new
      by (node.Head root next depth) is fine more =
          let less = few_taken most_pairs old new (met root next depth is) more few in
          record {
            nodes = nodes;
            tree = finds_tree root next depth is less;
            behind = more ∙ ap (λ (xs : List Pair). old ++ xs) (take_all most_pairs (met root next depth is) (omega (arith, less)) ∙ is_all root next depth is less) ∙ ap (λ (h : Node). old ++ pairs_from nodes h) (sym is);
            few = few;
          }
      by (node.Leaf pairs) is fine more = absurd cc
      by (node.Inner seps kids) is fine more = absurd cc
      by node.Broken is fine more = absurd cc

-- ---- a scan of a new bucket

pub gathers_one : (tells : List Row → Type 0) (finds : Finds) (upper bucket : ℕ) (b : Cache) (old new : List Pair) → IsLoaded tells finds upper (new_bucket bucket) b → IsFoundBetween b [] behind_keys most_pairs old new
    → ((n : ℕ) → n < next_of (given b 0).0 → HasByteKeys (given b n).0) → length new < most_pairs → GathersOne tells finds bucket old new
gathers_one tells finds upper bucket b old new loaded found bytes few =
    gathers tells finds bucket (given b) (each_given tells finds upper bucket b loaded) (given_fits b) bytes
    (subst (λ k. unfit_between k (given b) [] behind_keys most_pairs (given b 0).0 ≡ None) loaded.bucket found.fit) old new found.behind few

-- the fault of a scan
pub scan_fault : (tells : List Row → Type 0) (finds : Finds) (upper bucket : ℕ) (b : Cache) (F : FetchFault → Type 0) → bucket < 256 → IsLoaded tells finds upper (new_bucket bucket) b
    → (fault : TreeFault) → OnFault fault F (IsFirstUnfitBetween b [] behind_keys most_pairs) (Unit {0}) → OnFault fault F (MeetsUnfit tells finds) (Unit {0})
scan_fault tells finds upper bucket b F low loaded (Source f) h = h
scan_fault tells finds upper bucket b F low loaded (Unfit id) h = meets_unfit tells finds upper bucket b loaded low id h
scan_fault tells finds upper bucket b F low loaded (BucketFull n d) h = h
scan_fault tells finds upper bucket b F low loaded (Number id) h = h
scan_fault tells finds upper bucket b F low loaded NoMemory h = h
