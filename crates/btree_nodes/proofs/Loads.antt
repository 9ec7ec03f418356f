-- Loads of nodes.
use Rattle.std.proofs.Common.{◌≡◌, ◌≢◌, ℕ, zero, suc, List, [], ◌∷◌, arith, Option, Some, None, is_some, refl, sym, ap, subst, ◌∙◌, true≢false, false, true, ◌⊎◌, inl, inr, ⊎_elim, eqb-true, eq-eqb, eqb, Bool}
use Rattle.std.specs.Prelude.{IsSome, IfSome, option_map, unwrap_or, Contains}
use Rattle.fine_model.specs.declared.NodeId.{NodeId}
use Rattle.fine_model.specs.Nodes.{Content}
use Rattle.fine_model.specs.declared.Row.{Row}
use Rattle.fine_model.specs.declared.Node.TheVariants as node
use Rattle.node_cache.specs.declared.cached.Cached.{Cached}
use Rattle.node_cache.specs.Cache.{Cache, cached}
use Rattle.node_cache.specs.Given.{Finds, given, IsCached, IsFetched, IsLoaded, SameNodes}
use Rattle.btree_nodes.specs.Trees.{LoadsAmong}

pub same_or_not : (n m : ℕ) → (n ≡ m) ⊎ (n ≢ m)
same_or_not n m = by (eqb n m) refl
  where
    by : (b : Bool) → eqb n m ≡ b → (n ≡ m) ⊎ (n ≢ m)
    by true e = inl (eqb-true n m e)
    by false e = inr (λ s. true≢false (sym (eq-eqb n m s) ∙ e))

pub none_or_some : (o : Option Cached) → (o ≡ None) ⊎ IsSome o
none_or_some None = inl refl
none_or_some (Some kept) = inr refl

module _ (tells : List Row → Type 0) (finds : Finds) (upper : ℕ) where
  -- some, and then some more
  pub loaded_on : (a b c : Cache) → IsLoaded tells finds upper a b → IsLoaded tells finds upper b c → IsLoaded tells finds upper a c
  loaded_on a b c first second = record {
    bucket = second.bucket ∙ first.bucket;
    saved = second.saved ∙ first.saved;
    stays = λ n here. second.stays n (ap is_some (first.stays n here) ∙ here) ∙ first.stays n here;
    fetched = λ n none. ⊎_elim
        (λ gone. subst (λ k. IfSome (cached c n) (IsFetched tells finds upper k n)) first.bucket (second.fetched n gone))
        (λ here. subst (λ o. IfSome o (IsFetched tells finds upper a.bucket n)) (sym (second.stays n here)) (first.fetched n none))
        (none_or_some (cached b n));
  }

  pub loaded_kept : (old new : Cache) → IsLoaded tells finds upper old new → (n : ℕ) → IsCached old n → IsCached new n
  loaded_kept old new loaded n here = ap is_some (loaded.stays n here) ∙ here

  pub loaded_given : (old new : Cache) → IsLoaded tells finds upper old new → (n : ℕ) → IsCached old n → given new n ≡ given old n
  unfolding given
  loaded_given old new loaded n here = ap (λ o. unwrap_or (option_map (λ k. (k.node, k.version)) o) (node.Broken, 0)) (loaded.stays n here)

-- ---- loads of a source later on

-- what a source gives later on is what it gave before
pub loaded_before : (tells tells' : List Row → Type 0) (finds finds' : Finds) (upper upper' : ℕ) (b c : Cache) → ((rows : List Row) → tells rows → tells' rows) → ((id : NodeId) (found : Content) → finds' id found → finds id found) → upper' ≡ upper → IsLoaded tells' finds' upper' b c → IsLoaded tells finds upper b c
loaded_before tells tells' finds finds' upper upper' b c on back same loaded = record {
  bucket = loaded.bucket;
  saved = loaded.saved;
  stays = loaded.stays;
  fetched = λ n none. of n (cached c n) (loaded.fetched n none);
}
  where
    of : (n : ℕ) (o : Option Cached) → IfSome o (IsFetched tells' finds' upper' b.bucket n) → IfSome o (IsFetched tells finds upper b.bucket n)
    of n None h = tt
    of n (Some kept) h = record { epoch = h.epoch ∙ same; found = back (record { bucket = b.bucket; number = n }) (kept.node, kept.version) h.found; same = λ rows told. h.same rows (on rows told) }

-- loads, and then more of the same source
pub loaded_then : (tells tells' : List Row → Type 0) (finds finds' : Finds) (upper upper' : ℕ) (a b c : Cache) → ((rows : List Row) → tells rows → tells' rows) → ((id : NodeId) (found : Content) → finds' id found → finds id found) → upper' ≡ upper → IsLoaded tells finds upper a b → IsLoaded tells' finds' upper' b c → IsLoaded tells finds upper a c
loaded_then tells tells' finds finds' upper upper' a b c on back same first second = loaded_on tells finds upper a b c first (loaded_before tells tells' finds finds' upper upper' b c on back same second)

-- ---- what was loaded

pub contains_first : (x : ℕ) (xs : List ℕ) → Contains (x ∷ xs) x
contains_first x xs = (0, omega arith, refl)

pub contains_more : (x : ℕ) (xs : List ℕ) (n : ℕ) → Contains xs n → Contains (x ∷ xs) n
contains_more x xs n h = let l = h.1 in (suc h.0, omega (arith, l), h.2)

pub contains_cases : (x : ℕ) (xs : List ℕ) (n : ℕ) → Contains (x ∷ xs) n → (n ≡ x) ⊎ Contains xs n
contains_cases x xs n (zero, l, is) = inl (sym is)
contains_cases x xs n (suc k, l, is) = inr (k, omega (arith, l), is)

pub contains_none : (n : ℕ) → Contains [] n → ⊥
contains_none n (k, l, is) = omega (arith, l)

pub contains_one : (x n : ℕ) → Contains (x ∷ []) n → n ≡ x
contains_one x n h = ⊎_elim (λ e. e) (λ m. absurd (contains_none n m)) (contains_cases x [] n h)

nothing_loaded : {P : Type 0} (old new : Cache) (n : ℕ) → cached new n ≡ cached old n → cached old n ≡ None → IsCached new n → P
nothing_loaded old new n same none here = absurd (true≢false (sym here ∙ ap is_some (same ∙ none)))

-- nothing was loaded
pub among_none : (old new : Cache) (numbers : List ℕ) → SameNodes old new → LoadsAmong old new numbers
among_none old new numbers same = record { each = λ n none here. nothing_loaded old new n (same n) none here }

pub among_more : (old new : Cache) (xs ys : List ℕ) → ((n : ℕ) → Contains xs n → Contains ys n) → LoadsAmong old new xs → LoadsAmong old new ys
among_more old new xs ys on among = record { each = λ n none here. on n (among.each n none here) }

-- some, and then some more
pub among_both : (a b c : Cache) (xs ys zs : List ℕ) → ((n : ℕ) → Contains xs n → Contains zs n) → ((n : ℕ) → Contains ys n → Contains zs n) → LoadsAmong a b xs → LoadsAmong b c ys → LoadsAmong a c zs
among_both a b c xs ys zs left right first second = record {
  each = λ n none here. ⊎_elim (λ gone. right n (second.each n gone here)) (λ there. left n (first.each n none there)) (none_or_some (cached b n));
}

pub among_on : (a b c : Cache) (x : ℕ) (xs : List ℕ) → LoadsAmong a b (x ∷ []) → LoadsAmong b c xs → LoadsAmong a c (x ∷ xs)
among_on a b c x xs first second =
    among_both a b c (x ∷ []) xs (x ∷ xs) (λ n h. subst (Contains (x ∷ xs)) (sym (contains_one x n h)) (contains_first x xs)) (λ n h. contains_more x xs n h) first second
