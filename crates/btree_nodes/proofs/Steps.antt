-- One step down a tree.
use Rattle.std.proofs.Common.{◌≡◌, ℕ, zero, suc, ◌+◌, ◌-◌, ◌<◌, ◌≤◌, ◌==◌, nat_lt, Bool, true, false, ◌&&◌, not, if◌then◌else◌, List, [], ◌∷◌, length, slice_get, slice_index, refl, sym, ap, subst, ◌∙◌, true≢false, arith, Option, Some, None, option_map, unwrap_or, ltb-true, ne_eqb}
use Rattle.std.proofs.lemmas.Bool.{ltb-false}
use Rattle.std.specs.Prelude.{IsSome}
use Rattle.std.specs.List.{list_all}
use Rattle.fine_model.specs.declared.Node.TheVariants as node
use Rattle.fine_model.specs.Map.{is_below}
use Rattle.fine_model.specs.Nodes.{Content}
use Rattle.fine_model.specs.Paths.{is_inner, place_among, bounds_at, seps_of}
use Rattle.fine_model.specs.Trees.{are_separators}
use Rattle.fine_model.proofs.Trees.Small.{length-filter_le}
use Rattle.fine_model.proofs.Ordered.Order.{first_of_both}
use Rattle.node_record.specs.Bounds.{FitsNode}
use Rattle.node_cache.specs.declared.cached.Cached.{Cached}
use Rattle.node_cache.specs.Cache.{Cache, cached}
use Rattle.btree_nodes.specs.declared.descent.Sep.{Sep}
use Rattle.node_cache.specs.Given.{given, IsCached}
use Rattle.btree_nodes.specs.Descent.{bound_at, bounds_by, low_of, high_of, IsStep, AreKept}

-- what is cached is what the bucket gives
pub given_is : (b : Cache) (n : ℕ) (kept : Cached) → cached b n ≡ Some kept → given b n ≡ (kept.node, kept.version)
unfolding given
given_is b n kept is = ap (λ o. unwrap_or (option_map (λ k. (k.node, k.version)) o) (node.Broken, 0)) is

-- a place of a child
pub place_within : (key : List ℕ) (seps : List (List ℕ)) (kids : List ℕ) → FitsNode (node.Inner seps kids) → place_among key seps < length kids
place_within key seps kids fits = let few = length-filter_le (λ sep. not (is_below key sep)) seps in omega (arith, few, fits.1)

pub all_at : (p : ℕ → Bool) (xs : List ℕ) (i x : ℕ) → list_all p xs ≡ true → slice_get xs i ≡ Some x → p x ≡ true
all_at p [] i x all at = cc
all_at p (y ∷ ys) zero x all at = let e : y ≡ x = cc in ap p (sym e) ∙ (first_of_both (p y) (list_all p ys) all).0
all_at p (y ∷ ys) (suc i) x all at = all_at p ys i x (first_of_both (p y) (list_all p ys) all).1 at

pub index_at : (xs : List ℕ) (i x : ℕ) → slice_get xs i ≡ Some x → x ≡ slice_index xs i
index_at [] i x at = cc
index_at (y ∷ ys) zero x at = cc
index_at (y ∷ ys) (suc i) x at = index_at ys i x at

some_at : (xs : List (List ℕ)) (i : ℕ) → i < length xs → IsSome (slice_get xs i)
some_at [] i lt = absurd (omega arith)
some_at (x ∷ xs) zero lt = refl
some_at (x ∷ xs) (suc i) lt = some_at xs i (omega arith)

pub none_at : (xs : List (List ℕ)) (i : ℕ) → length xs ≤ i → slice_get xs i ≡ None
none_at [] i le = refl
none_at (x ∷ xs) zero le = absurd (omega arith)
none_at (x ∷ xs) (suc i) le = none_at xs i (omega arith)

abbrev pub or_else : Option (List ℕ) → Option (List ℕ) → Option (List ℕ)
or_else None b = b
or_else (Some a) b = Some a

module _ (nodes : ℕ → Content) (number : ℕ) (seps : List (List ℕ)) (kids : List ℕ) (is : (nodes number).0 ≡ node.Inner seps kids) (low high : Option Sep) where
  sep_at : (i : ℕ) → slice_get (seps_of (nodes number).0) i ≡ slice_get seps i
  sep_at i = ap (λ n. slice_get (seps_of n) i) is

  pub high_is : (place : ℕ) → bound_at nodes (high_of number place (length seps) high) ≡ or_else (slice_get seps place) (bound_at nodes high)
  high_is place = by (nat_lt place (length seps)) refl
    where
      some : (o : Option (List ℕ)) → IsSome o → (b : Option (List ℕ)) → o ≡ or_else o b
      some None h b = absurd (true≢false (sym h))
      some (Some a) h b = refl

      by : (t : Bool) → nat_lt place (length seps) ≡ t → bound_at nodes (if t then Some (record { number = number; place = place }) else high) ≡ or_else (slice_get seps place) (bound_at nodes high)
      by true lt = sep_at place ∙ some (slice_get seps place) (some_at seps place (ltb-true place (length seps) lt)) (bound_at nodes high)
      by false ge = ap (λ o. or_else o (bound_at nodes high)) (sym (none_at seps place (ltb-false place (length seps) ge)))

  pub low_is : (j : ℕ) → bound_at nodes (low_of number (suc j) low) ≡ slice_get seps j
  low_is j =
      ap (λ b. bound_at nodes (if b then low else Some (record { number = number; place = suc j - 1 }))) (ne_eqb (suc j) 0 (λ e. omega (arith, e)))
      ∙ ap (λ k. slice_get (seps_of (nodes number).0) k) (let e : suc j - 1 ≡ j = omega arith in e) ∙ sep_at j

  pub step_bounds : (place : ℕ) → bounds_by nodes (low_of number place low) (high_of number place (length seps) high) ≡ bounds_at (bounds_by nodes low high) seps place
  step_bounds zero = let low' : Option (List ℕ) = bound_at nodes low in λ i. record { low = low'; high = high_is zero i }
  step_bounds (suc j) = λ i. record { low = low_is j i; high = high_is (suc j) i }

  -- a step to the child at the key's place
  pub stepped : (next child : ℕ) (key : List ℕ) → is_inner (bounds_by nodes low high) next (node.Inner seps kids) ≡ true → slice_get kids (place_among key seps) ≡ Some child
      → IsStep nodes next key (bounds_by nodes low high) (nodes number).0 (record { number = child; low = low_of number (place_among key seps) low; high = high_of number (place_among key seps) (length seps) high })
  stepped next child key good at = subst (λ n. IsStep nodes next key (bounds_by nodes low high) n (record { number = child; low = low_of number (place_among key seps) low; high = high_of number (place_among key seps) (length seps) high })) (sym is) (record {
    good = good;
    number = index_at kids (place_among key seps) child at;
    small = ltb-true child next (all_at (λ kid. nat_lt kid next) kids (place_among key seps) child (first_of_both (are_separators (bounds_by nodes low high) seps && (length kids == length seps + 1)) (list_all (λ kid. nat_lt kid next) kids) good).1 at);
    within = step_bounds (place_among key seps);
  })

-- the bounds of a child are kept
pub low_kept : (b : Cache) (number place : ℕ) (low : Option Sep) → IsCached b number → AreKept b low → AreKept b (low_of number place low)
low_kept b number place low here kept = by (place == 0)
  where
    by : (t : Bool) → AreKept b (if t then low else Some (record { number = number; place = place - 1 }))
    by true = kept
    by false = here

pub high_kept : (b : Cache) (number place many : ℕ) (high : Option Sep) → IsCached b number → AreKept b high → AreKept b (high_of number place many high)
high_kept b number place many high here kept = by (nat_lt place many)
  where
    by : (t : Bool) → AreKept b (if t then Some (record { number = number; place = place }) else high)
    by true = here
    by false = kept
