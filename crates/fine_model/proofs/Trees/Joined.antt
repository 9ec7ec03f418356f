-- The map of all trees, of which one is changed.
use Rattle.std.proofs.Common.{◌≡◌, ◌≢◌, ◌⊎◌, ℕ, zero, suc, ◌+◌, ◌<◌, ◌≤◌, ◌==◌, Bool, true, false, cond, List, [], ◌∷◌, ◌++◌, refl, sym, ap, ◌∙◌, subst, inl, inr, true≢false, Some, None, option_map, arith, eqb-true, eq-eqb}
use Rattle.std.specs.Prelude.{filter, find, fold, flat_map, bytes_eq}
use Rattle.std.specs.List.{AllByRecursion, range_with_len}
use Rattle.std.proofs.lemmas.List.Sums.{fold-append}
use Rattle.std.proofs.lemmas.Slice.Eq.{bytes_eq-Decides}
use Rattle.fine_model.specs.Map.{Pair, is_below, is_ascending, pairs_below, pairs_above, get, set, unset, from_pairs}
use Rattle.fine_model.specs.Trees.{bucket_of}
use Rattle.fine_model.proofs.Ordered.Order.{AllBelow, AllAbove, order_cases, is_below-trans, all_map, keys_of, set_new, set_again, unset_there, unset_absent}
use Rattle.fine_model.proofs.Ordered.Sets.{all_pass, all_append}
use Rattle.fine_model.proofs.Ordered.Pairs.{AllOther, Around, around_key, set-set, unset-set, set-swap, unset-swap, get_none, get_behind, get_before, get_here, get-set_same, below_other, above_other}

contrary : (b c : Bool) → (c ≡ true → b ≡ true) → b ≡ false → c ≡ false
contrary b true imply h = absurd (true≢false (sym (imply refl) ∙ h))
contrary b false imply h = refl

-- what passes a test is found among those that pass a weaker one
find_filter : (p q : Pair → Bool) → ((x : Pair) → q x ≡ true → p x ≡ true) → (xs : List Pair) → find q (filter p xs) ≡ find q xs
find_filter p q imply [] = refl
find_filter p q imply (x ∷ xs) = by (p x) refl (find_filter p q imply xs)
  where
    by : (b : Bool) → p x ≡ b → find q (filter p xs) ≡ find q xs → find q (cond b (x ∷ filter p xs) (filter p xs)) ≡ cond (q x) (Some x) (find q xs)
    by true is rest = ap (λ r. cond (q x) (Some x) r) rest
    by false is rest = rest ∙ ap (λ b. cond b (Some x) (find q xs)) (sym (contrary (p x) (q x) (imply x) is))

get_filter : (key : List ℕ) (p : Pair → Bool) → ((x : Pair) → x.0 ≡ key → p x ≡ true) → (m : List Pair) → get (filter p m) key ≡ get m key
unfolding get
get_filter key p imply m = ap (option_map (λ p. p.1)) (find_filter p (λ x. bytes_eq x.0 key) (λ x h. imply x ((bytes_eq-Decides x.0 key).0 h)) m)

-- another key keeps what it has
pub get-set_other : (m : List Pair) (a key x : List ℕ) → a ≢ key → get (set m a x) key ≡ get m key
unfolding set
get-set_other m a key x other = by (order_cases a key)
  where
    by : ((is_below a key ≡ true) × (is_below key a ≡ false)) ⊎ (a ≡ key) ⊎ ((is_below key a ≡ true) × (is_below a key ≡ false)) → get (pairs_below a m ++ (a, x) ∷ pairs_above a m) key ≡ get m key
    by (inl h) =
        get_behind key (pairs_below a m) ((a, x) ∷ pairs_above a m)
        (below_other key (pairs_below a m) (all_map (λ p. is_below p.0 a ≡ true) (λ p. is_below p.0 key ≡ true) (λ p below. is_below-trans p.0 a key below h.0) (pairs_below a m) (all_pass (λ p. is_below p.0 a) m)))
        ∙ get_behind key ((a, x) ∷ []) (pairs_above a m) (other, tt)
        ∙ get_filter key (λ p. is_below a p.0) (λ p e. ap (is_below a) e ∙ h.0) m
    by (inr (inl e)) = absurd (other e)
    by (inr (inr h)) =
        get_before key (pairs_below a m) ((a, x) ∷ pairs_above a m)
        (other, above_other key (pairs_above a m) (all_map (λ p. is_below a p.0 ≡ true) (λ p. is_below key p.0 ≡ true) (λ p above. is_below-trans key a p.0 h.0 above) (pairs_above a m) (all_pass (λ p. is_below a p.0) m)))
        ∙ get_filter key (λ p. is_below p.0 a) (λ p e. ap (λ k. is_below k a) e ∙ h.0) m

abbrev pub joined : List Pair → List Pair → List Pair
joined m pairs = fold (λ m p. set m p.0 p.1) m pairs

pub joined-append : (m xs ys : List Pair) → joined m (xs ++ ys) ≡ joined (joined m xs) ys
joined-append m xs ys = fold-append (λ m p. set m p.0 p.1) m xs ys

-- A change at a key: it goes before or behind the setting of another key, and joining a changed tree is the change of what is
-- joined, where the key was not there before.
pub record IsChange (key : List ℕ) (f : List Pair → List Pair) : Type 0 where
  pub swap : (m : List Pair) (a x : List ℕ) → a ≢ key → f (set m a x) ≡ set (f m) a x
  pub joins : (m pairs : List Pair) → is_ascending (keys_of pairs) ≡ true → unset m key ≡ m → joined m (f pairs) ≡ f (joined m pairs)

-- a change goes before or behind all that has other keys
pub joined-swap : (key : List ℕ) (f : List Pair → List Pair) (swap : (m : List Pair) (a x : List ℕ) → a ≢ key → f (set m a x) ≡ set (f m) a x)
    (m pairs : List Pair) → AllOther key pairs → joined (f m) pairs ≡ f (joined m pairs)
joined-swap key f swap m [] other = refl
joined-swap key f swap m (p ∷ pairs) other = ap (λ n. joined n pairs) (sym (swap m p.0 p.1 other.0)) ∙ joined-swap key f swap (set m p.0 p.1) pairs other.1

pub set_is_swap : (key value : List ℕ) (m : List Pair) (a x : List ℕ) → a ≢ key → set (set m a x) key value ≡ set (set m key value) a x
set_is_swap key value m a x other = set-swap m a key x value other

unset_is_swap : (key : List ℕ) (m : List Pair) (a x : List ℕ) → a ≢ key → unset (set m a x) key ≡ set (unset m key) a x
unset_is_swap key m a x other = unset-swap m a key x other

-- joining pairs round a key, with a value for it
joined-round : (m front back : List Pair) (key value : List ℕ) → AllAbove key back → joined m (front ++ (key, value) ∷ back) ≡ set (joined m (front ++ back)) key value
joined-round m front back key value above =
    joined-append m front ((key, value) ∷ back)
    ∙ joined-swap key (λ n. set n key value) (set_is_swap key value) (joined m front) back (above_other key back above)
    ∙ ap (λ n. set n key value) (sym (joined-append m front back))

pub set_is_change : (key value : List ℕ) → IsChange key (λ m. set m key value)
set_is_change key value = record { swap = set_is_swap key value; joins = λ m pairs up clean. by m pairs (around_key key pairs up) }
  where
    by : (m pairs : List Pair) → Around key pairs → joined m (set pairs key value) ≡ set (joined m pairs) key value
    by m pairs a = of a.is
      where
        of : (pairs ≡ a.front ++ a.back) ⊎ ((old : List ℕ) × (pairs ≡ a.front ++ (key, old) ∷ a.back)) → joined m (set pairs key value) ≡ set (joined m pairs) key value
        of (inl e) =
            ap (joined m) (ap (λ xs. set xs key value) e ∙ set_new key a.front a.back a.below a.above value)
            ∙ joined-round m a.front a.back key value a.above ∙ ap (λ xs. set (joined m xs) key value) (sym e)
        of (inr e) =
            ap (joined m) (ap (λ xs. set xs key value) e.1 ∙ set_again key a.front a.back a.below a.above e.0 value)
            ∙ joined-round m a.front a.back key value a.above
            ∙ sym (set-set (joined m (a.front ++ a.back)) key e.0 value)
            ∙ ap (λ n. set n key value) (sym (joined-round m a.front a.back key e.0 a.above) ∙ ap (joined m) (sym e.1))

-- pairs with other keys keep a key out
still_clean : (key : List ℕ) (m pairs : List Pair) → unset m key ≡ m → AllOther key pairs → unset (joined m pairs) key ≡ joined m pairs
still_clean key m pairs clean other = sym (joined-swap key (λ n. unset n key) (unset_is_swap key) m pairs other) ∙ ap (λ n. joined n pairs) clean

pub round_other : (key : List ℕ) (front back : List Pair) → AllBelow key front → AllAbove key back → AllOther key (front ++ back)
round_other key front back below above = all_append (λ p. p.0 ≢ key) front back (below_other key front below) (above_other key back above)

pub unset_is_change : (key : List ℕ) → IsChange key (λ m. unset m key)
unset_is_change key = record { swap = unset_is_swap key; joins = λ m pairs up clean. by m pairs clean (around_key key pairs up) }
  where
    by : (m pairs : List Pair) → unset m key ≡ m → Around key pairs → joined m (unset pairs key) ≡ unset (joined m pairs) key
    by m pairs clean a = of a.is
      where
        without : joined m (a.front ++ a.back) ≡ unset (joined m (a.front ++ a.back)) key
        without = sym (still_clean key m (a.front ++ a.back) clean (round_other key a.front a.back a.below a.above))

        of : (pairs ≡ a.front ++ a.back) ⊎ ((old : List ℕ) × (pairs ≡ a.front ++ (key, old) ∷ a.back)) → joined m (unset pairs key) ≡ unset (joined m pairs) key
        of (inl e) =
            ap (joined m) (ap (λ xs. unset xs key) e ∙ unset_absent key a.front a.back a.below a.above)
            ∙ without ∙ ap (λ xs. unset (joined m xs) key) (sym e)
        of (inr e) =
            ap (joined m) (ap (λ xs. unset xs key) e.1 ∙ unset_there key a.front a.back a.below a.above e.0)
            ∙ without
            ∙ sym (unset-set (joined m (a.front ++ a.back)) key e.0)
            ∙ ap (λ n. unset n key) (sym (joined-round m a.front a.back key e.0 a.above) ∙ ap (joined m) (sym e.1))

-- the keys of pairs belong to a bucket
abbrev pub AllInBucket : ℕ → List Pair → Type 0
AllInBucket bucket pairs = AllByRecursion (λ p. (bucket_of p.0 == bucket) ≡ true) pairs

module _ (key : List ℕ) (bucket : ℕ) (of_bucket : (bucket_of key == bucket) ≡ true) (old : ℕ → List Pair) (in_bucket : (i : ℕ) → i < 256 → AllInBucket i (old i)) where
  -- the keys of other buckets are others
  other_keys : (i : ℕ) → i < 256 → i ≢ bucket → AllOther key (old i)
  other_keys i h other =
      all_map (λ p. (bucket_of p.0 == i) ≡ true) (λ p. p.0 ≢ key)
      (λ p is e. other (sym (eqb-true (bucket_of p.0) i is) ∙ ap bucket_of e ∙ eqb-true (bucket_of key) bucket of_bucket)) (old i) (in_bucket i h)

  other_trees : (from n : ℕ) → bucket < from → from + n ≤ 256 → AllOther key (flat_map old (range_with_len from n))
  other_trees from zero behind h = tt
  other_trees from (suc n) behind h =
      all_append (λ p. p.0 ≢ key) (old from) (flat_map old (range_with_len (from + 1) n)) (other_keys from (omega arith) (λ e. absurd (omega (arith, behind, e))))
      (other_trees (from + 1) n (omega arith) (omega arith))

  get-joined : (m pairs : List Pair) → AllOther key pairs → get (joined m pairs) key ≡ get m key
  get-joined m [] other = refl
  get-joined m (p ∷ pairs) other = get-joined (set m p.0 p.1) pairs other.1 ∙ get-set_other m p.0 key p.1 other.0

  clean_get : (m : List Pair) → unset m key ≡ m → get m key ≡ None
  unfolding unset
  clean_get m clean =
      ap (λ n. get n key) (sym clean)
      ∙ get_none key (pairs_below key m ++ pairs_above key m) (round_other key (pairs_below key m) (pairs_above key m) (all_pass (λ p. is_below p.0 key) m) (all_pass (λ p. is_below key p.0) m))

  module _ (up : is_ascending (keys_of (old bucket)) ≡ true) where
    get-tree : (m : List Pair) → unset m key ≡ m → get (joined m (old bucket)) key ≡ get (old bucket) key
    get-tree m clean = by (around_key key (old bucket) up)
      where
        by : Around key (old bucket) → get (joined m (old bucket)) key ≡ get (old bucket) key
        by a = of a.is
          where
            of : (old bucket ≡ a.front ++ a.back) ⊎ ((v : List ℕ) × (old bucket ≡ a.front ++ (key, v) ∷ a.back)) → get (joined m (old bucket)) key ≡ get (old bucket) key
            of (inl e) =
                let none = round_other key a.front a.back a.below a.above in
                ap (λ xs. get (joined m xs) key) e ∙ get-joined m (a.front ++ a.back) none ∙ clean_get m clean
                ∙ sym (ap (λ xs. get xs key) e ∙ get_none key (a.front ++ a.back) none)
            of (inr e) =
                ap (λ xs. get (joined m xs) key) e.1 ∙ ap (λ n. get n key) (joined-round m a.front a.back key e.0 a.above)
                ∙ get-set_same (joined m (a.front ++ a.back)) key e.0
                ∙ sym (ap (λ xs. get xs key) e.1 ∙ get_behind key a.front ((key, e.0) ∷ a.back) (below_other key a.front a.below) ∙ get_here key e.0 a.back)

    get-trees : (from n : ℕ) (m : List Pair) → unset m key ≡ m → from ≤ bucket → bucket < from + n → from + n ≤ 256 → get (joined m (flat_map old (range_with_len from n))) key ≡ get (old bucket) key
    get-trees from zero m clean low high h = absurd (omega arith)
    get-trees from (suc n) m clean low high h =
        ap (λ x. get x key) (joined-append m (old from) (flat_map old (range_with_len (from + 1) n))) ∙ by (from == bucket) refl
        (λ other. get-trees (from + 1) n (joined m (old from)) (still_clean key m (old from) clean (other_keys from (omega arith) other)) (omega (arith, other)) (omega arith) (omega arith))
      where
        by : (b : Bool) → (from == bucket) ≡ b
            → (from ≢ bucket → get (joined (joined m (old from)) (flat_map old (range_with_len (from + 1) n))) key ≡ get (old bucket) key)
            → get (joined (joined m (old from)) (flat_map old (range_with_len (from + 1) n))) key ≡ get (old bucket) key
        by true here rest =
            let e : from ≡ bucket = eqb-true from bucket here in
            get-joined (joined m (old from)) (flat_map old (range_with_len (from + 1) n)) (other_trees (from + 1) n (omega (arith, e)) (omega arith))
            ∙ subst (λ i. get (joined m (old i)) key ≡ get (old bucket) key) (sym e) (get-tree m clean)
        by false other rest = rest (λ e. true≢false (sym (eq-eqb from bucket e) ∙ other))

    -- the map of all trees has of a key what the tree of its bucket has
    pub get-map : bucket < 256 → get (from_pairs (flat_map old (range_with_len 0 256))) key ≡ get (old bucket) key
    unfolding from_pairs
    get-map h = get-trees 0 256 [] (unset_absent key [] [] tt tt) (omega arith) (omega (arith, h)) (omega arith)

    module _ (new : ℕ → List Pair) (f : List Pair → List Pair) (change : IsChange key f)
        (same : (i : ℕ) → i < 256 → i ≢ bucket → new i ≡ old i) (changed : new bucket ≡ f (old bucket)) where
      same_trees : (from n : ℕ) → bucket < from → from + n ≤ 256 → flat_map new (range_with_len from n) ≡ flat_map old (range_with_len from n)
      same_trees from zero behind h = refl
      same_trees from (suc n) behind h =
          ap (λ xs. xs ++ flat_map new (range_with_len (from + 1) n)) (same from (omega arith) (λ e. absurd (omega (arith, behind, e))))
          ∙ ap (λ xs. old from ++ xs) (same_trees (from + 1) n (omega arith) (omega arith))

      changed_trees : (from n : ℕ) (m : List Pair) → unset m key ≡ m → from ≤ bucket → bucket < from + n → from + n ≤ 256
          → joined m (flat_map new (range_with_len from n)) ≡ f (joined m (flat_map old (range_with_len from n)))
      changed_trees from zero m clean low high h = absurd (omega arith)
      changed_trees from (suc n) m clean low high h =
          joined-append m (new from) (flat_map new (range_with_len (from + 1) n)) ∙ by (from == bucket) refl
          (λ other. changed_trees (from + 1) n (joined m (old from)) (still_clean key m (old from) clean (other_keys from (omega arith) other)) (omega (arith, other)) (omega arith) (omega arith))
          ∙ ap f (sym (joined-append m (old from) (flat_map old (range_with_len (from + 1) n))))
        where
          by : (b : Bool) → (from == bucket) ≡ b
              → (from ≢ bucket → joined (joined m (old from)) (flat_map new (range_with_len (from + 1) n)) ≡ f (joined (joined m (old from)) (flat_map old (range_with_len (from + 1) n))))
              → joined (joined m (new from)) (flat_map new (range_with_len (from + 1) n)) ≡ f (joined (joined m (old from)) (flat_map old (range_with_len (from + 1) n)))
          by true here rest =
              let e : from ≡ bucket = eqb-true from bucket here in
              ap (joined (joined m (new from))) (same_trees (from + 1) n (omega (arith, e)) (omega arith))
              ∙ ap (λ x. joined x (flat_map old (range_with_len (from + 1) n))) (subst (λ i. joined m (new i) ≡ f (joined m (old i))) (sym e) (ap (joined m) changed ∙ change.joins m (old bucket) up clean))
              ∙ joined-swap key f change.swap (joined m (old from)) (flat_map old (range_with_len (from + 1) n)) (other_trees (from + 1) n (omega (arith, e)) (omega arith))
          by false other rest =
              let o : from ≢ bucket = λ e. true≢false (sym (eq-eqb from bucket e) ∙ other) in
              ap (λ xs. joined (joined m xs) (flat_map new (range_with_len (from + 1) n))) (same from (omega arith) o) ∙ rest o

      -- the map of all trees is changed as the tree of the key's bucket
      pub changed_map : bucket < 256 → from_pairs (flat_map new (range_with_len 0 256)) ≡ f (from_pairs (flat_map old (range_with_len 0 256)))
      unfolding from_pairs
      changed_map h = changed_trees 0 256 [] (unset_absent key [] [] tt tt) (omega arith) (omega (arith, h)) (omega arith)
