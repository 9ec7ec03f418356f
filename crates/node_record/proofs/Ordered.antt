-- The place of a key among items in the order of their keys.
use Rattle.std.proofs.Common.{◌≡◌, ◌⊎◌, ℕ, zero, suc, ◌+◌, ◌<◌, ◌≤◌, true, false, cond, List, [], ◌∷◌, ◌++◌, length, take, drop, get_or, slice_get, Some, refl, sym, ap, subst, ◌∙◌, inl, inr, true≢false, arith, append-nil, take-append-drop}
use Rattle.std.specs.Prelude.{filter, map}
use Rattle.std.specs.List.{AllByRecursion}
use Rattle.std.specs.List.Sorted.{IsPartitionedBy, IsPartitionPoint}
use Rattle.std.proofs.lemmas.List.{length-take, length-drop, get_or-take, get_or-drop}
use Rattle.std.proofs.lemmas.List.Elements.{filter-append, recursion_from_All, All-from_recursion}
use Rattle.fine_model.specs.Map.{is_ascending, is_below}
use Rattle.fine_model.proofs.Ordered.Order.{order_cases, is_below-trans, is_below-asym, filter_all, filter_none, all_map}
use Rattle.fine_model.proofs.Ordered.InOrder.{AreUp, AreUp-drop, AreUp-from_ascending}
use Rattle.node_record.specs.Places.{StandsAt, BelongsAt}

module _ {A : Type 0} (name : A → List ℕ) where
  -- in ascending items, none that is below a key comes after one that is not
  partitioned : (key : List ℕ) (xs : List A) → AreUp name xs → IsPartitionedBy (λ x. is_below (name x) key) xs
  partitioned key xs up i j d le lt low = by xs i j up le lt low
    where
      one : (x : A) (xs : List A) (j : ℕ) → AllByRecursion (λ y. is_below (name x) (name y) ≡ true) xs → j < length xs → is_below (name (get_or xs j d)) key ≡ true → is_below (name x) key ≡ true
      one x xs j above lt low = is_below-trans (name x) (name (get_or xs j d)) key (All-from_recursion (λ y. is_below (name x) (name y) ≡ true) xs above j d lt) low

      by : (xs : List A) (i j : ℕ) → AreUp name xs → i ≤ j → j < length xs → is_below (name (get_or xs j d)) key ≡ true → is_below (name (get_or xs i d)) key ≡ true
      by [] i j up le lt low = absurd (omega arith)
      by (x ∷ xs) zero zero up le lt low = low
      by (x ∷ xs) zero (suc j) up le lt low = one x xs j up.0 (omega arith) low
      by (x ∷ xs) (suc i) zero up le lt low = absurd (omega arith)
      by (x ∷ xs) (suc i) (suc j) up le lt low = by xs i j up.1 (omega arith) (omega arith) low

  module _ (key : List ℕ) (xs : List A) (i : ℕ) (within : i ≤ length xs) (point : IsPartitionPoint (λ x. is_below (name x) key ≡ true) (λ x. is_below (name x) key ≡ false) xs i) where
    all_before : AllByRecursion (λ x. is_below (name x) key ≡ true) (take i xs)
    all_before = recursion_from_All (λ x. is_below (name x) key ≡ true) (take i xs) (λ k d lt.
        let below : k < i = omega (arith, length-take i xs) in
        rw (get_or-take i xs k d below) (point.0 k d (omega arith) below))

    none_after : AllByRecursion (λ x. is_below (name x) key ≡ false) (drop i xs)
    none_after = recursion_from_All (λ x. is_below (name x) key ≡ false) (drop i xs) (λ k d lt.
        rw (get_or-drop i xs k d) (point.1 (i + k) d (omega arith) (omega (arith, length-drop i xs))))

    -- those below the key stand before the place
    lower_is : filter (λ x. is_below (name x) key) xs ≡ take i xs
    lower_is =
        sym (ap (filter (λ x. is_below (name x) key)) (take-append-drop i xs)) ∙ filter-append (λ x. is_below (name x) key) (take i xs) (drop i xs)
        ∙ ap (λ (ys : List A). ys ++ filter (λ x. is_below (name x) key) (drop i xs)) (filter_all (λ x. is_below (name x) key) (take i xs) all_before)
        ∙ ap (λ (ys : List A). take i xs ++ ys) (filter_none (λ x. is_below (name x) key) (drop i xs) none_after) ∙ append-nil (take i xs)

    -- those above it are among the others
    higher_is : filter (λ x. is_below key (name x)) xs ≡ filter (λ x. is_below key (name x)) (drop i xs)
    higher_is =
        sym (ap (filter (λ x. is_below key (name x))) (take-append-drop i xs)) ∙ filter-append (λ x. is_below key (name x)) (take i xs) (drop i xs)
        ∙ ap (λ (ys : List A). ys ++ filter (λ x. is_below key (name x)) (drop i xs)) (filter_none (λ x. is_below key (name x)) (take i xs) (all_map (λ x. is_below (name x) key ≡ true) (λ x. is_below key (name x) ≡ false) (λ x h. is_below-asym (name x) key h) (take i xs) all_before))

  pub at_drop : (xs : List A) (i : ℕ) (x : A) → slice_get xs i ≡ Some x → drop i xs ≡ x ∷ drop (suc i) xs
  at_drop [] i x is = absurd (cc)
  at_drop (y ∷ ys) zero x is = let e : y ≡ x = cc in ap (λ (z : A). z ∷ ys) e
  at_drop (y ∷ ys) (suc i) x is = at_drop ys i x is

  past_end : (xs : List A) (i : ℕ) → length xs ≤ i → drop i xs ≡ []
  past_end [] zero le = refl
  past_end [] (suc i) le = refl
  past_end (x ∷ xs) zero le = absurd (omega arith)
  past_end (x ∷ xs) (suc i) le = past_end xs i (omega arith)

  -- ascending items, of which those below a key stand before a place
  pub record IsParted (key : List ℕ) (xs : List A) (i : ℕ) : Type 0 where
    pub within : i ≤ length xs
    pub up : AreUp name xs
    pub point : IsPartitionPoint (λ x. is_below (name x) key ≡ true) (λ x. is_below (name x) key ≡ false) xs i

  -- a search for the place of ascending items finds it
  pub parted : (key : List ℕ) (xs ys : List A) (i : ℕ) → ys ≡ xs → i ≤ length ys → is_ascending (map name xs) ≡ true
      → (IsPartitionedBy (λ x. is_below (name x) key) xs → IsPartitionPoint (λ x. is_below (name x) key ≡ true) (λ x. is_below (name x) key ≡ false) xs i) → IsParted key xs i
  parted key xs ys i same bound ascending found =
      let up = AreUp-from_ascending name xs ascending in
      record { within = omega (arith, bound, ap length same); up = up; point = found (partitioned key xs up) }

  module _ (key : List ℕ) (xs : List A) (i : ℕ) (at : IsParted key xs i) where
    within : i ≤ length xs
    within = at.within

    up : AreUp name xs
    up = at.up

    point : IsPartitionPoint (λ x. is_below (name x) key ≡ true) (λ x. is_below (name x) key ≡ false) xs i
    point = at.point

    -- the item at the place is not above the key, so it has the key
    pub stands_at : (lt : i < length xs) (x : A) → slice_get xs i ≡ Some x → is_below key (name x) ≡ false → StandsAt name key xs i
    stands_at lt x is high =
        let rest = subst (λ (ys : List A). AreUp name ys) (at_drop xs i x is) (AreUp-drop name i xs up) in
        let low : is_below (name x) key ≡ false = (subst (λ (ys : List A). AllByRecursion (λ x. is_below (name x) key ≡ false) ys) (at_drop xs i x is) (none_after key xs i within point)).0 in
        let same : name x ≡ key = by (order_cases (name x) key) low in
        record {
          within = lt;
          here = (x, is, same);
          lower = lower_is key xs i within point;
          higher = higher_is key xs i within point ∙ ap (filter (λ x. is_below key (name x))) (at_drop xs i x is)
              ∙ ap (λ b. cond b (x ∷ filter (λ x. is_below key (name x)) (drop (suc i) xs)) (filter (λ x. is_below key (name x)) (drop (suc i) xs))) high
              ∙ filter_all (λ x. is_below key (name x)) (drop (suc i) xs) (subst (λ (k : List ℕ). AllByRecursion (λ y. is_below k (name y) ≡ true) (drop (suc i) xs)) same rest.0);
        }
      where
        by : ((is_below (name x) key ≡ true) × (is_below key (name x) ≡ false)) ⊎ (name x ≡ key) ⊎ ((is_below key (name x) ≡ true) × (is_below (name x) key ≡ false)) → is_below (name x) key ≡ false → name x ≡ key
        by (inl a) low = absurd (true≢false (sym a.0 ∙ low))
        by (inr (inl e)) low = e
        by (inr (inr b)) low = absurd (true≢false (sym b.0 ∙ high))

    -- the item at the place is above the key
    pub belongs_before : (x : A) → slice_get xs i ≡ Some x → is_below key (name x) ≡ true → BelongsAt name key xs i
    belongs_before x is high =
        let rest = subst (λ (ys : List A). AreUp name ys) (at_drop xs i x is) (AreUp-drop name i xs up) in
        let above : AllByRecursion (λ y. is_below key (name y) ≡ true) (drop i xs) =
        subst (λ (ys : List A). AllByRecursion (λ y. is_below key (name y) ≡ true) ys) (sym (at_drop xs i x is)) (high, all_map (λ y. is_below (name x) (name y) ≡ true) (λ y. is_below key (name y) ≡ true) (λ y h. is_below-trans key (name x) (name y) high h) (drop (suc i) xs) rest.0) in
        record { within = within; lower = lower_is key xs i within point; higher = higher_is key xs i within point ∙ filter_all (λ x. is_below key (name x)) (drop i xs) above }

    -- the place is behind all items
    pub belongs_last : length xs ≤ i → BelongsAt name key xs i
    belongs_last le = record { within = within; lower = lower_is key xs i within point; higher = higher_is key xs i within point ∙ ap (filter (λ x. is_below key (name x))) (past_end xs i le) ∙ sym (past_end xs i le) }
