-- The place of a key among separators in order.
use Rattle.std.proofs.Common.{◌≡◌, ℕ, zero, suc, ◌<◌, ◌≤◌, Bool, true, false, cond, not, List, [], ◌∷◌, length, get_or, refl, sym, ap, ◌∙◌, true≢false, arith}
use Rattle.std.specs.Prelude.{filter}
use Rattle.std.specs.List.{AllByRecursion}
use Rattle.std.specs.List.Sorted.{IsPartitionedBy, IsPartitionPoint}
use Rattle.std.proofs.lemmas.Bool.{not-true}
use Rattle.std.proofs.lemmas.List.Elements.{All-from_recursion}
use Rattle.fine_model.specs.Map.{is_below}
use Rattle.fine_model.proofs.Ordered.Order.{is_below-trans}
use Rattle.fine_model.proofs.Ordered.InOrder.{AreUp}

-- a separator that the key is not below
abbrev pub is_left : List ℕ → List ℕ → Bool
is_left key sep = not (is_below key sep)

-- so many items pass as stand before the place from which on none does
pub point_filter : {A : Type 0} (p : A → Bool) (xs : List A) (i : ℕ) → i ≤ length xs → IsPartitionPoint (λ x. p x ≡ true) (λ x. p x ≡ false) xs i → length (filter p xs) ≡ i
point_filter p [] i within point = omega arith
point_filter p (x ∷ xs) zero within point =
    ap (λ b. length (cond b (x ∷ filter p xs) (filter p xs))) (point.1 zero x (omega arith) (omega arith))
    ∙ point_filter p xs zero (omega arith) (λ k d lt below. absurd (omega arith), λ k d from lt. point.1 (suc k) d (omega arith) (omega arith))
point_filter p (x ∷ xs) (suc i) within point =
    ap (λ b. length (cond b (x ∷ filter p xs) (filter p xs))) (point.0 zero x (omega arith) (omega arith))
    ∙ ap suc (point_filter p xs i (omega arith) (λ k d lt below. point.0 (suc k) d (omega arith) (omega arith), λ k d from lt. point.1 (suc k) d (omega arith) (omega arith)))

-- none that the key is not below comes after one that it is below
pub left_first : (key : List ℕ) (xs : List (List ℕ)) → AreUp (λ k. k) xs → IsPartitionedBy (is_left key) xs
left_first key xs up i j d le lt left = by xs i j up le lt left
  where
    one : (x : List ℕ) (xs : List (List ℕ)) (j : ℕ) → AllByRecursion (λ y. is_below x y ≡ true) xs → j < length xs → is_left key (get_or xs j d) ≡ true → is_left key x ≡ true
    one x xs j above lt left = of (is_below key x) refl
      where
        of : (b : Bool) → is_below key x ≡ b → not b ≡ true
        of true e = absurd (true≢false (sym (is_below-trans key x (get_or xs j d) e (All-from_recursion (λ y. is_below x y ≡ true) xs above j d lt)) ∙ not-true (is_below key (get_or xs j d)) left))
        of false e = refl

    by : (xs : List (List ℕ)) (i j : ℕ) → AreUp (λ k. k) xs → i ≤ j → j < length xs → is_left key (get_or xs j d) ≡ true → is_left key (get_or xs i d) ≡ true
    by [] i j up le lt left = absurd (omega arith)
    by (x ∷ xs) zero zero up le lt left = left
    by (x ∷ xs) zero (suc j) up le lt left = one x xs j up.0 (omega arith) left
    by (x ∷ xs) (suc i) zero up le lt left = absurd (omega arith)
    by (x ∷ xs) (suc i) (suc j) up le lt left = by xs i j up.1 (omega arith) (omega arith) left
