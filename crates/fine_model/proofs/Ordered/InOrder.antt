-- Items in the order of their keys.
use Rattle.std.proofs.Common.{◌≡◌, ◌⊎◌, ℕ, zero, suc, Bool, true, false, cond, ◌&&◌, List, [], ◌∷◌, ◌++◌, map, drop, refl, ap, subst, ◌∙◌, inl, inr, sym}
use Rattle.std.specs.Prelude.{filter}
use Rattle.std.specs.List.{AllByRecursion}
use Rattle.fine_model.specs.Map.{is_below, is_ascending}
use Rattle.fine_model.proofs.Ordered.Order.{is_below-trans, first_of_both}
use Rattle.fine_model.proofs.Ordered.Sets.{all_filter, all_append, all_pass}

module _ {A : Type 0} (name : A → List ℕ) where
  -- each item is below all behind it
  abbrev pub AreUp : List A → Type 0
  AreUp [] = Unit {0}
  AreUp (x ∷ xs) = AllByRecursion (λ y. is_below (name x) (name y) ≡ true) xs × AreUp xs

  behind : (key : List ℕ) (x : A) (xs : List A) → is_ascending (map name (x ∷ xs)) ≡ true → (is_below key (name x) ≡ true) ⊎ (key ≡ name x) → AllByRecursion (λ y. is_below key (name y) ≡ true) xs
  behind key x [] up from = tt
  behind key x (y ∷ ys) up from = (step from, behind key y ys (first_of_both (is_below (name x) (name y)) (is_ascending (map name (y ∷ ys))) up).1 (inl (step from)))
    where
      step : (is_below key (name x) ≡ true) ⊎ (key ≡ name x) → is_below key (name y) ≡ true
      step (inl h) = is_below-trans key (name x) (name y) h (first_of_both (is_below (name x) (name y)) (is_ascending (map name (y ∷ ys))) up).0
      step (inr e) = subst (λ k. is_below k (name y) ≡ true) (sym e) (first_of_both (is_below (name x) (name y)) (is_ascending (map name (y ∷ ys))) up).0

  pub AreUp-from_ascending : (xs : List A) → is_ascending (map name xs) ≡ true → AreUp xs
  AreUp-from_ascending [] up = tt
  AreUp-from_ascending (x ∷ []) up = (tt, tt)
  AreUp-from_ascending (x ∷ y ∷ ys) up = (behind (name x) x (y ∷ ys) up (inr refl), AreUp-from_ascending (y ∷ ys) (first_of_both (is_below (name x) (name y)) (is_ascending (map name (y ∷ ys))) up).1)

  pub ascending_from_up : (xs : List A) → AreUp xs → is_ascending (map name xs) ≡ true
  ascending_from_up [] up = refl
  ascending_from_up (x ∷ []) up = refl
  ascending_from_up (x ∷ y ∷ ys) up = ap (λ b. b && is_ascending (map name (y ∷ ys))) up.0.0 ∙ ascending_from_up (y ∷ ys) up.1

  pub AreUp-drop : (n : ℕ) (xs : List A) → AreUp xs → AreUp (drop n xs)
  AreUp-drop zero xs up = up
  AreUp-drop (suc n) [] up = up
  AreUp-drop (suc n) (x ∷ xs) up = AreUp-drop n xs up.1

module _ {A : Type 0} (name : A → List ℕ) where
  pub AreUp-filter : (p : A → Bool) (xs : List A) → AreUp name xs → AreUp name (filter p xs)
  AreUp-filter p [] up = tt
  AreUp-filter p (x ∷ xs) up = by (p x) (AreUp-filter p xs up.1)
    where
      by : (b : Bool) → AreUp name (filter p xs) → AreUp name (cond b (x ∷ filter p xs) (filter p xs))
      by true rest = (all_filter (λ y. is_below (name x) (name y) ≡ true) p xs up.0, rest)
      by false rest = rest

  -- items below a key, and then items above it
  pub AreUp-join : (key : List ℕ) (front back : List A) → AreUp name front → AllByRecursion (λ x. is_below (name x) key ≡ true) front → AreUp name back → AllByRecursion (λ x. is_below key (name x) ≡ true) back → AreUp name (front ++ back)
  AreUp-join key [] back up low up' high = up'
  AreUp-join key (x ∷ front) back up low up' high =
      (all_append (λ y. is_below (name x) (name y) ≡ true) front back up.0 (above back high), AreUp-join key front back up.1 low.1 up' high)
    where
      above : (ys : List A) → AllByRecursion (λ y. is_below key (name y) ≡ true) ys → AllByRecursion (λ y. is_below (name x) (name y) ≡ true) ys
      above [] high = tt
      above (y ∷ ys) high = (is_below-trans (name x) key (name y) low.0 high.0, above ys high.1)

  -- and the key's own item between them
  pub AreUp-around : (item : A) (front back : List A) → AreUp name front → AllByRecursion (λ x. is_below (name x) (name item) ≡ true) front → AreUp name back → AllByRecursion (λ x. is_below (name item) (name x) ≡ true) back → AreUp name (front ++ item ∷ back)
  AreUp-around item [] back up low up' high = (high, up')
  AreUp-around item (x ∷ front) back up low up' high =
      (all_append (λ y. is_below (name x) (name y) ≡ true) front (item ∷ back) up.0 (low.0, above back high), AreUp-around item front back up.1 low.1 up' high)
    where
      above : (ys : List A) → AllByRecursion (λ y. is_below (name item) (name y) ≡ true) ys → AllByRecursion (λ y. is_below (name x) (name y) ≡ true) ys
      above [] high = tt
      above (y ∷ ys) high = (is_below-trans (name x) (name item) (name y) low.0 high.0, above ys high.1)

  module _ (item : A) (xs : List A) where
    abbrev below : List A
    below = filter (λ x. is_below (name x) (name item)) xs

    abbrev above : List A
    above = filter (λ x. is_below (name item) (name x)) xs

    pub set_up : AreUp name xs → AreUp name (below ++ item ∷ above)
    set_up up = AreUp-around item below above (AreUp-filter (λ x. is_below (name x) (name item)) xs up) (all_pass (λ x. is_below (name x) (name item)) xs) (AreUp-filter (λ x. is_below (name item) (name x)) xs up) (all_pass (λ x. is_below (name item) (name x)) xs)

    pub set_all : (P : A → Type 0) → P item → AllByRecursion P xs → AllByRecursion P (below ++ item ∷ above)
    set_all P one all = all_append P below (item ∷ above) (all_filter P (λ x. is_below (name x) (name item)) xs all) (one, all_filter P (λ x. is_below (name item) (name x)) xs all)
