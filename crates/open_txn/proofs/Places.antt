-- Lists of which one place is set, or which are gone through from the front.
use Rattle.std.proofs.Common.{arith, ◌≡◌, ◌≢◌, ◌⊎◌, ⊎_elim, ℕ, zero, suc, ◌+◌, ◌<◌, List, [], ◌∷◌, ◌++◌, length, take, drop, get_or, slice_get, slice_set, Some, inl, inr, refl, sym, ap, ◌∙◌, subst, append_assoc}
use Rattle.std.specs.List.{AllZip}
use Rattle.std.proofs.lemmas.List.{take-append-drop, take_more}
use Rattle.std.proofs.lemmas.Option.{same_Some, slice_get-get_or}

-- an item of a list of which one place was set is what was set there, or is as before
pub item_of_set : {A : Type 0} (xs : List A) (i j : ℕ) (x y : A) → slice_get (slice_set xs i x) j ≡ Some y → ((j ≡ i) × (y ≡ x)) ⊎ ((j ≢ i) × (slice_get xs j ≡ Some y))
item_of_set [] i j x y is = absurd cc
item_of_set (z ∷ xs) zero zero x y is = inl (refl, same_Some y x (sym is))
item_of_set (z ∷ xs) zero (suc j) x y is = inr (λ e. absurd cc, is)
item_of_set (z ∷ xs) (suc i) zero x y is = inr (λ e. absurd cc, is)
item_of_set (z ∷ xs) (suc i) (suc j) x y is =
    elim (item_of_set xs i j x y is) as (λ _. ((suc j ≡ suc i) × (y ≡ x)) ⊎ ((suc j ≢ suc i) × (slice_get xs j ≡ Some y))) [
      | inl here ↦ inl (ap suc here.0, here.1)
      | inr there ↦ inr (λ e. there.0 (omega (arith, e)), there.1)
    ]

-- so what holds of each item still holds
pub each_of_set : {A : Type 0} (P : ℕ → A → Type 0) (xs ys : List A) (i : ℕ) (x : A) → ys ≡ slice_set xs i x → P i x → ((j : ℕ) (y : A) → j ≢ i → slice_get xs j ≡ Some y → P j y) → (j : ℕ) (y : A) → slice_get ys j ≡ Some y → P j y
each_of_set P xs ys i x are here others j y is =
    ⊎_elim (λ (h : (j ≡ i) × (y ≡ x)). subst (λ (n : ℕ). P n y) (sym h.0) (subst (P i) (sym h.1) here)) (λ (h : (j ≢ i) × (slice_get xs j ≡ Some y)). others j y h.0 h.1)
    (item_of_set xs i j x y (ap (λ l. slice_get l j) (sym are) ∙ is))

-- two lists that are related place by place, with more of them behind
pub zip_append : {A B : Type 0} (R : A → B → Type 0) (xs : List A) (ys : List B) (xs' : List A) (ys' : List B) → AllZip R xs ys → AllZip R xs' ys' → AllZip R (xs ++ xs') (ys ++ ys')
zip_append R [] [] xs' ys' a b = b
zip_append R [] (y ∷ ys) xs' ys' a b = absurd a
zip_append R (x ∷ xs) [] xs' ys' a b = absurd a
zip_append R (x ∷ xs) (y ∷ ys) xs' ys' a b = (a.0, zip_append R xs ys xs' ys' a.1 b)

pub get_same : {A : Type 0} (xs : List A) (i : ℕ) (a b : A) → slice_get xs i ≡ Some a → slice_get (slice_set xs i b) i ≡ Some b
get_same [] i a b is = absurd cc
get_same (x ∷ xs) zero a b is = refl
get_same (x ∷ xs) (suc i) a b is = get_same xs i a b is

pub get_else : {A : Type 0} (xs : List A) (i j : ℕ) (b : A) → j ≢ i → slice_get (slice_set xs i b) j ≡ slice_get xs j
get_else [] i j b ne = refl
get_else (x ∷ xs) zero zero b ne = absurd (ne refl)
get_else (x ∷ xs) zero (suc j) b ne = refl
get_else (x ∷ xs) (suc i) zero b ne = refl
get_else (x ∷ xs) (suc i) (suc j) b ne = get_else xs i j b (λ e. ne (ap suc e))

-- what an index within a list gives stands there
pub there_at : {A : Type 0} (xs : List A) (i : ℕ) (x d : A) → i < length xs → x ≡ get_or xs i d → slice_get xs i ≡ Some x
there_at xs i x d within is = slice_get-get_or xs i d within ∙ ap Some (sym is)

-- ---- an item on the way through a list

-- with the item, the front is one longer
pub taken_on : {A : Type 0} (i : ℕ) (xs : List A) (x : A) → x ≡ get_or xs i x → i < length xs → take i xs ++ x ∷ [] ≡ take (i + 1) xs
taken_on i xs x is within = ap (λ y. take i xs ++ y ∷ []) is ∙ sym (take_more xs i x within)

-- with the item and what is behind it, it is the list
pub cut_around : {A : Type 0} (i : ℕ) (xs : List A) (x : A) → x ≡ get_or xs i x → i < length xs → take i xs ++ x ∷ drop (i + 1) xs ≡ xs
cut_around i xs x is within = sym (append_assoc (take i xs) (x ∷ []) (drop (i + 1) xs)) ∙ ap (λ l. l ++ drop (i + 1) xs) (taken_on i xs x is within) ∙ take-append-drop (i + 1) xs
