-- Items of two lists, one after the other.
use Rattle.std.proofs.Common.{◌≡◌, ◌⊎◌, inl, inr, ℕ, zero, suc, ◌+◌, ◌<◌, ◌≤◌, ◌==◌, cond, List, [], ◌∷◌, ◌++◌, length, Option, Some, None, refl, sym, ap, subst, ◌∙◌, ⊎_elim, arith, length-append}
use Rattle.std.specs.Prelude.{All, Contains, count_by, slice_get, take}
use Rattle.std.specs.List.{AllByRecursion}
use Rattle.std.proofs.lemmas.Option.{none-some, same_Some, slice_get_within}

pub at_append : {A : Type 0} (xs ys : List A) (m : ℕ) (y : A) → slice_get (xs ++ ys) m ≡ Some y → (slice_get xs m ≡ Some y) ⊎ ((k : ℕ) × (length xs + k ≡ m) × (slice_get ys k ≡ Some y))
at_append [] ys m y is = inr (m, omega arith, is)
at_append (x ∷ xs) ys zero y is = inl is
at_append (x ∷ xs) ys (suc m) y is = ⊎_elim (λ h. inl h) (λ h. let e = h.1 in inr (h.0, omega (arith, e), h.2)) (at_append xs ys m y is)

pub kept_at : {A : Type 0} (xs ys : List A) (m : ℕ) (y : A) → slice_get xs m ≡ Some y → slice_get (xs ++ ys) m ≡ Some y
kept_at [] ys m y is = absurd (none-some y is)
kept_at (x ∷ xs) ys zero y is = is
kept_at (x ∷ xs) ys (suc m) y is = kept_at xs ys m y is

pub take_front : {A : Type 0} (xs ys : List A) → take (length xs) (xs ++ ys) ≡ xs
take_front [] ys = refl
take_front (x ∷ xs) ys = ap (λ l. x ∷ l) (take_front xs ys)

pub none_in : {A : Type 0} (x : A) → Contains [] x → ⊥
none_in x h = let lt = h.1 in omega (arith, lt)

pub all_append : {A : Type 0} (P : A → Type 0) (xs ys : List A) → AllByRecursion P xs → AllByRecursion P ys → AllByRecursion P (xs ++ ys)
all_append P [] ys all more = more
all_append P (x ∷ xs) ys all more = (all.0, all_append P xs ys all.1 more)

pub all_at : {A : Type 0} (P : A → Type 0) (xs : List A) → AllByRecursion P xs → (i : ℕ) (x : A) → slice_get xs i ≡ Some x → P x
all_at P [] all i x is = absurd (none-some x is)
all_at P (y ∷ ys) all zero x is = subst P (same_Some y x is) all.0
all_at P (y ∷ ys) all (suc i) x is = all_at P ys all.1 i x is

-- what stands at a place within a list
pub item_at : {A : Type 0} (l : List A) (i : ℕ) → i < length l → (a : A) × (slice_get l i ≡ Some a)
item_at [] i lt = absurd (omega (arith, lt))
item_at (a ∷ l) zero lt = (a, refl)
item_at (a ∷ l) (suc i) lt = item_at l i (omega (arith, lt))
