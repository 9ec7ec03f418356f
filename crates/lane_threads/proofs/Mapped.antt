-- What a function makes of the items of a list.
use Rattle.std.proofs.Common.{◌≡◌, ℕ, zero, suc, List, [], ◌∷◌, length, map, Some, refl, ap}
use Rattle.std.specs.Prelude.{slice_get}
use Rattle.std.proofs.lemmas.Option.{none-some, same_Some}

pub mapped : {A B : Type 0} (f : A → B) (l : List A) (k : ℕ) (a : A) → slice_get l k ≡ Some a → slice_get (map f l) k ≡ Some (f a)
mapped f [] k a is = absurd (none-some a is)
mapped f (x ∷ l) zero a is = ap (λ y. Some (f y)) (same_Some x a is)
mapped f (x ∷ l) (suc k) a is = mapped f l k a is

pub unmapped : {A B : Type 0} (f : A → B) (l : List A) (k : ℕ) (b : B) → slice_get (map f l) k ≡ Some b → (a : A) × (slice_get l k ≡ Some a) × (f a ≡ b)
unmapped f [] k b is = absurd (none-some b is)
unmapped f (x ∷ l) zero b is = (x, refl, same_Some (f x) b is)
unmapped f (x ∷ l) (suc k) b is = unmapped f l k b is

pub mapped_long : {A B : Type 0} (f : A → B) (l : List A) → length (map f l) ≡ length l
mapped_long f [] = refl
mapped_long f (x ∷ l) = ap suc (mapped_long f l)
