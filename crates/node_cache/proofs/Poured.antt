-- Items that are moved to another list from the end.
use Rattle.std.proofs.Common.{◌≡◌, ℕ, zero, suc, ◌-◌, ◌<◌, ◌≤◌, List, [], ◌∷◌, ◌++◌, length, reverse, slice_get, Some, sym, ap, ◌∙◌, arith, append_assoc}
use Rattle.std.specs.List.{remove}
use Rattle.std.proofs.lemmas.List.{reverse-append}

-- the items from a place on are moved, the last one first
pub record IsPoured {A : Type 0} (from : ℕ) (old new to to' : List A) : Type 0 where
  pub low : from ≤ length new
  pub front : List A
  pub is : old ≡ new ++ front
  pub moved : to' ≡ to ++ reverse front

-- one more is moved
pub poured_one : {A : Type 0} (from : ℕ) (old mid new to to' to'' : List A) (x : A) → IsPoured from old mid to to' → from ≤ length new → mid ≡ new ++ x ∷ [] → to'' ≡ to' ++ x ∷ [] → IsPoured from old new to to''
poured_one from old mid new to to' to'' x poured low is more = record {
  low = low;
  front = x ∷ poured.front;
  is = poured.is ∙ ap (λ xs. xs ++ poured.front) is ∙ append_assoc new (x ∷ []) poured.front;
  moved = more ∙ ap (λ xs. xs ++ x ∷ []) poured.moved ∙ append_assoc to (reverse poured.front) (x ∷ []) ∙ ap (λ xs. to ++ xs) (sym (reverse-append (x ∷ []) poured.front));
}

last_at : {A : Type 0} (xs : List A) (i : ℕ) (x : A) → suc i ≡ length xs → slice_get xs i ≡ Some x → xs ≡ remove xs i ++ x ∷ []
last_at [] i x long is = cc
last_at (y ∷ []) zero x long is = let same : y ≡ x = cc in ap (λ (z : _). z ∷ []) same
last_at (y ∷ z ∷ ys) zero x long is = absurd (omega (arith, long))
last_at (y ∷ ys) (suc i) x long is = ap (λ zs. y ∷ zs) (last_at ys i x (omega (arith, long)) is)

-- an item that was last
pub last_one : {A : Type 0} (xs : List A) (i : ℕ) (x : A) → 0 < length xs → i ≡ length xs - 1 → slice_get xs i ≡ Some x → xs ≡ remove xs i ++ x ∷ []
last_one xs i x long at is = last_at xs i x (omega (arith, long, at)) is

-- what is behind the last one comes first in reverse
pub reverse-push : {A : Type 0} (xs : List A) (x : A) → reverse (xs ++ x ∷ []) ≡ x ∷ reverse xs
reverse-push xs x = reverse-append xs (x ∷ [])
