-- Lists by the items at their places.
use Rattle.std.proofs.Common.{◌≡◌, ℕ, zero, suc, ◌+◌, ◌<◌, ◌≤◌, List, [], ◌∷◌, ◌++◌, length, map, slice_index, set, All, refl, sym, ap, ◌∙◌, subst, arith, length-append}
use Rattle.std.specs.Prelude.{get_or}
use mathlib.Core.Option.{some, some-injective, some-ne-none}
use lib.ListN.{get_elem?}

pub elem_at : {A : Type 0} (l : List A) (i : ℕ) (d : A) → i < length l → get_elem? l i ≡ some (get_or l i d)
elem_at [] i d lt = absurd (omega (arith, lt))
elem_at (x ∷ l) zero d lt = refl
elem_at (x ∷ l) (suc i) d lt = elem_at l i d (omega (arith, lt))

pub read_at : {A : Type 0} (l : List A) (i : ℕ) (p d : A) → get_elem? l i ≡ some p → (i < length l) × (get_or l i d ≡ p)
read_at [] i p d e = absurd (some-ne-none p (sym e))
read_at (x ∷ l) zero p d e = (omega arith, some-injective x p e)
read_at (x ∷ l) (suc i) p d e = let r = read_at l i p d e in (let lt = r.0 in omega (arith, lt), r.1)

pub each_of : {A : Type 0} (P : A → Type 0) (l : List A) → All P l → (i : ℕ) (p : A) → get_elem? l i ≡ some p → P p
each_of P l all i p at = let r = read_at l i p p at in subst P r.1 (all i p r.0)

pub two_cases : {A : Type 0} (a b : A) (l : List A) (P : A → Type 0) → l ≡ a ∷ b ∷ [] → P a → P b → (i : ℕ) (p : A) → get_elem? l i ≡ some p → P p
two_cases {A} a b l P is pa pb i p at = go i (ap (λ (m : List A). get_elem? m i) (sym is) ∙ at)
  where
    go : (i : ℕ) → get_elem? (a ∷ b ∷ []) i ≡ some p → P p
    go zero e = subst P (some-injective a p e) pa
    go (suc zero) e = subst P (some-injective b p e) pb
    go (suc (suc n)) e = absurd (some-ne-none p (sym e))

-- the numbers that items have stay, where each item has its own still
pub same_each : {A : Type 0} (f : A → ℕ) (before after : List A) → length after ≡ length before → ((i : ℕ) (d : A) → i < length before → f (get_or after i d) ≡ f (get_or before i d)) → map f after ≡ map f before
same_each f [] [] long each = refl
same_each f [] (q ∷ after) long each = absurd (omega (arith, long))
same_each f (p ∷ before) [] long each = absurd (omega (arith, long))
same_each f (p ∷ before) (q ∷ after) long each =
    let first = each 0 p (omega arith) in
    let rest = same_each f before after (omega (arith, long)) (λ i d lt. each (suc i) d (omega (arith, lt))) in
    λ i. first i ∷ rest i

-- all numbers below one more are at least n
pub least_more : (l : List ℕ) (k u n : ℕ) → k < length l → n ≤ u → ((i : ℕ) → i < k → n ≤ slice_index l i) → (i : ℕ) → i < k + 1 → n ≤ slice_index (set l k u) i
least_more [] k u n long up all i lt = absurd (omega (arith, long))
least_more (x ∷ l) zero u n long up all zero lt = up
least_more (x ∷ l) zero u n long up all (suc i) lt = absurd (omega (arith, lt))
least_more (x ∷ l) (suc k) u n long up all zero lt = all 0 (omega arith)
least_more (x ∷ l) (suc k) u n long up all (suc i) lt = least_more l k u n (omega (arith, long)) up (λ j near. all (suc j) (omega (arith, near))) i (omega (arith, lt))

-- a list that a loop fills has one item more, and so has its count
pub one_more : {A : Type 0} (l l' : List A) (a : A) (i n n' : ℕ) → l' ≡ l ++ a ∷ [] → length l ≡ i → n ≡ i → n' ≡ n + 1 → (length l' ≡ i + 1) × (n' ≡ i + 1)
one_more l l' a i n n' is long counted next = let more = ap length is ∙ length-append l (a ∷ []) in (omega (arith, more, long), omega (arith, next, counted))
