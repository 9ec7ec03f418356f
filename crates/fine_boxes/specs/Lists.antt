-- Lists by what stands at an index, sums over seats and views, and facts of all that a list has.
use Rattle.std.proofs.Common.{◌≡◌, ◌≢◌, ℕ, zero, suc, ◌+◌, ◌<◌, List, [], ◌∷◌, length, slice_get, set, sum_by, take, drop, Some, sym, refl, ap, ⊎_elim, arith}
use Rattle.std.specs.List.{AllByRecursion}
use Rattle.std.proofs.lemmas.List.Sums.{sum_by-cons}
use mathlib.Core.Option.{some, some-injective, some-ne-none}
use lib.ListN.{get_elem?}
use Rattle.fine_places.proofs.Lists.{decide}
use Rattle.fine_boxes.specs.Boxes.{sum_below}

head : {A : Type 0} → A → List A → A
head a [] = a
head a (x ∷ xs) = x

tail : {A : Type 0} → List A → List A
tail [] = []
tail (x ∷ xs) = xs

pub first_same : {A : Type 0} (a b : A) (xs ys : List A) → a ∷ xs ≡ b ∷ ys → a ≡ b
unfolding head
first_same a b xs ys e = ap (head a) e

pub rest_same : {A : Type 0} (a b : A) (xs ys : List A) → a ∷ xs ≡ b ∷ ys → xs ≡ ys
unfolding tail
rest_same a b xs ys e = ap tail e

module _ {A : Type 0} where
  pub get_set_here : (l : List A) (i : ℕ) (a : A) → i < length l → slice_get (set l i a) i ≡ Some a
  get_set_here [] i a h = absurd (omega arith)
  get_set_here (x ∷ xs) zero a h = refl
  get_set_here (x ∷ xs) (suc i) a h = get_set_here xs i a (omega arith)

  pub get_set_else : (l : List A) (i j : ℕ) (a : A) → j ≢ i → slice_get (set l i a) j ≡ slice_get l j
  get_set_else [] i j a n = refl
  get_set_else (x ∷ xs) zero zero a n = absurd (n refl)
  get_set_else (x ∷ xs) zero (suc j) a n = refl
  get_set_else (x ∷ xs) (suc i) zero a n = refl
  get_set_else (x ∷ xs) (suc i) (suc j) a n = get_set_else xs i j a (λ e. n (ap suc e))

  -- ---- sums

  -- one item of a sum is another
  pub sum_set : (f : A → ℕ) (l : List A) (i : ℕ) (a b : A) → get_elem? l i ≡ some a → sum_by f (set l i b) + f a ≡ sum_by f l + f b
  sum_set f [] i a b e = absurd (some-ne-none a (sym e))
  sum_set f (x ∷ xs) zero a b e = let p = sum_by-cons f b xs in let q = sum_by-cons f x xs in let r = ap f (some-injective x a e) in omega arith
  sum_set f (x ∷ xs) (suc i) a b e = let p = sum_by-cons f x (set xs i b) in let q = sum_by-cons f x xs in let r = sum_set f xs i a b e in omega arith

  pub sum_same : (f : A → ℕ) (l : List A) (i : ℕ) (a b : A) → get_elem? l i ≡ some a → f b ≡ f a → sum_by f (set l i b) ≡ sum_by f l
  sum_same f l i a b e same = let p = sum_set f l i a b e in omega arith

  pub sum_cut : (f : A → ℕ) (n : ℕ) (l : List A) → sum_by f (drop n l) + sum_by f (take n l) ≡ sum_by f l
  sum_cut f zero l = omega arith
  sum_cut f (suc n) [] = refl
  sum_cut f (suc n) (x ∷ xs) = let p = sum_by-cons f x (take n xs) in let q = sum_by-cons f x xs in let r = sum_cut f n xs in omega arith

  -- ---- what all of a list have

  pub all_both : {P Q R : A → Type 0} → ((a : A) → P a → Q a → R a) → (l : List A) → AllByRecursion P l → AllByRecursion Q l → AllByRecursion R l
  all_both f [] p q = tt
  all_both f (x ∷ xs) p q = (f x p.0 q.0, all_both f xs p.1 q.1)

  pub all_drop : (P : A → Type 0) (n : ℕ) (l : List A) → AllByRecursion P l → AllByRecursion P (drop n l)
  all_drop P zero l p = p
  all_drop P (suc n) [] p = tt
  all_drop P (suc n) (x ∷ xs) p = all_drop P n xs p.1

  pub all_take : (P : A → Type 0) (n : ℕ) (l : List A) → AllByRecursion P l → AllByRecursion P (take n l)
  all_take P zero l p = tt
  all_take P (suc n) [] p = tt
  all_take P (suc n) (x ∷ xs) p = (p.0, all_take P n xs p.1)

-- ---- sums over seats

pub sum_below_same : (n : ℕ) (f g : ℕ → ℕ) → ((i : ℕ) → i < n → f i ≡ g i) → sum_below n f ≡ sum_below n g
sum_below_same zero f g same = refl
sum_below_same (suc n) f g same = let p = sum_below_same n f g (λ i lt. same i (omega arith)) in let q = same n (omega arith) in omega arith

-- one seat's is another
pub sum_below_put : (n : ℕ) (f g : ℕ → ℕ) (k : ℕ) → k < n → ((i : ℕ) → i < n → i ≢ k → g i ≡ f i) → sum_below n g + f k ≡ sum_below n f + g k
sum_below_put zero f g k lt same = absurd (omega arith)
sum_below_put (suc n) f g k lt same = ⊎_elim
    (λ (e : k ≡ n). let p = sum_below_same n g f (λ i l. same i (omega arith) (λ z. omega arith)) in let a = ap f e in let b = ap g e in omega arith)
    (λ (ne : k ≢ n). let p = sum_below_put n f g k (omega arith) (λ i l other. same i (omega arith) other) in let q = same n (omega arith) (λ z. ne (sym z)) in omega arith)
    (decide k n)

-- the place of the first slot in hand
at_first : {A : Type 0} → List (ℕ × A) → ℕ
at_first [] = 0
at_first (x ∷ xs) = x.0

pub same_place : {A : Type 0} (j k : ℕ) (a b : A) (c d : List (ℕ × A)) → (j, a) ∷ c ≡ (k, b) ∷ d → j ≡ k
unfolding at_first
same_place j k a b c d e = ap at_first e
