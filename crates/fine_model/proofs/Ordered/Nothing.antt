-- Lists in which a test finds nothing.
use Rattle.std.proofs.Common.{◌≡◌, ℕ, ◌+◌, ◌<◌, nat_eq, Bool, true, false, cond, ◌||◌, List, [], ◌∷◌, ◌++◌, zero, suc, refl, sym, ap, ◌∙◌, subst, true≢false, eqb-true, eq-eqb, Some, None, option_map, arith}
use Rattle.std.specs.Prelude.{Option, find, filter_map, flat_map, map}
use Rattle.std.specs.List.{AllByRecursion, list_any, range_with_len, cons_option}
use Rattle.std.proofs.lemmas.Bool.{or_parts, or_left, or_right}
use Rattle.fine_model.proofs.Ordered.Order.{all_map}

pub none_found : {A : Type 0} (p : A → Bool) (xs : List A) → find p xs ≡ None → AllByRecursion (λ x. p x ≡ false) xs
none_found p [] none = tt
none_found p (x ∷ xs) none = by (p x) refl none (none_found p xs)
  where
    by : (b : Bool) → p x ≡ b → cond b (Some x) (find p xs) ≡ None → (find p xs ≡ None → AllByRecursion (λ y. p y ≡ false) xs) → (p x ≡ false) × AllByRecursion (λ y. p y ≡ false) xs
    by true e h rest = absurd cc
    by false e h rest = (e, rest h)

pub finds_none : {A : Type 0} (p : A → Bool) (xs : List A) → AllByRecursion (λ x. p x ≡ false) xs → find p xs ≡ None
finds_none p [] all = refl
finds_none p (x ∷ xs) all = ap (λ b. cond b (Some x) (find p xs)) all.0 ∙ finds_none p xs all.1

pub map_none : {A B : Type 0} (f : A → B) (o : Option A) → option_map f o ≡ None → o ≡ None
map_none f None e = refl
map_none f (Some x) e = absurd cc

pub none_kept : {A B : Type 0} (f : A → Option B) (xs : List A) → filter_map f xs ≡ [] → AllByRecursion (λ x. f x ≡ None) xs
none_kept f [] none = tt
none_kept {A} {B} f (x ∷ xs) none = by (f x) refl none (none_kept f xs)
  where
    by : (o : Option B) → f x ≡ o → cons_option o (filter_map f xs) ≡ [] → (filter_map f xs ≡ [] → AllByRecursion (λ y. f y ≡ None) xs) → (f x ≡ None) × AllByRecursion (λ y. f y ≡ None) xs
    by None e h rest = (e, rest h)
    by (Some y) e h rest = absurd cc

pub keeps_none : {A B : Type 0} (f : A → Option B) (xs : List A) → AllByRecursion (λ x. f x ≡ None) xs → filter_map f xs ≡ []
keeps_none f [] all = refl
keeps_none f (x ∷ xs) all = ap (λ o. cons_option o (filter_map f xs)) all.0 ∙ keeps_none f xs all.1

pub any_none : {A : Type 0} (p : A → Bool) (xs : List A) → list_any p xs ≡ false → AllByRecursion (λ x. p x ≡ false) xs
any_none p [] none = tt
any_none p (x ∷ xs) none = let h = or_parts (p x) (list_any p xs) none in (h.0, any_none p xs h.1)

pub none_any : {A : Type 0} (p : A → Bool) (xs : List A) → AllByRecursion (λ x. p x ≡ false) xs → list_any p xs ≡ false
none_any p [] all = refl
none_any p (x ∷ xs) all = ap (λ b. b || list_any p xs) all.0 ∙ none_any p xs all.1

pub any_flat : {A B : Type 0} (p : B → Bool) (f : A → List B) (xs : List A) → AllByRecursion (λ x. list_any p (f x) ≡ false) xs → list_any p (flat_map f xs) ≡ false
any_flat p f [] all = refl
any_flat {A} {B} p f (x ∷ xs) all = any_joined (f x) all.0 (any_flat p f xs all.1)
  where
    any_joined : (ys : List B) → list_any p ys ≡ false → list_any p (flat_map f xs) ≡ false → list_any p (ys ++ flat_map f xs) ≡ false
    any_joined [] h rest = rest
    any_joined (y ∷ ys) h rest = let e = or_parts (p y) (list_any p ys) h in ap (λ b. b || list_any p (ys ++ flat_map f xs)) e.0 ∙ any_joined ys e.1 rest

-- what holds of numbers in a row
pub all_range : (P : ℕ → Type 0) (a n : ℕ) → AllByRecursion P (range_with_len a n) → (i : ℕ) → i < n → P (a + i)
all_range P a zero all i h = absurd (omega (arith, h))
all_range P a (suc n) all zero h = subst P (omega arith) all.0
all_range P a (suc n) all (suc i) h = subst P (omega arith) (all_range P (a + 1) n all.1 i (omega (arith, h)))

pub all_below : (P : ℕ → Type 0) (n : ℕ) → AllByRecursion P (range_with_len 0 n) → (i : ℕ) → i < n → P i
all_below P n all i h = let e : 0 + i ≡ i = omega arith in subst P e (all_range P 0 n all i h)

pub all_mapped : {A B : Type 0} (P : B → Type 0) (f : A → B) (xs : List A) → AllByRecursion P (map f xs) → AllByRecursion (λ x. P (f x)) xs
all_mapped P f [] all = tt
all_mapped P f (x ∷ xs) all = (all.0, all_mapped P f xs all.1)

-- a number that is found among numbers
pub all_at : (P : ℕ → Type 0) (n : ℕ) (ns : List ℕ) → AllByRecursion P ns → list_any (nat_eq n) ns ≡ true → P n
all_at P n [] all there = absurd (true≢false (sym there))
all_at P n (m ∷ ns) all there = by (nat_eq n m) refl there (all_at P n ns all.1)
  where
    by : (b : Bool) → nat_eq n m ≡ b → (b || list_any (nat_eq n) ns) ≡ true → (list_any (nat_eq n) ns ≡ true → P n) → P n
    by true e h rest = subst P (sym (eqb-true n m e)) all.0
    by false e h rest = rest h

-- each number is found among its list
pub each_there : (ns : List ℕ) → AllByRecursion (λ n. list_any (nat_eq n) ns ≡ true) ns
each_there [] = tt
each_there (n ∷ ns) = (
  or_left (nat_eq n n) (list_any (nat_eq n) ns) (eq-eqb n n refl),
  all_map (λ m. list_any (nat_eq m) ns ≡ true) (λ m. list_any (nat_eq m) (n ∷ ns) ≡ true) (λ m h. or_right (nat_eq m n) (list_any (nat_eq m) ns) h) ns (each_there ns),
)
