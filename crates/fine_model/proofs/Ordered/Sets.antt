-- Setting a pair keeps the order, and reaches only the part of a list where its key belongs.
use Rattle.std.proofs.Common.{◌≡◌, ℕ, Bool, true, false, cond, ◌&&◌, List, [], ◌∷◌, ◌++◌, refl, sym, ap, ◌∙◌, inr, append-nil, append_assoc}
use Rattle.std.specs.Prelude.{filter}
use Rattle.std.specs.List.{AllByRecursion, list_all}
use Rattle.std.proofs.lemmas.List.Elements.{filter-append}
use Rattle.fine_model.specs.Map.{Pair, is_below, is_ascending, pairs_below, pairs_above, set}
use Rattle.fine_model.proofs.Ordered.Order.{AllBelow, AllAbove, keys_of, is_below-asym, filter_all, filter_none, all_map, first_of_both, above_first}

-- what is set before pairs that are above it, and behind pairs that are below it
pub set-append_left : (front back : List Pair) (key value : List ℕ) → AllAbove key back → set (front ++ back) key value ≡ set front key value ++ back
unfolding set
set-append_left front back key value above =
    ap (λ xs. xs ++ (key, value) ∷ pairs_above key (front ++ back)) (filter-append (λ p. is_below p.0 key) front back
    ∙ ap (λ xs. pairs_below key front ++ xs) (filter_none (λ p. is_below p.0 key) back (all_map (λ p. is_below key p.0 ≡ true) (λ p. is_below p.0 key ≡ false) (λ p h. is_below-asym key p.0 h) back above))
    ∙ append-nil (pairs_below key front))
    ∙ ap (λ xs. pairs_below key front ++ (key, value) ∷ xs) (filter-append (λ p. is_below key p.0) front back ∙ ap (λ xs. pairs_above key front ++ xs) (filter_all (λ p. is_below key p.0) back above))
    ∙ sym (append_assoc (pairs_below key front) ((key, value) ∷ pairs_above key front) back)

pub set-append_right : (front back : List Pair) (key value : List ℕ) → AllBelow key front → set (front ++ back) key value ≡ front ++ set back key value
unfolding set
set-append_right front back key value below =
    ap (λ xs. xs ++ (key, value) ∷ pairs_above key (front ++ back)) (filter-append (λ p. is_below p.0 key) front back ∙ ap (λ xs. xs ++ pairs_below key back) (filter_all (λ p. is_below p.0 key) front below))
    ∙ ap (λ xs. (front ++ pairs_below key back) ++ (key, value) ∷ xs) (filter-append (λ p. is_below key p.0) front back
    ∙ ap (λ xs. xs ++ pairs_above key back) (filter_none (λ p. is_below key p.0) front (all_map (λ p. is_below p.0 key ≡ true) (λ p. is_below key p.0 ≡ false) (λ p h. is_below-asym p.0 key h) front below)))
    ∙ append_assoc front (pairs_below key back) ((key, value) ∷ pairs_above key back)

-- a pair below all others goes before them
pub ascending-cons : (p : Pair) (pairs : List Pair) → AllAbove p.0 pairs → is_ascending (keys_of pairs) ≡ true → is_ascending (keys_of (p ∷ pairs)) ≡ true
ascending-cons p [] above up = refl
ascending-cons p (q ∷ pairs) above up = ap (λ b. b && is_ascending (keys_of (q ∷ pairs))) above.0 ∙ up

pub ascending-tail : (p : Pair) (pairs : List Pair) → is_ascending (keys_of (p ∷ pairs)) ≡ true → is_ascending (keys_of pairs) ≡ true
ascending-tail p [] up = refl
ascending-tail p (q ∷ pairs) up = (first_of_both (is_below p.0 q.0) (is_ascending (keys_of (q ∷ pairs))) up).1

pub all_filter : {A : Type 0} (P : A → Type 0) (p : A → Bool) (xs : List A) → AllByRecursion P xs → AllByRecursion P (filter p xs)
all_filter P p [] all = tt
all_filter P p (x ∷ xs) all = by (p x) (all_filter P p xs all.1)
  where
    by : (b : Bool) → AllByRecursion P (filter p xs) → AllByRecursion P (cond b (x ∷ filter p xs) (filter p xs))
    by true rest = (all.0, rest)
    by false rest = rest

-- a part of ascending pairs ascends
pub ascending-filter : (p : Pair → Bool) (pairs : List Pair) → is_ascending (keys_of pairs) ≡ true → is_ascending (keys_of (filter p pairs)) ≡ true
ascending-filter p [] up = refl
ascending-filter p (q ∷ pairs) up = by (p q) (ascending-filter p pairs (ascending-tail q pairs up))
  where
    by : (b : Bool) → is_ascending (keys_of (filter p pairs)) ≡ true → is_ascending (keys_of (cond b (q ∷ filter p pairs) (filter p pairs))) ≡ true
    by true rest = ascending-cons q (filter p pairs) (all_filter (λ r. is_below q.0 r.0 ≡ true) p pairs (above_first q.0 q pairs up (inr refl))) rest
    by false rest = rest

-- pairs below a pair, the pair, and pairs above it
pub ascending-around : (front : List Pair) (p : Pair) (back : List Pair) → is_ascending (keys_of front) ≡ true → AllBelow p.0 front → is_ascending (keys_of back) ≡ true → AllAbove p.0 back → is_ascending (keys_of (front ++ p ∷ back)) ≡ true
ascending-around [] p back up below up' above = ascending-cons p back above up'
ascending-around (q ∷ []) p back up below up' above = ap (λ b. b && is_ascending (keys_of (p ∷ back))) below.0 ∙ ascending-cons p back above up'
ascending-around (q ∷ r ∷ front) p back up below up' above =
    ap (λ b. b && is_ascending (keys_of ((r ∷ front) ++ p ∷ back))) (first_of_both (is_below q.0 r.0) (is_ascending (keys_of (r ∷ front))) up).0
    ∙ ascending-around (r ∷ front) p back (first_of_both (is_below q.0 r.0) (is_ascending (keys_of (r ∷ front))) up).1 below.1 up' above

pub all_pass : {A : Type 0} (p : A → Bool) (xs : List A) → AllByRecursion (λ x. p x ≡ true) (filter p xs)
all_pass p [] = tt
all_pass p (x ∷ xs) = by (p x) refl (all_pass p xs)
  where
    by : (b : Bool) → p x ≡ b → AllByRecursion (λ x. p x ≡ true) (filter p xs) → AllByRecursion (λ x. p x ≡ true) (cond b (x ∷ filter p xs) (filter p xs))
    by true is rest = (is, rest)
    by false is rest = rest

pub ascending-set : (pairs : List Pair) (key value : List ℕ) → is_ascending (keys_of pairs) ≡ true → is_ascending (keys_of (set pairs key value)) ≡ true
unfolding set
ascending-set pairs key value up =
    ascending-around (pairs_below key pairs) (key, value) (pairs_above key pairs) (ascending-filter (λ p. is_below p.0 key) pairs up) (all_pass (λ p. is_below p.0 key) pairs)
    (ascending-filter (λ p. is_below key p.0) pairs up) (all_pass (λ p. is_below key p.0) pairs)

pub list_all-from : {A : Type 0} (p : A → Bool) (xs : List A) → AllByRecursion (λ x. p x ≡ true) xs → list_all p xs ≡ true
list_all-from p [] all = refl
list_all-from p (x ∷ xs) all = ap (λ b. b && list_all p xs) all.0 ∙ list_all-from p xs all.1

pub all_from_list_all : {A : Type 0} (p : A → Bool) (xs : List A) → list_all p xs ≡ true → AllByRecursion (λ x. p x ≡ true) xs
all_from_list_all p [] h = tt
all_from_list_all p (x ∷ xs) h = ((first_of_both (p x) (list_all p xs) h).0, all_from_list_all p xs (first_of_both (p x) (list_all p xs) h).1)

pub all_append : {A : Type 0} (P : A → Type 0) (xs ys : List A) → AllByRecursion P xs → AllByRecursion P ys → AllByRecursion P (xs ++ ys)
all_append P [] ys a b = b
all_append P (x ∷ xs) ys a b = (a.0, all_append P xs ys a.1 b)

-- what holds of all pairs and of one more holds of all with that one set
pub list_all-set : (p : Pair → Bool) (pairs : List Pair) (key value : List ℕ) → list_all p pairs ≡ true → p (key, value) ≡ true → list_all p (set pairs key value) ≡ true
unfolding set
list_all-set p pairs key value all one =
    list_all-from p (pairs_below key pairs ++ (key, value) ∷ pairs_above key pairs)
    (all_append (λ x. p x ≡ true) (pairs_below key pairs) ((key, value) ∷ pairs_above key pairs)
    (all_filter (λ x. p x ≡ true) (λ q. is_below q.0 key) pairs (all_from_list_all p pairs all))
    (one, all_filter (λ x. p x ≡ true) (λ q. is_below key q.0) pairs (all_from_list_all p pairs all)))
