-- How setting, removing and looking up go together, on pairs in any order.
use Rattle.std.proofs.Common.{◌≡◌, ◌≢◌, ◌⊎◌, ℕ, Bool, true, false, cond, ◌&&◌, List, [], ◌∷◌, ◌++◌, refl, sym, ap, ◌∙◌, inl, inr, true≢false, Some, None, append-nil, append_assoc, option_map}
use Rattle.std.specs.Prelude.{filter, find, bytes_eq}
use Rattle.std.specs.List.{AllByRecursion}
use Rattle.std.proofs.lemmas.List.Elements.{filter-append}
use Rattle.std.proofs.lemmas.Slice.Eq.{bytes_eq-Decides}
use Rattle.fine_model.specs.Map.{Pair, is_below, is_ascending, pairs_below, pairs_above, get, set, unset}
use Rattle.fine_model.proofs.Ordered.Order.{AllBelow, AllAbove, order_cases, is_below-trans, is_below-asym, is_below-self, filter_all, filter_none, all_map, set_again, unset_there, keys_of, above_first}
use Rattle.fine_model.proofs.Ordered.Sets.{set-append_left, set-append_right, all_pass, ascending-tail}

pub filter_twice : {A : Type 0} (p q : A → Bool) (xs : List A) → filter p (filter q xs) ≡ filter (λ x. q x && p x) xs
filter_twice p q [] = refl
filter_twice p q (x ∷ xs) = by (q x) (filter_twice p q xs)
  where
    by : (b : Bool) → filter p (filter q xs) ≡ filter (λ x. q x && p x) xs → filter p (cond b (x ∷ filter q xs) (filter q xs)) ≡ cond (b && p x) (x ∷ filter (λ x. q x && p x) xs) (filter (λ x. q x && p x) xs)
    by true rest = ap (λ ys. cond (p x) (x ∷ ys) ys) rest
    by false rest = rest

filter_same : {A : Type 0} (p q : A → Bool) (same : (x : A) → p x ≡ q x) (xs : List A) → filter p xs ≡ filter q xs
filter_same p q same [] = refl
filter_same p q same (x ∷ xs) = ap (λ b. cond b (x ∷ filter p xs) (filter p xs)) (same x) ∙ ap (λ ys. cond (q x) (x ∷ ys) ys) (filter_same p q same xs)

and_same : (a b : Bool) → (a ≡ true → b ≡ true) → (a && b) ≡ a
and_same true b h = h refl
and_same false b h = refl

and_swap : (a b : Bool) → (a && b) ≡ (b && a)
and_swap true true = refl
and_swap true false = refl
and_swap false true = refl
and_swap false false = refl

-- of two nested parts of pairs, the smaller one is left
filter_inner : (p q : Pair → Bool) (xs : List Pair) → ((x : Pair) → p x ≡ true → q x ≡ true) → filter p (filter q xs) ≡ filter p xs
filter_inner p q xs imply = filter_twice p q xs ∙ filter_same (λ x. q x && p x) p (λ x. and_swap (q x) (p x) ∙ and_same (p x) (q x) (imply x)) xs

filter_swap : (p q : Pair → Bool) (xs : List Pair) → filter p (filter q xs) ≡ filter q (filter p xs)
filter_swap p q xs = filter_twice p q xs ∙ filter_same (λ x. q x && p x) (λ x. p x && q x) (λ x. and_swap (q x) (p x)) xs ∙ sym (filter_twice q p xs)

-- what is removed before pairs that are above it, and behind pairs that are below it
pub unset-append_left : (front back : List Pair) (key : List ℕ) → AllAbove key back → unset (front ++ back) key ≡ unset front key ++ back
unfolding unset
unset-append_left front back key above =
    ap (λ xs. xs ++ pairs_above key (front ++ back)) (filter-append (λ p. is_below p.0 key) front back
    ∙ ap (λ xs. pairs_below key front ++ xs) (filter_none (λ p. is_below p.0 key) back (all_map (λ p. is_below key p.0 ≡ true) (λ p. is_below p.0 key ≡ false) (λ p h. is_below-asym key p.0 h) back above))
    ∙ append-nil (pairs_below key front))
    ∙ ap (λ xs. pairs_below key front ++ xs) (filter-append (λ p. is_below key p.0) front back ∙ ap (λ xs. pairs_above key front ++ xs) (filter_all (λ p. is_below key p.0) back above))
    ∙ sym (append_assoc (pairs_below key front) (pairs_above key front) back)

pub unset-append_right : (front back : List Pair) (key : List ℕ) → AllBelow key front → unset (front ++ back) key ≡ front ++ unset back key
unfolding unset
unset-append_right front back key below =
    ap (λ xs. xs ++ pairs_above key (front ++ back)) (filter-append (λ p. is_below p.0 key) front back ∙ ap (λ xs. xs ++ pairs_below key back) (filter_all (λ p. is_below p.0 key) front below))
    ∙ ap (λ xs. (front ++ pairs_below key back) ++ xs) (filter-append (λ p. is_below key p.0) front back
    ∙ ap (λ xs. xs ++ pairs_above key back) (filter_none (λ p. is_below key p.0) front (all_map (λ p. is_below p.0 key ≡ true) (λ p. is_below key p.0 ≡ false) (λ p h. is_below-asym p.0 key h) front below)))
    ∙ append_assoc front (pairs_below key back) (pairs_above key back)

pub set-set : (m : List Pair) (key old value : List ℕ) → set (set m key old) key value ≡ set m key value
unfolding set
set-set m key old value = set_again key (pairs_below key m) (pairs_above key m) (all_pass (λ p. is_below p.0 key) m) (all_pass (λ p. is_below key p.0) m) old value

pub unset-set : (m : List Pair) (key old : List ℕ) → unset (set m key old) key ≡ unset m key
unfolding set unset
unset-set m key old = unset_there key (pairs_below key m) (pairs_above key m) (all_pass (λ p. is_below p.0 key) m) (all_pass (λ p. is_below key p.0) m) old

module _ (m : List Pair) (a b : List ℕ) (low : is_below a b ≡ true) where
  below_both : filter (λ p. is_below p.0 a) (pairs_below b m) ≡ pairs_below a m
  below_both = filter_inner (λ p. is_below p.0 a) (λ p. is_below p.0 b) m (λ p h. is_below-trans p.0 a b h low)

  above_both : filter (λ p. is_below b p.0) (pairs_above a m) ≡ pairs_above b m
  above_both = filter_inner (λ p. is_below b p.0) (λ p. is_below a p.0) m (λ p h. is_below-trans a b p.0 low h)

  -- the pairs above b are above a, and the pairs below a are below b
  above_lower : AllAbove a (pairs_above b m)
  above_lower = all_map (λ p. is_below b p.0 ≡ true) (λ p. is_below a p.0 ≡ true) (λ p h. is_below-trans a b p.0 low h) (pairs_above b m) (all_pass (λ p. is_below b p.0) m)

  below_higher : AllBelow b (pairs_below a m)
  below_higher = all_map (λ p. is_below p.0 a ≡ true) (λ p. is_below p.0 b ≡ true) (λ p h. is_below-trans p.0 a b h low) (pairs_below a m) (all_pass (λ p. is_below p.0 a) m)

  -- two keys are set in any order, here the lower one first or last
  set-lower : (x y : List ℕ) → set (set m a x) b y ≡ set (set m b y) a x
  unfolding set
  set-lower x y =
      set-append_right (pairs_below a m) ((a, x) ∷ pairs_above a m) b y below_higher
      ∙ ap (λ xs. pairs_below a m ++ xs) (set-append_right ((a, x) ∷ []) (pairs_above a m) b y (low, tt))
      ∙ ap (λ xs. pairs_below a m ++ (a, x) ∷ xs) (ap (λ xs. xs ++ (b, y) ∷ filter (λ p. is_below b p.0) (pairs_above a m)) (filter_swap (λ p. is_below p.0 b) (λ p. is_below a p.0) m)
      ∙ ap (λ xs. filter (λ p. is_below a p.0) (pairs_below b m) ++ (b, y) ∷ xs) above_both)
      ∙ sym (append_assoc (pairs_below a m) ((a, x) ∷ filter (λ p. is_below a p.0) (pairs_below b m)) ((b, y) ∷ pairs_above b m))
      ∙ ap (λ xs. (xs ++ (a, x) ∷ filter (λ p. is_below a p.0) (pairs_below b m)) ++ (b, y) ∷ pairs_above b m) (sym below_both)
      ∙ sym (set-append_left (pairs_below b m) ((b, y) ∷ pairs_above b m) a x (low, above_lower))

  -- a higher key is removed before or behind the setting of a lower one
  unset-higher : (x : List ℕ) → unset (set m a x) b ≡ set (unset m b) a x
  unfolding set unset
  unset-higher x =
      unset-append_right (pairs_below a m) ((a, x) ∷ pairs_above a m) b below_higher
      ∙ ap (λ xs. pairs_below a m ++ xs) (unset-append_right ((a, x) ∷ []) (pairs_above a m) b (low, tt))
      ∙ ap (λ xs. pairs_below a m ++ (a, x) ∷ xs) (ap (λ xs. xs ++ filter (λ p. is_below b p.0) (pairs_above a m)) (filter_swap (λ p. is_below p.0 b) (λ p. is_below a p.0) m)
      ∙ ap (λ xs. filter (λ p. is_below a p.0) (pairs_below b m) ++ xs) above_both)
      ∙ sym (append_assoc (pairs_below a m) ((a, x) ∷ filter (λ p. is_below a p.0) (pairs_below b m)) (pairs_above b m))
      ∙ ap (λ xs. (xs ++ (a, x) ∷ filter (λ p. is_below a p.0) (pairs_below b m)) ++ pairs_above b m) (sym below_both)
      ∙ sym (set-append_left (pairs_below b m) (pairs_above b m) a x above_lower)

  -- and a lower one of a higher one
  unset-lower : (y : List ℕ) → unset (set m b y) a ≡ set (unset m a) b y
  unfolding set unset
  unset-lower y =
      unset-append_left (pairs_below b m) ((b, y) ∷ pairs_above b m) a (low, above_lower)
      ∙ ap (λ xs. (xs ++ filter (λ p. is_below a p.0) (pairs_below b m)) ++ (b, y) ∷ pairs_above b m) below_both
      ∙ append_assoc (pairs_below a m) (filter (λ p. is_below a p.0) (pairs_below b m)) ((b, y) ∷ pairs_above b m)
      ∙ ap (λ xs. pairs_below a m ++ xs) (ap (λ xs. xs ++ (b, y) ∷ pairs_above b m) (filter_swap (λ p. is_below a p.0) (λ p. is_below p.0 b) m)
      ∙ ap (λ xs. filter (λ p. is_below p.0 b) (pairs_above a m) ++ (b, y) ∷ xs) (sym above_both))
      ∙ sym (set-append_right (pairs_below a m) (pairs_above a m) b y below_higher)

pub set-swap : (m : List Pair) (a b x y : List ℕ) → a ≢ b → set (set m a x) b y ≡ set (set m b y) a x
set-swap m a b x y other = by (order_cases a b)
  where
    by : ((is_below a b ≡ true) × (is_below b a ≡ false)) ⊎ (a ≡ b) ⊎ ((is_below b a ≡ true) × (is_below a b ≡ false)) → set (set m a x) b y ≡ set (set m b y) a x
    by (inl h) = set-lower m a b h.0 x y
    by (inr (inl e)) = absurd (other e)
    by (inr (inr h)) = sym (set-lower m b a h.0 y x)

pub unset-swap : (m : List Pair) (a b x : List ℕ) → a ≢ b → unset (set m a x) b ≡ set (unset m b) a x
unset-swap m a b x other = by (order_cases a b)
  where
    by : ((is_below a b ≡ true) × (is_below b a ≡ false)) ⊎ (a ≡ b) ⊎ ((is_below b a ≡ true) × (is_below a b ≡ false)) → unset (set m a x) b ≡ set (unset m b) a x
    by (inl h) = unset-higher m a b h.0 x
    by (inr (inl e)) = absurd (other e)
    by (inr (inr h)) = unset-lower m b a h.0 x

-- the pair that is looked up: one with other keys before it or behind it
same_bytes : (a : List ℕ) → bytes_eq a a ≡ true
same_bytes a = (bytes_eq-Decides a a).1 refl

other_bytes : (a b : List ℕ) → a ≢ b → bytes_eq a b ≡ false
other_bytes a b other = by (bytes_eq a b) refl
  where
    by : (r : Bool) → bytes_eq a b ≡ r → bytes_eq a b ≡ false
    by true h = absurd (other ((bytes_eq-Decides a b).0 h))
    by false h = h

abbrev pub AllOther : List ℕ → List Pair → Type 0
AllOther key pairs = AllByRecursion (λ p. p.0 ≢ key) pairs

pub find_none : (key : List ℕ) (pairs : List Pair) → AllOther key pairs → find (λ p. bytes_eq p.0 key) pairs ≡ None
find_none key [] other = refl
find_none key (p ∷ pairs) other = ap (λ b. cond b (Some p) (find (λ p. bytes_eq p.0 key) pairs)) (other_bytes p.0 key other.0) ∙ find_none key pairs other.1

pub get_none : (key : List ℕ) (pairs : List Pair) → AllOther key pairs → get pairs key ≡ None
unfolding get
get_none key pairs other = ap (option_map (λ p. p.1)) (find_none key pairs other)

find_behind : (key : List ℕ) (front back : List Pair) → AllOther key front → find (λ p. bytes_eq p.0 key) (front ++ back) ≡ find (λ p. bytes_eq p.0 key) back
find_behind key [] back other = refl
find_behind key (p ∷ front) back other = ap (λ b. cond b (Some p) (find (λ p. bytes_eq p.0 key) (front ++ back))) (other_bytes p.0 key other.0) ∙ find_behind key front back other.1

find_before : (key : List ℕ) (front back : List Pair) → AllOther key back → find (λ p. bytes_eq p.0 key) (front ++ back) ≡ find (λ p. bytes_eq p.0 key) front
find_before key [] back other = find_none key back other
find_before key (p ∷ front) back other = ap (λ r. cond (bytes_eq p.0 key) (Some p) r) (find_before key front back other)

pub get_behind : (key : List ℕ) (front back : List Pair) → AllOther key front → get (front ++ back) key ≡ get back key
unfolding get
get_behind key front back other = ap (option_map (λ p. p.1)) (find_behind key front back other)

pub get_before : (key : List ℕ) (front back : List Pair) → AllOther key back → get (front ++ back) key ≡ get front key
unfolding get
get_before key front back other = ap (option_map (λ p. p.1)) (find_before key front back other)

pub get_here : (key value : List ℕ) (back : List Pair) → get ((key, value) ∷ back) key ≡ Some value
unfolding get
get_here key value back = ap (λ b. option_map (λ p. p.1) (cond b (Some (key, value)) (find (λ p. bytes_eq p.0 key) back))) (same_bytes key)

pub below_other : (key : List ℕ) (pairs : List Pair) → AllBelow key pairs → AllOther key pairs
below_other key pairs = all_map (λ p. is_below p.0 key ≡ true) (λ p. p.0 ≢ key) (λ p h e. true≢false (sym h ∙ ap (λ k. is_below k key) e ∙ is_below-self key)) pairs

pub above_other : (key : List ℕ) (pairs : List Pair) → AllAbove key pairs → AllOther key pairs
above_other key pairs = all_map (λ p. is_below key p.0 ≡ true) (λ p. p.0 ≢ key) (λ p h e. true≢false (sym h ∙ ap (is_below key) e ∙ is_below-self key)) pairs

-- what a key that was set has, and what the others keep
pub get-set_same : (m : List Pair) (key value : List ℕ) → get (set m key value) key ≡ Some value
unfolding set
get-set_same m key value =
    get_behind key (pairs_below key m) ((key, value) ∷ pairs_above key m) (below_other key (pairs_below key m) (all_pass (λ p. is_below p.0 key) m)) ∙ get_here key value (pairs_above key m)

-- pairs in ascending order round a key
pub record Around (key : List ℕ) (pairs : List Pair) : Type 0 where
  pub front : List Pair
  pub back : List Pair
  pub below : AllBelow key front
  pub above : AllAbove key back
  pub is : (pairs ≡ front ++ back) ⊎ ((old : List ℕ) × (pairs ≡ front ++ (key, old) ∷ back))

pub around_key : (key : List ℕ) (pairs : List Pair) → is_ascending (keys_of pairs) ≡ true → Around key pairs
around_key key [] up = record { front = []; back = []; below = tt; above = tt; is = inl refl }
around_key key (p ∷ pairs) up = by (order_cases p.0 key) (around_key key pairs (ascending-tail p pairs up))
  where
    by : ((is_below p.0 key ≡ true) × (is_below key p.0 ≡ false)) ⊎ (p.0 ≡ key) ⊎ ((is_below key p.0 ≡ true) × (is_below p.0 key ≡ false)) → Around key pairs → Around key (p ∷ pairs)
    by (inl h) rest = record { front = p ∷ rest.front; back = rest.back; below = (h.0, rest.below); above = rest.above; is = more rest.is }
      where
        more : (pairs ≡ rest.front ++ rest.back) ⊎ ((old : List ℕ) × (pairs ≡ rest.front ++ (key, old) ∷ rest.back))
            → (p ∷ pairs ≡ p ∷ (rest.front ++ rest.back)) ⊎ ((old : List ℕ) × (p ∷ pairs ≡ p ∷ (rest.front ++ (key, old) ∷ rest.back)))
        more (inl e) = inl (ap (λ xs. p ∷ xs) e)
        more (inr e) = inr (e.0, ap (λ xs. p ∷ xs) e.1)
    by (inr (inl e)) rest = record { front = []; back = pairs; below = tt; above = above_first key p pairs up (inr (sym e)); is = inr (p.1, ap (λ k. (k, p.1) ∷ pairs) e) }
    by (inr (inr h)) rest = record { front = []; back = p ∷ pairs; below = tt; above = (h.0, above_first key p pairs up (inl h.0)); is = inl refl }
