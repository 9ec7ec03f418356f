-- The first pairs in order of pairs that are gathered list by list.
use Rattle.std.proofs.Common.{◌≡◌, ◌≢◌, ◌⊎◌, inl, inr, ℕ, zero, suc, ◌+◌, ◌<◌, ◌≤◌, Bool, true, false, cond, not, ◌&&◌, List, [], ◌∷◌, ◌++◌, length, take, refl, sym, ap, ◌∙◌, arith, true≢false, length-append}
use Rattle.std.specs.Prelude.{filter, flat_map, sum_by, bytes_eq}
use Rattle.std.specs.List.{AllByRecursion, range_with_len}
use Rattle.std.proofs.lemmas.Bool.{and_parts}
use Rattle.std.proofs.lemmas.Slice.Eq.{bytes_eq-Decides}
use Rattle.std.proofs.lemmas.List.Elements.{filter-append}
use Rattle.std.proofs.lemmas.List.Sums.{sum_by-cons, sum_by-append}
use Rattle.std.proofs.lemmas.List.Sorted.{sum_by-IsPermutation}
use Rattle.fine_model.specs.Types.{Row}
use Rattle.fine_model.specs.Map.{Pair, is_below, is_ascending, pairs_below, pairs_above, set, between, from_pairs}
use Rattle.fine_model.specs.Trees.{IsSound, tree_map, map_of}
use Rattle.fine_model.specs.ScanLaws.{gathered, RangeLaw, OrderLaw, CutLaw}
use Rattle.fine_model.proofs.Ordered.Order.{AllBelow, AllAbove, keys_of, order_cases, is_below-trans, is_below-asym, is_below-self, filter_all, filter_none, all_map, above_first, set_new, set_again, first_of_both}
use Rattle.fine_model.proofs.Ordered.Sets.{all_filter, set-append_right, ascending-tail, ascending-set, ascending-filter, all_pass}
use Rattle.fine_model.proofs.Ordered.Zip.{all_right}
use Rattle.fine_model.proofs.Ordered.Pairs.{AllOther, Around, around_key}
use Rattle.fine_model.proofs.Trees.Joined.{joined, joined-append, joined-swap, set_is_swap}
use Rattle.fine_model.proofs.Trees.Buckets.{ascends}

abbrev pub Ascends : List Pair → Type 0
Ascends pairs = is_ascending (keys_of pairs) ≡ true

pub joined-ascends : (m pairs : List Pair) → Ascends m → Ascends (joined m pairs)
joined-ascends m [] up = up
joined-ascends m (p ∷ pairs) up = joined-ascends (set m p.0 p.1) pairs (ascending-set m p.0 p.1 up)

-- ---- the first pairs once a key is set depend on the first pairs alone

take_twice : {A : Type 0} (n k : ℕ) (xs : List A) → n ≤ k → take n (take k xs) ≡ take n xs
take_twice zero k xs le = refl
take_twice (suc n) zero xs le = absurd (omega (arith, le))
take_twice (suc n) (suc k) [] le = refl
take_twice (suc n) (suc k) (x ∷ xs) le = ap (λ ys. x ∷ ys) (take_twice n k xs (omega (arith, le)))

-- the first of ascending pairs ascend
pub up_front : (n : ℕ) (m : List Pair) → Ascends m → Ascends (take n m)
up_front zero m up = refl
up_front (suc n) [] up = refl
up_front (suc n) (x ∷ []) up = up_front_single n
  where
    up_front_single : (k : ℕ) → Ascends (x ∷ take k [])
    up_front_single zero = refl
    up_front_single (suc k) = refl
up_front (suc zero) (x ∷ y ∷ m) up = refl
up_front (suc (suc n)) (x ∷ y ∷ m) up =
    let both = first_of_both (is_below x.0 y.0) (is_ascending (keys_of (y ∷ m))) up in
    ap (λ b. b && is_ascending (keys_of (y ∷ take n m))) both.0 ∙ up_front (suc n) (y ∷ m) both.1

module _ (key value : List ℕ) where
  -- a key is set among the lower and the higher ones
  set_past : (x : Pair) (xs : List Pair) → is_below x.0 key ≡ true → set (x ∷ xs) key value ≡ x ∷ set xs key value
  set_past x xs low = set-append_right (x ∷ []) xs key value (low, tt)

  set_front : (x : Pair) (xs : List Pair) → Ascends (x ∷ xs) → is_below key x.0 ≡ true → set (x ∷ xs) key value ≡ (key, value) ∷ (x ∷ xs)
  set_front x xs up low = set_new key [] (x ∷ xs) tt (low, above_first key x xs up (inl low)) value

  set_over : (x : Pair) (xs : List Pair) → Ascends (x ∷ xs) → key ≡ x.0 → set (x ∷ xs) key value ≡ (key, value) ∷ xs
  set_over x xs up e = ap (λ k. set ((k, x.1) ∷ xs) key value) (sym e) ∙ set_again key [] xs tt (above_first key x xs up (inr e)) x.1 value

  set_cut : (n : ℕ) (m : List Pair) → Ascends m → take n (set (take n m) key value) ≡ take n (set m key value)
  set_cut zero m up = refl
  set_cut (suc n) [] up = refl
  set_cut (suc n) (x ∷ m) up = by (order_cases x.0 key) (set_cut n m (ascending-tail x m up))
    where
      up' : Ascends (x ∷ take n m)
      up' = up_front (suc n) (x ∷ m) up

      by : ((is_below x.0 key ≡ true) × (is_below key x.0 ≡ false)) ⊎ (x.0 ≡ key) ⊎ ((is_below key x.0 ≡ true) × (is_below x.0 key ≡ false)) → take n (set (take n m) key value) ≡ take n (set m key value)
          → take (suc n) (set (x ∷ take n m) key value) ≡ take (suc n) (set (x ∷ m) key value)
      by (inl low) rest =
          ap (take (suc n)) (set_past x (take n m) low.0) ∙ ap (λ ys. x ∷ ys) rest ∙ sym (ap (take (suc n)) (set_past x m low.0))
      by (inr (inl e)) rest =
          ap (take (suc n)) (set_over x (take n m) up' (sym e)) ∙ ap (λ ys. (key, value) ∷ ys) (take_twice n n m (omega arith)) ∙ sym (ap (take (suc n)) (set_over x m up (sym e)))
      by (inr (inr high)) rest =
          ap (take (suc n)) (set_front x (take n m) up' high.0) ∙ ap (λ ys. (key, value) ∷ ys) (take_twice n (suc n) (x ∷ m) (omega arith)) ∙ sym (ap (take (suc n)) (set_front x m up high.0))

set_alike : (n : ℕ) (m k : List Pair) (key value : List ℕ) → Ascends m → Ascends k → take n m ≡ take n k → take n (set m key value) ≡ take n (set k key value)
set_alike n m k key value up up' same = sym (set_cut key value n m up) ∙ ap (λ xs. take n (set xs key value)) same ∙ set_cut key value n k up'

joined_alike : (n : ℕ) (m k pairs : List Pair) → Ascends m → Ascends k → take n m ≡ take n k → take n (joined m pairs) ≡ take n (joined k pairs)
joined_alike n m k [] up up' same = same
joined_alike n m k (p ∷ pairs) up up' same =
    joined_alike n (set m p.0 p.1) (set k p.0 p.1) pairs (ascending-set m p.0 p.1 up) (ascending-set k p.0 p.1 up') (set_alike n m k p.0 p.1 up up' same)

-- ---- of ascending pairs that are gathered, only the first ones matter

-- so many pairs lie below the first of others
abbrev LowerThanFirst : ℕ → List Pair → List Pair → Type 0
LowerThanFirst n m [] = Unit {0}
LowerThanFirst n m (p ∷ pairs) = n ≤ length (pairs_below p.0 m)

-- a key that is set is one more below the next
one_lower : (n : ℕ) (m : List Pair) (p : Pair) (pairs : List Pair) → Ascends (p ∷ pairs) → n ≤ length (pairs_below p.0 m) → LowerThanFirst (suc n) (set m p.0 p.1) pairs
unfolding set
one_lower n m p [] up few = tt
one_lower n m p (q ∷ pairs) up few =
    let low = (first_of_both (is_below p.0 q.0) (is_ascending (keys_of (q ∷ pairs))) up).0 in
    let front : filter (λ x. is_below x.0 q.0) (pairs_below p.0 m) ≡ pairs_below p.0 m =
    filter_all (λ x. is_below x.0 q.0) (pairs_below p.0 m) (all_map (λ x. is_below x.0 p.0 ≡ true) (λ x. is_below x.0 q.0 ≡ true) (λ x h. is_below-trans x.0 p.0 q.0 h low) (pairs_below p.0 m) (all_pass (λ x. is_below x.0 p.0) m)) in
    let all : pairs_below q.0 (pairs_below p.0 m ++ p ∷ pairs_above p.0 m) ≡ pairs_below p.0 m ++ p ∷ filter (λ x. is_below x.0 q.0) (pairs_above p.0 m) =
    filter-append (λ x. is_below x.0 q.0) (pairs_below p.0 m) (p ∷ pairs_above p.0 m) ∙ ap (λ xs. xs ++ filter (λ x. is_below x.0 q.0) (p ∷ pairs_above p.0 m)) front
    ∙ ap (λ b. pairs_below p.0 m ++ cond b (p ∷ filter (λ x. is_below x.0 q.0) (pairs_above p.0 m)) (filter (λ x. is_below x.0 q.0) (pairs_above p.0 m))) low in
    let long = ap length all in
    let a = length-append (pairs_below p.0 m) (p ∷ filter (λ x. is_below x.0 q.0) (pairs_above p.0 m)) in omega (arith, long, a, few)

take_front : (n : ℕ) (xs ys : List Pair) → n ≤ length xs → take n (xs ++ ys) ≡ take n xs
take_front zero xs ys le = refl
take_front (suc n) [] ys le = absurd (omega (arith, le))
take_front (suc n) (x ∷ xs) ys le = ap (λ zs. x ∷ zs) (take_front n xs ys (omega (arith, le)))

-- ascending pairs begin with those below a key
below_first : (key : List ℕ) (m : List Pair) → Ascends m → (back : List Pair) × (m ≡ pairs_below key m ++ back)
below_first key [] up = ([], refl)
below_first key (x ∷ m) up = by (order_cases x.0 key) (below_first key m (ascending-tail x m up))
  where
    none : (is_below x.0 key ≡ false) → ((is_below key x.0 ≡ true) ⊎ (key ≡ x.0)) → pairs_below key (x ∷ m) ≡ []
    none e from =
        ap (λ b. cond b (x ∷ pairs_below key m) (pairs_below key m)) e
        ∙ filter_none (λ p. is_below p.0 key) m (all_map (λ p. is_below key p.0 ≡ true) (λ p. is_below p.0 key ≡ false) (λ p h. is_below-asym key p.0 h) m (above_first key x m up from))

    by : ((is_below x.0 key ≡ true) × (is_below key x.0 ≡ false)) ⊎ (x.0 ≡ key) ⊎ ((is_below key x.0 ≡ true) × (is_below x.0 key ≡ false)) → (back : List Pair) × (m ≡ pairs_below key m ++ back)
        → (back : List Pair) × (x ∷ m ≡ pairs_below key (x ∷ m) ++ back)
    by (inl low) rest = (rest.0, ap (λ xs. x ∷ xs) rest.1 ∙ ap (λ b. cond b (x ∷ pairs_below key m) (pairs_below key m) ++ rest.0) (sym low.0))
    by (inr (inl e)) rest = (x ∷ m, ap (λ xs. xs ++ x ∷ m) (sym (none (ap (λ k. is_below k key) e ∙ is_below-self key) (inr (sym e)))))
    by (inr (inr high)) rest = (x ∷ m, ap (λ xs. xs ++ x ∷ m) (sym (none high.1 (inl high.0))))

-- a key that is set behind the first pairs leaves them
set_behind : (n : ℕ) (m : List Pair) (key value : List ℕ) → Ascends m → n ≤ length (pairs_below key m) → take n (set m key value) ≡ take n m
unfolding set
set_behind n m key value up few =
    let b = below_first key m up in
    take_front n (pairs_below key m) ((key, value) ∷ pairs_above key m) few ∙ sym (ap (take n) b.1 ∙ take_front n (pairs_below key m) b.0 few)

first_few : (n j : ℕ) (m pairs : List Pair) → Ascends m → Ascends pairs → (lower : ℕ) → n ≤ j + lower → LowerThanFirst lower m pairs → take n (joined m (take j pairs)) ≡ take n (joined m pairs)
first_few n zero m [] up up' lower le low = refl
first_few n (suc j) m [] up up' lower le low = refl
first_few n zero m (p ∷ pairs) up up' lower le low =
    sym (set_behind n m p.0 p.1 up (omega (arith, le, low)))
    ∙ first_few n zero (set m p.0 p.1) pairs (ascending-set m p.0 p.1 up) (ascending-tail p pairs up') (suc lower) (omega (arith, le)) (one_lower lower m p pairs up' low)
first_few n (suc j) m (p ∷ pairs) up up' lower le low =
    first_few n j (set m p.0 p.1) pairs (ascending-set m p.0 p.1 up) (ascending-tail p pairs up') (suc lower) (omega (arith, le)) (one_lower lower m p pairs up' low)

no_lower : (m pairs : List Pair) → LowerThanFirst 0 m pairs
no_lower m [] = tt
no_lower m (p ∷ pairs) = omega arith

-- list by list
first_of_each : (n : ℕ) (f : ℕ → List Pair) (from count : ℕ) (m k : List Pair) → ((i : ℕ) → from ≤ i → i < from + count → Ascends (f i)) → Ascends m → Ascends k → take n m ≡ take n k
    → take n (joined m (flat_map (λ i. take n (f i)) (range_with_len from count))) ≡ take n (joined k (flat_map f (range_with_len from count)))
first_of_each n f from zero m k each up up' same = same
first_of_each n f from (suc count) m k each up up' same =
    let here = each from (omega arith) (omega arith) in
    ap (take n) (joined-append m (take n (f from)) (flat_map (λ i. take n (f i)) (range_with_len (from + 1) count)))
    ∙ first_of_each n f (from + 1) count (joined m (take n (f from))) (joined k (f from)) (λ i low high. each i (omega (arith, low)) (omega (arith, high)))
    (joined-ascends m (take n (f from)) up) (joined-ascends k (f from) up')
    (first_few n n m (f from) up here 0 (omega arith) (no_lower m (f from)) ∙ joined_alike n m k (f from) up up' same)
    ∙ sym (ap (take n) (joined-append k (f from) (flat_map f (range_with_len (from + 1) count))))

-- ---- the range of what is joined

module _ (test : List ℕ → Bool) where
  abbrev kept : List Pair → List Pair
  kept pairs = filter (λ p. test p.0) pairs

  all_kept : (P : Pair → Type 0) (pairs : List Pair) → AllByRecursion P pairs → AllByRecursion P (kept pairs)
  all_kept P pairs all = all_filter P (λ p. test p.0) pairs all

  kept_set : (m : List Pair) (key value : List ℕ) → Ascends m → kept (set m key value) ≡ cond (test key) (set (kept m) key value) (kept m)
  kept_set m key value up = by (around_key key m up)
    where
      by : Around key m → kept (set m key value) ≡ cond (test key) (set (kept m) key value) (kept m)
      by a = of a.is
        where
          split_set : kept (a.front ++ (key, value) ∷ a.back) ≡ kept a.front ++ cond (test key) ((key, value) ∷ kept a.back) (kept a.back)
          split_set = filter-append (λ p. test p.0) a.front ((key, value) ∷ a.back)

          low : AllBelow key (kept a.front)
          low = all_kept (λ p. is_below p.0 key ≡ true) a.front a.below

          high : AllAbove key (kept a.back)
          high = all_kept (λ p. is_below key p.0 ≡ true) a.back a.above

          new_key : (b : Bool) → kept a.front ++ cond b ((key, value) ∷ kept a.back) (kept a.back) ≡ cond b (set (kept a.front ++ kept a.back) key value) (kept a.front ++ kept a.back)
          new_key true = sym (set_new key (kept a.front) (kept a.back) low high value)
          new_key false = refl

          old_key : (old : List ℕ) (b : Bool) → kept a.front ++ cond b ((key, value) ∷ kept a.back) (kept a.back)
              ≡ cond b (set (kept a.front ++ cond b ((key, old) ∷ kept a.back) (kept a.back)) key value) (kept a.front ++ cond b ((key, old) ∷ kept a.back) (kept a.back))
          old_key old true = sym (set_again key (kept a.front) (kept a.back) low high old value)
          old_key old false = refl

          of : (m ≡ a.front ++ a.back) ⊎ ((old : List ℕ) × (m ≡ a.front ++ (key, old) ∷ a.back)) → kept (set m key value) ≡ cond (test key) (set (kept m) key value) (kept m)
          of (inl e) =
              ap kept (ap (λ xs. set xs key value) e ∙ set_new key a.front a.back a.below a.above value) ∙ split_set ∙ new_key (test key)
              ∙ ap (λ xs. cond (test key) (set xs key value) xs) (sym (ap kept e ∙ filter-append (λ p. test p.0) a.front a.back))
          of (inr e) =
              ap kept (ap (λ xs. set xs key value) e.1 ∙ set_again key a.front a.back a.below a.above e.0 value) ∙ split_set ∙ old_key e.0 (test key)
              ∙ ap (λ xs. cond (test key) (set xs key value) xs) (sym (ap kept e.1 ∙ filter-append (λ p. test p.0) a.front ((key, e.0) ∷ a.back)))

  kept_joined : (m pairs : List Pair) → Ascends m → kept (joined m pairs) ≡ joined (kept m) (kept pairs)
  kept_joined m [] up = refl
  kept_joined m (p ∷ pairs) up =
      kept_joined (set m p.0 p.1) pairs (ascending-set m p.0 p.1 up) ∙ ap (λ n. joined n (kept pairs)) (kept_set m p.0 p.1 up) ∙ by (test p.0)
    where
      by : (b : Bool) → joined (cond b (set (kept m) p.0 p.1) (kept m)) (kept pairs) ≡ joined (kept m) (cond b (p ∷ kept pairs) (kept pairs))
      by true = refl
      by false = refl

  kept_flat : (f : ℕ → List Pair) (is : List ℕ) → kept (flat_map f is) ≡ flat_map (λ i. kept (f i)) is
  kept_flat f [] = refl
  kept_flat f (i ∷ is) = filter-append (λ p. test p.0) (f i) (flat_map f is) ∙ ap (λ xs. kept (f i) ++ xs) (kept_flat f is)

-- ---- pairs that were put in order

-- both have the same pairs, each as often
abbrev SameSums : List Pair → List Pair → Type 0
SameSums xs ys = (f : Pair → ℕ) → sum_by f xs ≡ sum_by f ys

abbrev pub count : Bool → ℕ
count b = cond b 1 0

record FoundIn (test : Pair → Bool) (xs : List Pair) : Type 0 where
  front : List Pair
  item : Pair
  back : List Pair
  is : xs ≡ front ++ item ∷ back
  passes : test item ≡ true

find_in : (test : Pair → Bool) (xs : List Pair) → 1 ≤ sum_by (λ p. count (test p)) xs → FoundIn test xs
find_in test [] some = absurd (omega (arith, some))
find_in test (x ∷ xs) some = by (test x) refl (find_in test xs)
  where
    by : (b : Bool) → test x ≡ b → (1 ≤ sum_by (λ p. count (test p)) xs → FoundIn test xs) → FoundIn test (x ∷ xs)
    by true e rest = record { front = []; item = x; back = xs; is = refl; passes = e }
    by false e rest =
        let c = sum_by-cons (λ p. count (test p)) x xs in
        let z : count (test x) ≡ 0 = ap count e in
        let f = rest (omega (arith, some, c, z)) in record { front = x ∷ f.front; item = f.item; back = f.back; is = ap (λ ys. x ∷ ys) f.is; passes = f.passes }

none_other : (key : List ℕ) (xs : List Pair) → sum_by (λ p. count (bytes_eq p.0 key)) xs ≡ 0 → AllOther key xs
none_other key [] none = tt
none_other key (x ∷ xs) none =
    let c = sum_by-cons (λ p. count (bytes_eq p.0 key)) x xs in
    ((λ e. absurd (let one : count (bytes_eq x.0 key) ≡ 1 = ap count ((bytes_eq-Decides x.0 key).1 e) in omega (arith, none, c, one))), none_other key xs (omega (arith, none, c)))

pub above_none : (key : List ℕ) (ys : List Pair) → AllAbove key ys → sum_by (λ p. count (bytes_eq p.0 key)) ys ≡ 0
above_none key [] above = refl
above_none key (y ∷ ys) above = let c = sum_by-cons (λ p. count (bytes_eq p.0 key)) y ys in let z = by (bytes_eq y.0 key) refl in let rest = above_none key ys above.1 in omega (arith, c, z, rest)
  where
    by : (b : Bool) → bytes_eq y.0 key ≡ b → count (bytes_eq y.0 key) ≡ 0
    by false e = ap count e
    by true e = absurd (true≢false (sym above.0 ∙ ap (is_below key) ((bytes_eq-Decides y.0 key).0 e) ∙ is_below-self key))

pub all_above : (p : Pair) (pairs : List Pair) → Ascends (p ∷ pairs) → AllAbove p.0 pairs
all_above p pairs up = above_first p.0 p pairs up (inr refl)

in_order : (xs ys : List Pair) → SameSums xs ys → Ascends ys → joined [] xs ≡ ys
in_order xs [] same up = by xs (same (λ p. 1))
  where
    by : (xs : List Pair) → sum_by (λ p. 1) xs ≡ 0 → joined [] xs ≡ []
    by [] none = refl
    by (x ∷ xs) none = let c = sum_by-cons (λ p. 1) x xs in absurd (omega (arith, c, none))
in_order xs (y ∷ ys) same up = of (find_in test xs here) (λ zs same'. in_order zs ys same' (ascending-tail y ys up))
  where
    test : Pair → Bool
    test p = bytes_eq p.0 y.0 && bytes_eq p.1 y.1

    here : 1 ≤ sum_by (λ p. count (test p)) xs
    here =
        let s = same (λ p. count (test p)) in let c = sum_by-cons (λ p. count (test p)) y ys in
        let one : count (test y) ≡ 1 = ap count (ap (λ b. b && bytes_eq y.1 y.1) ((bytes_eq-Decides y.0 y.0).1 refl) ∙ (bytes_eq-Decides y.1 y.1).1 refl) in omega (arith, s, c, one)

    is_first : (p : Pair) → test p ≡ true → p ≡ y
    is_first p h =
        let both = and_parts (bytes_eq p.0 y.0) (bytes_eq p.1 y.1) h in
        let a = (bytes_eq-Decides p.0 y.0).0 both.0 in let b = (bytes_eq-Decides p.1 y.1).0 both.1 in λ i. (a i, b i)

    of : FoundIn test xs → ((zs : List Pair) → SameSums zs ys → joined [] zs ≡ ys) → joined [] xs ≡ y ∷ ys
    of f rest =
        let e : xs ≡ f.front ++ y ∷ f.back = f.is ∙ ap (λ p. f.front ++ p ∷ f.back) (is_first f.item f.passes) in
        let less : SameSums (f.front ++ f.back) ys = λ g. fewer g e in
        let none = none_other y.0 (f.front ++ f.back) (less (λ p. count (bytes_eq p.0 y.0)) ∙ above_none y.0 ys (all_above y ys up)) in
        ap (joined []) e ∙ joined-append [] f.front (y ∷ f.back)
        ∙ joined-swap y.0 (λ m. set m y.0 y.1) (set_is_swap y.0 y.1) (joined [] f.front) f.back (all_right (λ p. p.0 ≢ y.0) f.front f.back none)
        ∙ ap (λ m. set m y.0 y.1) (sym (joined-append [] f.front f.back) ∙ rest (f.front ++ f.back) less)
        ∙ set_new y.0 [] ys tt (all_above y ys up) y.1
      where
        fewer : (g : Pair → ℕ) → xs ≡ f.front ++ y ∷ f.back → sum_by g (f.front ++ f.back) ≡ sum_by g ys
        fewer g e =
            let s = same g in let c = sum_by-cons g y ys in let d = ap (sum_by g) e in
            let a = sum_by-append g f.front (y ∷ f.back) in let b = sum_by-append g f.front f.back in let h = sum_by-cons g y f.back in omega (arith, s, c, d, a, b, h)

-- ---- the laws

pub order_law : OrderLaw
unfolding from_pairs
order_law pairs found p up = sym (in_order pairs found (λ f. sym (sum_by-IsPermutation f pairs found p)) up)

pub cut_law : CutLaw
unfolding from_pairs
cut_law limit pairs more =
    let up = joined-ascends [] pairs refl in
    let up' = up_front limit (joined [] pairs) up in
    ap (take limit) (joined-append [] (take limit (joined [] pairs)) more)
    ∙ ap (λ m. take limit (joined m more)) (in_order (take limit (joined [] pairs)) (take limit (joined [] pairs)) (λ f. refl) up')
    ∙ joined_alike limit (take limit (joined [] pairs)) (joined [] pairs) more up' up (take_twice limit limit (joined [] pairs) (omega arith))
    ∙ sym (ap (take limit) (joined-append [] pairs more))

module _ (rows : List Row) (low high : List ℕ) (limit : ℕ) (sound : IsSound rows) where
  abbrev in_range : List ℕ → Bool
  in_range key = not (is_below key low) && is_below key high

  -- the map's range is that of all trees' ranges, joined
  range_joined : between low high (map_of rows) ≡ joined [] (flat_map (λ b. between low high (tree_map rows b)) (range_with_len 0 256))
  unfolding between map_of from_pairs
  range_joined =
      kept_joined in_range [] (flat_map (tree_map rows) (range_with_len 0 256)) refl ∙ ap (joined []) (kept_flat in_range (tree_map rows) (range_with_len 0 256))

  each_ascends : (i : ℕ) → 0 ≤ i → i < 0 + 256 → Ascends (between low high (tree_map rows i))
  unfolding between
  each_ascends i from below = ascending-filter (λ p. in_range p.0) (tree_map rows i) (ascends rows sound i (omega (arith, below)))

  pub first_gathered : take limit (from_pairs (gathered rows low high limit 256)) ≡ take limit (between low high (map_of rows))
  unfolding gathered from_pairs
  first_gathered =
      first_of_each limit (λ b. between low high (tree_map rows b)) 0 256 [] [] each_ascends refl refl refl ∙ sym (ap (take limit) range_joined)

pub range_law : RangeLaw
range_law rows low high limit found sound p up = ap (take limit) (order_law (gathered rows low high limit 256) found p up) ∙ first_gathered rows low high limit sound
