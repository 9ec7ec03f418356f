-- Keys in order lie within bounds where the first and the last do.
use Rattle.std.proofs.Common.{◌≡◌, ℕ, zero, suc, ◌-◌, Bool, true, false, not, ◌&&◌, List, [], ◌∷◌, length, map, Option, Some, None, slice_get, true≢false, refl, sym, ap, ◌∙◌, subst, arith}
use Rattle.std.specs.List.{list_all, AllByRecursion}
use Rattle.std.specs.Prelude.{◌==◌}
use Rattle.fine_model.specs.BoundLaws.{FitsNode}
use Rattle.fine_model.specs.declared.Node.{Node}
use Rattle.fine_model.specs.declared.Node.TheVariants as node
use Rattle.fine_model.specs.Map.{Pair, is_ascending, is_below}
use Rattle.fine_model.specs.Trees.{Bounds, bucket_of, is_above, is_from, is_key_within, is_leaf, is_up_to}
use Rattle.fine_model.proofs.Ordered.InOrder.{AreUp}
use Rattle.fine_model.proofs.Ordered.Order.{is_below-trans}

some_same : {A : Type 0} (a b : A) → ◌≡◌ {A = Option A} (Some a) (Some b) → a ≡ b
some_same a b e = cc

-- what holds at the first holds at all
all_first : {A : Type 0} (p : A → Bool) (b : Bool) (xs : List A) → (b ≡ true → AllByRecursion (λ x. p x ≡ true) xs) → (b && list_all p xs) ≡ b
all_first p false xs on = refl
all_first {A = A} p true xs on = all xs (on refl)
  where
    all : (ys : List A) → AllByRecursion (λ x. p x ≡ true) ys → list_all p ys ≡ true
    all [] a = refl
    all (y ∷ ys) a = ap (λ c. c && list_all p ys) a.0 ∙ all ys a.1

split : {A : Type 0} (p q : A → Bool) (xs : List A) → (list_all p xs && list_all q xs) ≡ list_all (λ x. p x && q x) xs
split p q [] = refl
split {A = A} p q (x ∷ xs) = by (p x) (q x) (list_all p xs) (list_all q xs) (split p q xs)
  where
    by : (a b c d : Bool) → (c && d) ≡ list_all (λ x. p x && q x) xs → ((a && c) && (b && d)) ≡ ((a && b) && list_all (λ x. p x && q x) xs)
    by false b c d e = refl
    by true true c d e = e
    by true false true d e = refl
    by true false false d e = refl

together : (a b c : Bool) → ((a && b) && c) ≡ (a && (b && c))
together true b c = refl
together false b c = refl

-- what lies between two ends
pub both_ends : {A : Type 0} (p q : A → Bool) (xs : List A) (a b : Bool) → a ≡ list_all p xs → b ≡ list_all q xs → (a && b) ≡ list_all (λ x. p x && q x) xs
both_ends p q xs a b e f = (λ i. e i && f i) ∙ split p q xs

module _ {A : Type 0} (name : A → List ℕ) where
  all_from : (low : Option (List ℕ)) (x : A) (ys : List A) → AllByRecursion (λ y. is_below (name x) (name y) ≡ true) ys → is_from low (name x) ≡ true → AllByRecursion (λ y. is_from low (name y) ≡ true) ys
  all_from low x [] up from = tt
  all_from low x (y ∷ ys) up from = (step low (is_below (name y) (low_of low)) refl from, all_from low x ys up.1 from)
    where
      low_of : Option (List ℕ) → List ℕ
      low_of None = []
      low_of (Some l) = l

      step : (l : Option (List ℕ)) (b : Bool) → is_below (name y) (low_of l) ≡ b → is_from l (name x) ≡ true → is_from l (name y) ≡ true
      step None b e f = refl
      step (Some l) false e f = ap not e
      step (Some l) true e f = absurd (true≢false (sym f ∙ ap not (is_below-trans (name x) (name y) l up.0 e)))

  all_above : (low : Option (List ℕ)) (x : A) (ys : List A) → AllByRecursion (λ y. is_below (name x) (name y) ≡ true) ys → is_above low (name x) ≡ true → AllByRecursion (λ y. is_above low (name y) ≡ true) ys
  all_above low x [] up above = tt
  all_above low x (y ∷ ys) up above = (step low above, all_above low x ys up.1 above)
    where
      step : (l : Option (List ℕ)) → is_above l (name x) ≡ true → is_above l (name y) ≡ true
      step None f = refl
      step (Some l) f = is_below-trans l (name x) (name y) f up.0

  -- the first of items in order
  pub first_from : (low : Option (List ℕ)) (xs : List A) (x : A) → AreUp name xs → slice_get xs 0 ≡ Some x → is_from low (name x) ≡ list_all (λ y. is_from low (name y)) xs
  first_from low [] x up is = absurd cc
  first_from low (z ∷ zs) x up is = ap (λ a. is_from low (name a)) (sym (some_same z x is)) ∙ sym (all_first (λ y. is_from low (name y)) (is_from low (name z)) zs (all_from low z zs up.0))

  pub first_above : (low : Option (List ℕ)) (xs : List A) (x : A) → AreUp name xs → slice_get xs 0 ≡ Some x → is_above low (name x) ≡ list_all (λ y. is_above low (name y)) xs
  first_above low [] x up is = absurd cc
  first_above low (z ∷ zs) x up is = ap (λ a. is_above low (name a)) (sym (some_same z x is)) ∙ sym (all_first (λ y. is_above low (name y)) (is_above low (name z)) zs (all_above low z zs up.0))

  below_high : (high : Option (List ℕ)) (x y : A) → is_below (name x) (name y) ≡ true → is_up_to high (name y) ≡ true → is_up_to high (name x) ≡ true
  below_high None x y up e = refl
  below_high (Some h) x y up e = is_below-trans (name x) (name y) h up e

  found_in : (P : A → Type 0) (xs : List A) (k : ℕ) (x : A) → AllByRecursion P xs → slice_get xs k ≡ Some x → P x
  found_in P [] k x all is = absurd cc
  found_in P (z ∷ zs) zero x all is = subst P (some_same z x is) all.0
  found_in P (z ∷ zs) (suc k) x all is = found_in P zs k x all.1 is

  last_at : (high : Option (List ℕ)) (xs : List A) (k : ℕ) (x : A) → length xs ≡ suc k → AreUp name xs → slice_get xs k ≡ Some x → is_up_to high (name x) ≡ list_all (λ y. is_up_to high (name y)) xs
  last_at high [] k x long up is = absurd cc
  last_at high (z ∷ []) zero x long up is = ap (λ a. is_up_to high (name a)) (sym (some_same z x is)) ∙ one (is_up_to high (name z))
    where
      one : (c : Bool) → c ≡ (c && true)
      one true = refl
      one false = refl
  last_at high (z ∷ y ∷ zs) zero x long up is = absurd (omega (arith, long))
  last_at high (z ∷ []) (suc k) x long up is = absurd (omega (arith, long))
  last_at high (z ∷ y ∷ zs) (suc k) x long up is =
      let rest = last_at high (y ∷ zs) k x (omega (arith, long)) up.1 is in
      by (is_up_to high (name x)) (is_up_to high (name z)) rest (λ e. below_high high z x (found_in (λ a. is_below (name z) (name a) ≡ true) (y ∷ zs) k x up.0 is) e)
    where
      by : (b c : Bool) → b ≡ list_all (λ a. is_up_to high (name a)) (y ∷ zs) → (b ≡ true → c ≡ true) → b ≡ (c && list_all (λ a. is_up_to high (name a)) (y ∷ zs))
      by true true e f = e
      by true false e f = absurd (true≢false (sym (f refl)))
      by false true e f = e
      by false false e f = refl

  pub last_up_to : (high : Option (List ℕ)) (xs : List A) (x : A) → AreUp name xs → slice_get xs (length xs - 1) ≡ Some x → is_up_to high (name x) ≡ list_all (λ y. is_up_to high (name y)) xs
  last_up_to high [] x up is = absurd cc
  last_up_to high (z ∷ zs) x up is = last_at high (z ∷ zs) (length zs) x refl up (ap (slice_get (z ∷ zs)) (omega arith) ∙ is)

  -- ---- as the calls have it

  pub starts_from : (low : Option (List ℕ)) (xs : List A) (x : A) (key : List ℕ) (r : Bool) → AreUp name xs → Some x ≡ slice_get xs 0 → key ≡ name x → r ≡ is_from low key → r ≡ list_all (λ y. is_from low (name y)) xs
  starts_from low xs x key r up is same tells = tells ∙ ap (is_from low) same ∙ first_from low xs x up (sym is)

  pub starts_above : (low : Option (List ℕ)) (xs : List A) (x : A) (key : List ℕ) (r : Bool) → AreUp name xs → Some x ≡ slice_get xs 0 → key ≡ name x → r ≡ is_above low key → r ≡ list_all (λ y. is_above low (name y)) xs
  starts_above low xs x key r up is same tells = tells ∙ ap (is_above low) same ∙ first_above low xs x up (sym is)

  pub ends_below : (high : Option (List ℕ)) (xs : List A) (x : A) (key : List ℕ) (r : Bool) → AreUp name xs → Some x ≡ slice_get xs (length xs - 1) → key ≡ name x → r ≡ is_up_to high key → r ≡ list_all (λ y. is_up_to high (name y)) xs
  ends_below high xs x key r up is same tells = tells ∙ ap (is_up_to high) same ∙ last_up_to high xs x up (sym is)

-- a leaf whose keys lie within bounds and belong to the bucket
pub fit_leaf : (bucket : ℕ) (bounds : Bounds) (n : Node) (pairs shown : List Pair) (a b : Bool) → FitsNode n → n ≡ node.Leaf pairs → shown ≡ pairs
    → a ≡ list_all (λ p. is_from bounds.low p.0 && is_up_to bounds.high p.0) shown → b ≡ list_all (λ p. bucket_of p.0 == bucket) shown → (a && b) ≡ is_leaf bucket bounds n
fit_leaf bucket bounds n pairs shown a b fits is same e f =
    let up : is_ascending (map (λ p. p.0) pairs) ≡ true = (subst FitsNode is fits).2 in
    both_ends (λ p. is_from bounds.low p.0 && is_up_to bounds.high p.0) (λ p. bucket_of p.0 == bucket) shown a b e f
    ∙ (λ i. list_all (λ p. together (is_from bounds.low p.0) (is_up_to bounds.high p.0) (bucket_of p.0 == bucket) i) (same i))
    ∙ ap (λ c. c && list_all (λ p. is_key_within bucket bounds p.0) pairs) (sym up)
    ∙ ap (is_leaf bucket bounds) (sym is)
