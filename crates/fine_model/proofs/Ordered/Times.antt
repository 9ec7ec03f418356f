-- How often a number stands in a list.
use Rattle.std.proofs.Common.{◌≡◌, ◌≢◌, ◌⊎◌, ℕ, ◌+◌, ◌<◌, ◌≤◌, nat_eq, Bool, true, false, cond, not, ◌&&◌, ◌||◌, List, [], ◌∷◌, ◌++◌, refl, sym, ap, ◌∙◌, subst, true≢false, arith, eqb-true, eq-eqb, ne_eqb, leb, inl, inr}
use Rattle.std.proofs.lemmas.Bool.Decides.{leb_tells}
use Rattle.std.specs.List.{AllByRecursion, list_any}
use Rattle.fine_model.specs.Trees.{is_distinct}
use Rattle.fine_model.proofs.Ordered.Order.{first_of_both}

unfoldable pub times : ℕ → List ℕ → ℕ
times n [] = 0
times n (m ∷ ms) = cond (nat_eq n m) 1 0 + times n ms

pub times-none : (n : ℕ) → times n [] ≡ 0
unfolding times
times-none n = refl

pub times-append : (n : ℕ) (xs ys : List ℕ) → times n (xs ++ ys) ≡ times n xs + times n ys
unfolding times
times-append n [] ys = omega arith
times-append n (x ∷ xs) ys = omega (arith, times-append n xs ys)

pub times-same : (n : ℕ) (ms : List ℕ) → times n (n ∷ ms) ≡ times n ms + 1
unfolding times
times-same n ms = let e : cond {A = ℕ} (nat_eq n n) 1 0 ≡ 1 = ap (λ b. cond {A = ℕ} b 1 0) (eq-eqb n n refl) in omega (arith, e)

pub times-other : (n m : ℕ) (ms : List ℕ) → n ≢ m → times n (m ∷ ms) ≡ times n ms
unfolding times
times-other n m ms other = let e : cond {A = ℕ} (nat_eq n m) 1 0 ≡ 0 = ap (λ b. cond {A = ℕ} b 1 0) (ne_eqb n m other) in omega (arith, e)

pub times-cons : (n m : ℕ) (ms : List ℕ) → ((n ≡ m) × (times n (m ∷ ms) ≡ times n ms + 1)) ⊎ ((n ≢ m) × (times n (m ∷ ms) ≡ times n ms))
times-cons n m ms = by (nat_eq n m) refl
  where
    by : (b : Bool) → nat_eq n m ≡ b → ((n ≡ m) × (times n (m ∷ ms) ≡ times n ms + 1)) ⊎ ((n ≢ m) × (times n (m ∷ ms) ≡ times n ms))
    by true h = let e = eqb-true n m h in inl (e, subst (λ k. times n (k ∷ ms) ≡ times n ms + 1) e (times-same n ms))
    by false h = let o : n ≢ m = λ e. true≢false (sym (eq-eqb n m e) ∙ h) in inr (o, times-other n m ms o)

pub absent_times : (n : ℕ) (ms : List ℕ) → list_any (nat_eq n) ms ≡ false → times n ms ≡ 0
unfolding times
absent_times n [] absent = refl
absent_times n (m ∷ ms) absent = by (nat_eq n m) (list_any (nat_eq n) ms) refl refl absent (absent_times n ms)
  where
    by : (b c : Bool) → nat_eq n m ≡ b → list_any (nat_eq n) ms ≡ c → (b || c) ≡ false → (list_any (nat_eq n) ms ≡ false → times n ms ≡ 0) → cond {A = ℕ} b 1 0 + times n ms ≡ 0
    by true c e f h rest = absurd (true≢false h)
    by false c e f h rest = let z = rest (f ∙ h) in omega (arith, z)

pub times_absent : (n : ℕ) (ms : List ℕ) → times n ms ≡ 0 → list_any (nat_eq n) ms ≡ false
unfolding times
times_absent n [] none = refl
times_absent n (m ∷ ms) none = by (nat_eq n m) none (times_absent n ms)
  where
    by : (b : Bool) → cond {A = ℕ} b 1 0 + times n ms ≡ 0 → (times n ms ≡ 0 → list_any (nat_eq n) ms ≡ false) → (b || list_any (nat_eq n) ms) ≡ false
    by true h rest = absurd (omega (arith, h))
    by false h rest = rest (omega (arith, h))

pub times-tail : (n m : ℕ) (ms : List ℕ) → times n ms ≤ times n (m ∷ ms)
unfolding times
times-tail n m ms = omega arith

-- no number twice
pub distinct_times : (ms : List ℕ) → is_distinct ms ≡ true → (n : ℕ) → times n ms ≤ 1
unfolding is_distinct
distinct_times [] distinct n = let z = times-none n in omega (arith, z)
distinct_times (m ∷ ms) distinct n = by (times-cons n m ms) (distinct_times ms both.1 n)
  where
    both : (not (list_any (nat_eq m) ms) ≡ true) × (is_distinct ms ≡ true)
    both = first_of_both (not (list_any (nat_eq m) ms)) (is_distinct ms) distinct

    absent : (b : Bool) → not b ≡ true → b ≡ false
    absent true h = absurd (true≢false (sym h))
    absent false h = refl

    by : ((n ≡ m) × (times n (m ∷ ms) ≡ times n ms + 1)) ⊎ ((n ≢ m) × (times n (m ∷ ms) ≡ times n ms)) → times n ms ≤ 1 → times n (m ∷ ms) ≤ 1
    by (inl h) rest = let z : times n ms ≡ 0 = ap (λ k. times k ms) h.0 ∙ absent_times m ms (absent (list_any (nat_eq m) ms) both.0) in omega (arith, h.1, z)
    by (inr h) rest = omega (arith, h.1, rest)

pub times_distinct : (ms : List ℕ) → ((n : ℕ) → times n ms ≤ 1) → is_distinct ms ≡ true
unfolding is_distinct
times_distinct [] each = refl
times_distinct (m ∷ ms) each =
    ap (λ b. not b && is_distinct ms) (times_absent m ms (let e = each m in let s = times-same m ms in omega (arith, e, s)))
    ∙ times_distinct ms (λ n. let e = each n in let t = times-tail n m ms in omega (arith, e, t))

-- all numbers below one
pub below_times : (next : ℕ) (ms : List ℕ) → AllByRecursion (λ m. m < next) ms → (n : ℕ) → next ≤ n → times n ms ≡ 0
below_times next [] all n above = times-none n
below_times next (m ∷ ms) all n above =
    let l = all.0 in let e = times-other n m ms (λ is. absurd (omega (arith, l, above, is))) in e ∙ below_times next ms all.1 n above

pub times_below : (next : ℕ) (ms : List ℕ) → ((n : ℕ) → next ≤ n → times n ms ≡ 0) → AllByRecursion (λ m. m < next) ms
times_below next [] none = tt
times_below next (m ∷ ms) none = (by (leb_tells next m), times_below next ms (λ n above. let z = none n above in let t = times-tail n m ms in omega (arith, z, t)))
  where
    by : ((leb next m ≡ true) × (next ≤ m)) ⊎ ((leb next m ≡ false) × (m < next)) → m < next
    by (inl h) = let z = none m h.1 in let s = times-same m ms in absurd (omega (arith, z, s))
    by (inr h) = h.1
