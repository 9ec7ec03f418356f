-- The set of some regions.
use Rattle.std.proofs.Common.{◌≡◌, ℕ, zero, suc, ◌+◌, ◌<◌, ◌≤◌, nat_eq, Bool, true, false, cond, ◌||◌, List, [], ◌∷◌, refl, sym, ap, ◌∙◌, arith, eq-eqb, eqb-true, inl, inr}
use Rattle.std.specs.Prelude.{filter}
use Rattle.std.specs.List.{AllByRecursion, list_any, range_with_len}
use Rattle.std.proofs.lemmas.Bool.{or_right, cases_lt}
use Rattle.std.proofs.lemmas.List.Elements.{All-contains, All-from_recursion}
use Rattle.std.proofs.lemmas.Map.Views.{Contains-from_any}
use Rattle.fine_model.specs.Boards.{regions_by, set_of, SetKeeps}
use Rattle.fine_model.proofs.Ordered.Order.{all_map}

all_among : (xs : List ℕ) → AllByRecursion (λ x. list_any (nat_eq x) xs ≡ true) xs
all_among [] = tt
all_among (x ∷ xs) = (
  ap (λ b. b || list_any (nat_eq x) xs) (eq-eqb x x refl),
  all_map (λ y. list_any (nat_eq y) xs ≡ true) (λ y. list_any (nat_eq y) (x ∷ xs) ≡ true) (λ y h. or_right (nat_eq y x) (list_any (nat_eq y) xs) h) xs (all_among xs),
)

pub kept : (test : ℕ → Bool) (xs : List ℕ) (r : ℕ) → list_any (nat_eq r) xs ≡ true → test r ≡ true → list_any (nat_eq r) (filter test xs) ≡ true
kept test [] r there passes = there
kept test (x ∷ xs) r there passes = by (test x) refl (nat_eq r x) refl (λ h. kept test xs r h passes)
  where
    by : (a : Bool) → test x ≡ a → (b : Bool) → nat_eq r x ≡ b → (list_any (nat_eq r) xs ≡ true → list_any (nat_eq r) (filter test xs) ≡ true) → list_any (nat_eq r) (cond a (x ∷ filter test xs) (filter test xs)) ≡ true
    by true e true f rest = ap (λ b. b || list_any (nat_eq r) (filter test xs)) f
    by true e false f rest = or_right (nat_eq r x) (list_any (nat_eq r) (filter test xs)) (rest (ap (λ b. b || list_any (nat_eq r) xs) (sym f) ∙ there))
    by false e true f rest = absurd (let h : x ≡ r = sym (eqb-true r x f) in let t : false ≡ true = sym e ∙ ap test h ∙ passes in cc)
    by false e false f rest = rest (ap (λ b. b || list_any (nat_eq r) xs) (sym f) ∙ there)

pub in_range : (a n r : ℕ) → a ≤ r → r < a + n → list_any (nat_eq r) (range_with_len a n) ≡ true
in_range a zero r from below = absurd (omega (arith, from, below))
in_range a (suc n) r from below = by (nat_eq r a) refl (λ after. in_range (a + 1) n r after (omega (arith, below)))
  where
    after : nat_eq r a ≡ false → a + 1 ≤ r
    after e = elim (cases_lt a r) [ inl h ↦ omega (arith, h) | inr h ↦ absurd (let same : r ≡ a = omega (arith, h, from) in let t : true ≡ false = sym (eq-eqb r a same) ∙ e in cc) ]

    by : (b : Bool) → nat_eq r a ≡ b → (a + 1 ≤ r → list_any (nat_eq r) (range_with_len (a + 1) n) ≡ true) → (b || list_any (nat_eq r) (range_with_len (a + 1) n)) ≡ true
    by true e rest = refl
    by false e rest = rest (after e)

pub set_keeps : SetKeeps
unfolding regions_by
set_keeps regions r there below =
    Contains-from_any (λ x y e. eqb-true x y e) r (set_of regions)
    (kept (λ region. list_any (nat_eq region) regions) (range_with_len 0 64) r (in_range 0 64 r (omega arith) (omega (arith, below)))
    (All-contains (λ x. list_any (nat_eq x) regions ≡ true) regions r (All-from_recursion (λ x. list_any (nat_eq x) regions ≡ true) regions (all_among regions)) there))
