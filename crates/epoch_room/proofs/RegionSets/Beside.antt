-- The regions of parts, and those beside them.
use Rattle.std.proofs.Common.{◌≡◌, ℕ, ◌+◌, ◌-◌, ◌<◌, ◌≤◌, Bool, true, false, cond, not, ◌||◌, ◌&&◌, List, [], ◌∷◌, ◌++◌, length, refl, sym, ap, subst, ◌∙◌, arith, length-append, length-take, zero-add, true≢false}
use Rattle.std.specs.Prelude.{filter, nat_eq, sum_by}
use Rattle.std.specs.List.{AllByRecursion, list_any, range_with_len, IsDistinct}
use Rattle.std.proofs.lemmas.Bool.{eqb-true, not-true}
use Rattle.std.proofs.lemmas.Grind.{flat_map-append}
use Rattle.std.proofs.lemmas.List.Folds.{list_any-append}
use Rattle.std.proofs.lemmas.List.Sums.{sum_by-cons}
use Rattle.std.proofs.lemmas.Map.Steps.{length-le_from_distinct_below}
use Rattle.fine_model.specs.declared.Part.{Part}
use Rattle.fine_model.specs.Chain.{regions_of}
use Rattle.fine_model.specs.Trees.{is_distinct}
use Rattle.fine_model.proofs.Ordered.Lists.{range_more}
use Rattle.fine_model.proofs.Ordered.Nothing.{any_none}
use Rattle.fine_model.proofs.Ordered.Order.{first_of_both}
use Rattle.epoch_room.specs.Value.{all_regions}
use Rattle.epoch_room.specs.Whole.{HasRegions, AreApart}

-- a region is in one of the parts where it is among all their regions
pub any_region : (r : ℕ) (parts : List Part) → list_any (λ p. list_any (nat_eq r) (regions_of p)) parts ≡ list_any (nat_eq r) (all_regions parts)
any_region r [] = refl
any_region r (p ∷ parts) = ap (λ t. list_any (nat_eq r) (regions_of p) || t) (any_region r parts) ∙ sym (list_any-append (nat_eq r) (regions_of p) (all_regions parts))

pub regions_together : (a b : List Part) → all_regions (a ++ b) ≡ all_regions a ++ all_regions b
regions_together a b = flat_map-append regions_of a b

pub any_together : (r : ℕ) (a b : List Part) → list_any (nat_eq r) (all_regions (a ++ b)) ≡ (list_any (nat_eq r) (all_regions a) || list_any (nat_eq r) (all_regions b))
any_together r a b = ap (list_any (nat_eq r)) (regions_together a b) ∙ list_any-append (nat_eq r) (all_regions a) (all_regions b)

-- ---- how many there are

part_sum : (p : Part) → HasRegions p → length (regions_of p) ≡ p.header.regions
part_sum p has = omega (arith, has.low, has.high, has.more, length-take (p.header.regions - 1) p.header.more)

pub regions_sum : (parts : List Part) → AllByRecursion HasRegions parts → sum_by (λ (p : Part). p.header.regions) parts ≡ length (all_regions parts)
regions_sum [] all = refl
regions_sum (p ∷ parts) all =
    omega (arith, sum_by-cons (λ (p : Part). p.header.regions) p parts, regions_sum parts all.1, length-append (regions_of p) (all_regions parts), part_sum p all.0)

pub distinct_from : (xs : List ℕ) → is_distinct xs ≡ true → IsDistinct nat_eq xs
unfolding is_distinct IsDistinct
distinct_from [] h = tt
distinct_from (x ∷ xs) h =
    let both = first_of_both (not (list_any (nat_eq x) xs)) (is_distinct xs) h in (any_none (nat_eq x) xs (not-true (list_any (nat_eq x) xs) both.0), distinct_from xs both.1)

pub at_member : (P : ℕ → Type 0) (xs : List ℕ) (q : ℕ) → AllByRecursion P xs → list_any (nat_eq q) xs ≡ true → P q
at_member P [] q all h = absurd (true≢false (sym h))
at_member P (x ∷ xs) q all h = by (nat_eq q x) refl h (λ rest. at_member P xs q all.1 rest)
  where
    by : (b : Bool) → nat_eq q x ≡ b → (b || list_any (nat_eq q) xs) ≡ true → (list_any (nat_eq q) xs ≡ true → P q) → P q
    by true e h rest = subst P (sym (eqb-true q x e)) all.0
    by false e h rest = rest h

pub few_apart : (regions : ℕ) (some : List ℕ) → AreApart regions some → length some ≤ regions
few_apart regions some apart = length-le_from_distinct_below some regions (distinct_from some apart.distinct) (λ q h. at_member (λ r. r < regions) some q apart.below h)

-- ---- those beside them

pub filter_few : {A : Type 0} (p : A → Bool) (xs : List A) → length (filter p xs) ≤ length xs
filter_few p [] = omega arith
filter_few p (x ∷ xs) = by (p x) (filter_few p xs)
  where
    by : (b : Bool) → length (filter p xs) ≤ length xs → length (cond b (x ∷ filter p xs) (filter p xs)) ≤ length (x ∷ xs)
    by true h = omega (arith, h)
    by false h = omega (arith, h)

pub filter_end : {A : Type 0} (p : A → Bool) (xs : List A) (y : A) → filter p (xs ++ y ∷ []) ≡ filter p xs ++ cond (p y) (y ∷ []) []
filter_end p [] y = refl
filter_end p (x ∷ xs) y = by (p x) (filter_end p xs y)
  where
    by : (b : Bool) → filter p (xs ++ y ∷ []) ≡ filter p xs ++ cond (p y) (y ∷ []) [] → cond b (x ∷ filter p (xs ++ y ∷ [])) (filter p (xs ++ y ∷ [])) ≡ cond b (x ∷ filter p xs) (filter p xs) ++ cond (p y) (y ∷ []) []
    by true h = ap (λ ys. x ∷ ys) h
    by false h = h

-- one region more is looked at
pub beside_more : (n : ℕ) (live retired : List Part) (a b : Bool) → a ≡ list_any (λ p. list_any (nat_eq n) (regions_of p)) live → b ≡ list_any (λ p. list_any (nat_eq n) (regions_of p)) retired
    → filter (λ r. not (list_any (nat_eq r) (all_regions (live ++ retired)))) (range_with_len 0 (n + 1))
    ≡ filter (λ r. not (list_any (nat_eq r) (all_regions (live ++ retired)))) (range_with_len 0 n) ++ cond (not a && not b) (n ∷ []) []
beside_more n live retired a b x y =
    let p : ℕ → Bool = λ r. not (list_any (nat_eq r) (all_regions (live ++ retired))) in
    let here : p n ≡ (not a && not b) =
    ap not (any_together n live retired) ∙ neither (list_any (nat_eq n) (all_regions live)) (list_any (nat_eq n) (all_regions retired))
    ∙ ap (λ t. not t && not (list_any (nat_eq n) (all_regions retired))) (sym (x ∙ any_region n live)) ∙ ap (λ t. not a && not t) (sym (y ∙ any_region n retired)) in
    ap (filter p) (range_more 0 n ∙ ap (λ m. range_with_len 0 n ++ m ∷ []) (zero-add n)) ∙ filter_end p (range_with_len 0 n) n ∙ ap (λ t. filter p (range_with_len 0 n) ++ cond t (n ∷ []) []) here
  where
    neither : (s t : Bool) → not (s || t) ≡ (not s && not t)
    neither true t = refl
    neither false t = refl

pub beside_pushed : (n : ℕ) (live retired : List Part) (t : Bool) → t ≡ (not (list_any (λ p. list_any (nat_eq n) (regions_of p)) live) && not (list_any (λ p. list_any (nat_eq n) (regions_of p)) retired))
    → (free new : List ℕ) → free ≡ filter (λ r. not (list_any (nat_eq r) (all_regions (live ++ retired)))) (range_with_len 0 n) → new ≡ free ++ cond t (n ∷ []) []
    → new ≡ filter (λ r. not (list_any (nat_eq r) (all_regions (live ++ retired)))) (range_with_len 0 (n + 1))
beside_pushed n live retired t is free new before more =
    more ∙ ap (λ xs. xs ++ cond t (n ∷ []) []) before ∙ ap (λ b. filter (λ r. not (list_any (nat_eq r) (all_regions (live ++ retired)))) (range_with_len 0 n) ++ cond b (n ∷ []) []) is
    ∙ sym (beside_more n live retired (list_any (λ p. list_any (nat_eq n) (regions_of p)) live) (list_any (λ p. list_any (nat_eq n) (regions_of p)) retired) refl refl)
