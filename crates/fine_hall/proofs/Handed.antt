-- The passes that a new hall hands out are all that its end wants.
use Rattle.std.proofs.Common.{◌≡◌, ℕ, zero, suc, ◌+◌, List, [], ◌∷◌, ◌++◌, length, map, refl, sym, ap, ◌∙◌, subst, arith}
use Rattle.std.specs.Prelude.{IsPermutation}
use Rattle.std.specs.List.{range_with_len}
use Rattle.std.proofs.lemmas.List.Sorted.{IsPermutation-refl, IsPermutation-trans, IsPermutation-cons, IsPermutation-append_comm}
use Rattle.std.proofs.lemmas.List.FromFn.{map-range_with_len_more}
use mathlib.Core.Option.{some}
use lib.ListN.{get_elem?}
use Rattle.fine_model.specs.declared.law.ViewState.{ViewState}
use Rattle.fine_hall.specs.declared.pass.Pass.{Pass}
use Rattle.fine_hall.specs.Turns.{room_after}
use Rattle.fine_hall.specs.EngineLaws.{HandedLaw, HandedIdle}

-- the numbers from n down to 1
abbrev down : ℕ → List ℕ
down zero = []
down (suc n) = suc n ∷ down n

itself : (l : List ℕ) → map (λ (k : ℕ). k) l ≡ l
itself [] = refl
itself (k ∷ ks) = ap (λ l. k ∷ l) (itself ks)

one_more : (n : ℕ) → range_with_len 1 (suc n) ≡ range_with_len 1 n ++ suc n ∷ []
one_more n =
    let up : suc n ≡ n + 1 = omega arith in
    ap (range_with_len 1) up ∙ (sym (itself (range_with_len 1 (n + 1))) ∙ (map-range_with_len_more (λ k. k) 1 n (suc n) (omega arith) ∙ ap (λ l. l ++ suc n ∷ []) (itself (range_with_len 1 n))))

down_or_up : (n : ℕ) → IsPermutation (down n) (range_with_len 1 n)
down_or_up zero = IsPermutation-refl []
down_or_up (suc n) = subst (IsPermutation (suc n ∷ down n)) (sym (one_more n))
    (IsPermutation-trans (suc n ∷ down n) (suc n ∷ range_with_len 1 n) (range_with_len 1 n ++ suc n ∷ [])
    (IsPermutation-cons (suc n) (down n) (range_with_len 1 n) (down_or_up n))
    (IsPermutation-append_comm (suc n ∷ []) (range_with_len 1 n)))

numbers : {V : Type 0} (m : ℕ) (passes : List (Pass V)) → length passes ≡ m → ((i : ℕ) (p : Pass V) → get_elem? passes i ≡ some p → p.number + i ≡ m) → map (λ (p : Pass V). p.number) passes ≡ down m
numbers zero [] long each = refl
numbers zero (p ∷ ps) long each = absurd (omega (arith, long))
numbers (suc m) [] long each = absurd (omega (arith, long))
numbers (suc m) (p ∷ ps) long each =
    let first = each 0 p refl in
    let first' : p.number ≡ suc m = omega (arith, first) in
    let rest = numbers m ps (omega (arith, long)) (λ i q at. let e = each (suc i) q at in omega (arith, e)) in
    λ i. first' i ∷ rest i

module _ {V : Type 0} (view : V → ViewState) where
  pub handed_law : HandedLaw view
  handed_law z x fronts passes long out = subst (λ l. IsPermutation l (range_with_len 1 x.seats))
      (sym (numbers x.seats passes long (λ i p at. let h = out i p at in let a = h.number in let b = h.fresh.numbered in omega (arith, a, b)))) (down_or_up x.seats)

  pub handed_idle : HandedIdle view
  handed_idle z x fronts passes none out i p at = let h = out i p at in
      (h.is_pass, h.fresh.holds_none, λ one. ap (λ l. (room_after x.room l).job) h.fresh.seen_none ∙ none)
