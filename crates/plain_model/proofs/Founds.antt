-- The first pairs between two keys, found one after another.
use Rattle.std.proofs.Common.{◌≡◌, ℕ, zero, suc, ◌-◌, ◌<◌, ◌≤◌, Bool, true, false, ◌&&◌, cond, List, [], ◌∷◌, ◌++◌, length, take, refl, sym, ap, ◌∙◌, arith, append_assoc, append-nil, length-append}
use Rattle.std.specs.Prelude.{not}
use Rattle.fine_model.specs.Map.{Pair, is_below, between}

abbrev is_between : List ℕ → List ℕ → Pair → Bool
is_between low high p = not (is_below p.0 low) && is_below p.0 high

between-in : (low high : List ℕ) (p : Pair) (left : List Pair) → is_between low high p ≡ true → between low high (p ∷ left) ≡ p ∷ between low high left
unfolding between
between-in low high p left e = ap (λ b. cond b (p ∷ between low high left) (between low high left)) e

between-out : (low high : List ℕ) (p : Pair) (left : List Pair) → is_between low high p ≡ false → between low high (p ∷ left) ≡ between low high left
unfolding between
between-out low high p left e = ap (λ b. cond b (p ∷ between low high left) (between low high left)) e

-- what is found with those of the pairs that are left
abbrev pub found_with : List ℕ → List ℕ → ℕ → List Pair → List Pair → List Pair
found_with low high limit found left = found ++ take (limit - length found) (between low high left)

pub found_none : (low high : List ℕ) (limit : ℕ) (found left : List Pair) → left ≡ [] → found_with low high limit found left ≡ found
unfolding between
found_none low high limit found left e = ap (λ l. found_with low high limit found l) e ∙ ap (λ l. found ++ l) (none (limit - length found)) ∙ append-nil found
  where
    none : (n : ℕ) → take n (between low high []) ≡ []
    none zero = refl
    none (suc n) = refl

pub found_more : (low high : List ℕ) (limit : ℕ) (found : List Pair) (p : Pair) (left : List Pair) → length found < limit → is_between low high p ≡ true
    → found_with low high limit (found ++ p ∷ []) left ≡ found_with low high limit found (p ∷ left)
found_more low high limit found p left room e =
    let k : limit - length found ≡ suc (limit - length (found ++ p ∷ [])) = omega (arith, length-append found (p ∷ [])) in
    append_assoc found (p ∷ []) (take (limit - length (found ++ p ∷ [])) (between low high left))
    ∙ ap (λ l. found ++ l) (sym (ap (λ n. take n (p ∷ between low high left)) k))
    ∙ ap (λ l. found ++ take (limit - length found) l) (sym (between-in low high p left e))

pub found_out : (low high : List ℕ) (limit : ℕ) (found : List Pair) (p : Pair) (left : List Pair) → is_between low high p ≡ false
    → found_with low high limit found left ≡ found_with low high limit found (p ∷ left)
found_out low high limit found p left e = ap (λ l. found ++ take (limit - length found) l) (sym (between-out low high p left e))

pub found_all : (low high : List ℕ) (limit : ℕ) (found : List Pair) (p : Pair) (left : List Pair) → limit ≤ length found
    → found_with low high limit found left ≡ found_with low high limit found (p ∷ left)
found_all low high limit found p left full =
    let k : limit - length found ≡ 0 = omega arith in
    ap (λ n. found ++ take n (between low high left)) k ∙ sym (ap (λ n. found ++ take n (between low high (p ∷ left))) k)
