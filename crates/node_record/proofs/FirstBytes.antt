-- The order of texts by their first bytes, which are read as one number.
use Rattle.std.proofs.Common.{◌≡◌, ℕ, zero, suc, ◌++◌, ◌+◌, ◌*◌, ◌<◌, ◌≤◌, Bool, true, false, cond, ltb, eqb, eq-eqb, List, [], ◌∷◌, length, take, drop, is_lt, Less, Equal, Greater, refl, sym, ap, subst, ◌∙◌, ◌-◌, arith, inl, inr, length-drop, take-append-drop}
use Rattle.std.specs.Int.{Width, w32, w64, from_be_bytes}
use Rattle.std.specs.Cmp.Lexicographic.{slice_cmp}
use Rattle.std.specs.Ordering.{nat_cmp, ordering_then}
use Rattle.std.proofs.lemmas.Bool.{cases_lt, lt-ltb, le-ltb, eqb-true}
use Rattle.std.proofs.lemmas.Nat.{mul-le}
use Rattle.std.proofs.lemmas.List.{length-take, take_all}
use Rattle.fine_model.specs.Map.{is_below}
use Rattle.node_record.proofs.Readers.{IsBytes, IsBytes-take, IsBytes-drop}

-- what two numbers that are read off texts tell of their order: where they are equal, the bytes behind them decide
pub record Decides (n k : ℕ) (a b rest_a rest_b : List ℕ) : Type 0 where
  pub lower : n < k → is_below a b ≡ true
  pub higher : k < n → is_below a b ≡ false
  pub equal : n ≡ k → is_below a b ≡ is_below rest_a rest_b

-- numbers that differ are in the order of the texts
pub decided : (n k : ℕ) (a b rest_a rest_b : List ℕ) → Decides n k a b rest_a rest_b → (n ≡ k → ⊥) → ltb n k ≡ is_below a b
decided n k a b rest_a rest_b d differ =
    elim (cases_lt n k) [
      | inl lt ↦ lt-ltb n k lt ∙ sym (d.lower lt)
      | inr le ↦ le-ltb n k le ∙ sym (d.higher (omega (arith, le, differ)))
    ]

-- what is left of a text
pub rest_is : (n : ℕ) (text : List ℕ) → take (length text - n) (drop n text) ≡ drop n text
rest_is n text = take_all (length text - n) (drop n text) (omega (arith, length-drop n text))

-- ---- one byte

abbrev by_tests : Bool → Bool → List ℕ → List ℕ → Bool
by_tests less same a b = is_lt (ordering_then (cond less Less (cond same Equal Greater)) (slice_cmp nat_cmp a b))

module _ (x y : ℕ) (a b : List ℕ) where
  lower_byte : x < y → is_below (x ∷ a) (y ∷ b) ≡ true
  lower_byte lt = ap (λ (l : Bool). by_tests l (eqb x y) a b) (lt-ltb x y lt)

  equal_byte : x ≡ y → is_below (x ∷ a) (y ∷ b) ≡ is_below a b
  equal_byte is = ap (λ (l : Bool). by_tests l (eqb x y) a b) (le-ltb x y (omega (arith, is))) ∙ ap (λ (s : Bool). by_tests false s a b) (eq-eqb x y is)

  higher_byte : y < x → is_below (x ∷ a) (y ∷ b) ≡ false
  higher_byte gt = ap (λ (l : Bool). by_tests l (eqb x y) a b) (le-ltb x y (omega (arith, gt))) ∙ by (eqb x y) refl
    where
      by : (s : Bool) → eqb x y ≡ s → by_tests false s a b ≡ false
      by true is = absurd (omega (arith, gt, eqb-true x y is))
      by false is = refl

-- ---- a byte before others, which are worth less than one of its units

module _ (unit x y n k : ℕ) (a b rest_a rest_b : List ℕ) (n_less : n < unit) (k_less : k < unit) (others : Decides n k a b rest_a rest_b) where
  units : (i j : ℕ) → i < j → i * unit + unit ≤ j * unit
  units i j lt = let more : (i + 1) * unit ≤ j * unit = mul-le (i + 1) unit j unit (omega (arith, lt)) (omega arith) in omega (arith, more)

  more_decides : Decides (x * unit + n) (y * unit + k) (x ∷ a) (y ∷ b) rest_a rest_b
  more_decides = record {
    lower = λ h. elim (cases_lt x y) [
      | inl lt ↦ lower_byte x y a b lt
      | inr le ↦ elim (cases_lt y x) [
        | inl gt ↦ absurd (omega (arith, h, units y x gt, k_less))
        | inr ge ↦ let same : x ≡ y = omega (arith, le, ge) in equal_byte x y a b same ∙ others.lower (omega (arith, h, ap (λ (z : ℕ). z * unit) same))
      ]
    ];
    higher = λ h. elim (cases_lt y x) [
      | inl gt ↦ higher_byte x y a b gt
      | inr ge ↦ elim (cases_lt x y) [
        | inl lt ↦ absurd (omega (arith, h, units x y lt, n_less))
        | inr le ↦ let same : x ≡ y = omega (arith, le, ge) in equal_byte x y a b same ∙ others.higher (omega (arith, h, ap (λ (z : ℕ). z * unit) same))
      ]
    ];
    equal = λ h. elim (cases_lt x y) [
      | inl lt ↦ absurd (omega (arith, h, units x y lt, n_less))
      | inr le ↦ elim (cases_lt y x) [
        | inl gt ↦ absurd (omega (arith, h, units y x gt, k_less))
        | inr ge ↦ let same : x ≡ y = omega (arith, le, ge) in equal_byte x y a b same ∙ others.equal (omega (arith, h, ap (λ (z : ℕ). z * unit) same))
      ]
    ];
  }

-- other words for the numbers
pub renamed : (n k m l : ℕ) (a b rest_a rest_b : List ℕ) → n ≡ m → k ≡ l → Decides m l a b rest_a rest_b → Decides n k a b rest_a rest_b
renamed n k m l a b rest_a rest_b n_is k_is d = record {
  lower = λ h. d.lower (omega (arith, h, n_is, k_is));
  higher = λ h. d.higher (omega (arith, h, n_is, k_is));
  equal = λ h. d.equal (omega (arith, h, n_is, k_is));
}

-- ---- bytes as one number

abbrev scale : ℕ → ℕ
scale zero = 1
scale (suc n) = 256 * scale n

abbrev worth : List ℕ → ℕ
worth [] = 0
worth (x ∷ xs) = x * scale (length xs) + worth xs

worth_small : (xs : List ℕ) → IsBytes xs → worth xs < scale (length xs)
worth_small [] small = omega arith
worth_small (x ∷ xs) small =
    let less = worth_small xs (λ i. small (suc i)) in
    let most : x * scale (length xs) ≤ 255 * scale (length xs) = mul-le x (scale (length xs)) 255 (scale (length xs)) (omega (arith, small 0)) (omega arith) in
    omega (arith, less, most)

bytes_decide : (xs ys a b : List ℕ) → length xs ≡ length ys → IsBytes xs → IsBytes ys → Decides (worth xs) (worth ys) (xs ++ a) (ys ++ b) a b
bytes_decide [] [] a b same small_x small_y = record { lower = λ h. absurd (omega (arith, h)); higher = λ h. absurd (omega (arith, h)); equal = λ h. refl }
bytes_decide [] (y ∷ ys) a b same small_x small_y = absurd (omega (arith, same))
bytes_decide (x ∷ xs) [] a b same small_x small_y = absurd (omega (arith, same))
bytes_decide (x ∷ xs) (y ∷ ys) a b same small_x small_y =
    let rest : length ys ≡ length xs = omega (arith, same) in
    let later = bytes_decide xs ys a b (sym rest) (λ i. small_x (suc i)) (λ i. small_y (suc i)) in
    let less : worth ys < scale (length xs) = subst (λ (n : ℕ). worth ys < scale n) rest (worth_small ys (λ i. small_y (suc i))) in
    renamed (worth (x ∷ xs)) (worth (y ∷ ys)) (x * scale (length xs) + worth xs) (y * scale (length xs) + worth ys) (x ∷ xs ++ a) (y ∷ ys ++ b) a b refl (ap (λ (n : ℕ). y * scale n + worth ys) rest)
    (more_decides (scale (length xs)) x y (worth xs) (worth ys) (xs ++ a) (ys ++ b) a b (worth_small xs (λ i. small_x (suc i))) less later)

-- the first bytes of two texts, as a number of their width
first_decide : (w : Width) (len : ℕ) → ((xs : List ℕ) → length xs ≡ len → from_be_bytes w xs ≡ worth xs) → (a b : List ℕ) → IsBytes a → IsBytes b → len ≤ length a → len ≤ length b
    → Decides (from_be_bytes w (take len a)) (from_be_bytes w (take len b)) a b (drop len a) (drop len b)
first_decide w len is a b bytes_a bytes_b long_a long_b =
    let len_a : length (take len a) ≡ len = omega (arith, length-take len a) in
    let len_b : length (take len b) ≡ len = omega (arith, length-take len b) in
    let own = renamed (from_be_bytes w (take len a)) (from_be_bytes w (take len b)) _ _ (take len a ++ drop len a) (take len b ++ drop len b) (drop len a) (drop len b) (is (take len a) len_a) (is (take len b) len_b)
    (bytes_decide (take len a) (take len b) (drop len a) (drop len b) (len_a ∙ sym len_b) (IsBytes-take len a bytes_a) (IsBytes-take len b bytes_b)) in
    let left = subst (λ (l : List ℕ). Decides (from_be_bytes w (take len a)) (from_be_bytes w (take len b)) l (take len b ++ drop len b) (drop len a) (drop len b)) (take-append-drop len a) own in
    subst (λ (l : List ℕ). Decides (from_be_bytes w (take len a)) (from_be_bytes w (take len b)) a l (drop len a) (drop len b)) (take-append-drop len b) left

worth_4 : (xs : List ℕ) → length xs ≡ 4 → from_be_bytes w32 xs ≡ worth xs
worth_4 (x0 ∷ x1 ∷ x2 ∷ x3 ∷ []) e = omega arith
worth_4 _ e = absurd (omega (arith, e))

worth_8 : (xs : List ℕ) → length xs ≡ 8 → from_be_bytes w64 xs ≡ worth xs
worth_8 (x0 ∷ x1 ∷ x2 ∷ x3 ∷ x4 ∷ x5 ∷ x6 ∷ x7 ∷ []) e = omega arith
worth_8 _ e = absurd (omega (arith, e))

-- ---- the numbers that stand at the first bytes of two texts, and behind so many

pub eight_decide : (n k : ℕ) (a b : List ℕ) → n ≡ from_be_bytes w64 (take 8 a) → k ≡ from_be_bytes w64 (take 8 b) → IsBytes a → IsBytes b → 8 ≤ length a → 8 ≤ length b → Decides n k a b (drop 8 a) (drop 8 b)
eight_decide n k a b n_is k_is bytes_a bytes_b long_a long_b = renamed n k _ _ a b (drop 8 a) (drop 8 b) n_is k_is (first_decide w64 8 worth_8 a b bytes_a bytes_b long_a long_b)

pub four_decide : (i n k : ℕ) (a b : List ℕ) → n ≡ from_be_bytes w32 (take 4 (drop i a)) → k ≡ from_be_bytes w32 (take 4 (drop i b)) → IsBytes a → IsBytes b → i + 4 ≤ length a → i + 4 ≤ length b
    → Decides n k (drop i a) (drop i b) (drop 4 (drop i a)) (drop 4 (drop i b))
four_decide i n k a b n_is k_is bytes_a bytes_b long_a long_b =
    renamed n k _ _ (drop i a) (drop i b) (drop 4 (drop i a)) (drop 4 (drop i b)) n_is k_is
    (first_decide w32 4 worth_4 (drop i a) (drop i b) (IsBytes-drop i a bytes_a) (IsBytes-drop i b bytes_b) (omega (arith, long_a, length-drop i a)) (omega (arith, long_b, length-drop i b)))
