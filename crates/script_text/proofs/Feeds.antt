-- Texts in which a byte does not stand, and lines that do not begin with a `t`.
use Rattle.std.proofs.Common.{◌≡◌, ◌≢◌, ◌==◌, not, Bool, false, true, if◌then◌else◌, ℕ, zero, suc, ◌+◌, ◌/◌, ◌%◌, ◌<◌, nat_lt, List, [], ◌∷◌, ◌++◌, ℤ, pos, negsuc, refl, ap, ◌∙◌, arith, append_assoc}
use Rattle.std.specs.Prelude.{flat_map, decimal}
use Rattle.std.specs.List.{AllByRecursion, join_with_byte}
use Rattle.std.specs.Fmt.{digits, digits_onto, digit_glyph}
use Rattle.std.proofs.lemmas.Bool.{eqb-false, ne_eqb}
use Rattle.fine_model.specs.NumberText.{number_text}
use Rattle.fine_model.specs.Report.{line}

-- c is not among the bytes
abbrev pub HasNo : ℕ → List ℕ → Type 0
HasNo c text = AllByRecursion (λ b. b ≢ c) text

abbrev pub lacks : ℕ → List ℕ → Bool
lacks c [] = true
lacks c (b ∷ bs) = if b == c then false else lacks c bs

pub has_no : (c : ℕ) (text : List ℕ) → lacks c text ≡ true → HasNo c text
has_no c [] e = tt
has_no c (b ∷ bs) e = by_test (b == c) refl e (has_no c bs)
  where
    by_test : (t : Bool) → (b == c) ≡ t → (if t then false else lacks c bs) ≡ true → (lacks c bs ≡ true → HasNo c bs) → (b ≢ c) × HasNo c bs
    by_test true is e rest = absurd cc
    by_test false is e rest = (eqb-false b c is, rest e)

pub no_append : (c : ℕ) (a b : List ℕ) → HasNo c a → HasNo c b → HasNo c (a ++ b)
no_append c [] b p q = q
no_append c (x ∷ xs) b p q = (p.0, no_append c xs b p.1 q)

pub no_feed_words : (words : List (List ℕ)) → AllByRecursion (HasNo 10) words → HasNo 10 (join_with_byte 32 words)
no_feed_words [] h = tt
no_feed_words (x ∷ []) h = h.0
no_feed_words (x ∷ y ∷ xs) h = no_append 10 x (32 ∷ join_with_byte 32 (y ∷ xs)) h.0 (λ e. omega (arith, e), no_feed_words (y ∷ xs) h.1)

-- digits are above what stands between words
no_glyph : (c d : ℕ) → c < 48 → digit_glyph false d ≢ c
no_glyph c d small = by_test (nat_lt d 10)
  where
    by_test : (t : Bool) → (if t then 48 + d else (if false then 55 + d else 87 + d)) ≢ c
    by_test true e = omega arith
    by_test false e = omega arith

no_digits : (c k n : ℕ) (acc : List ℕ) → c < 48 → HasNo c acc → HasNo c (digits_onto k 10 false n acc)
no_digits c zero n acc small h = h
no_digits c (suc k) n acc small h =
    let all : HasNo c (digit_glyph false (n % 10) ∷ acc) = (no_glyph c (n % 10) small, h) in
    either (n / 10 == 0) _ _ all (no_digits c k (n / 10) (digit_glyph false (n % 10) ∷ acc) small all)
  where
    either : (t : Bool) (a b : List ℕ) → HasNo c a → HasNo c b → HasNo c (if t then a else b)
    either true a b p q = p
    either false a b p q = q

pub no_decimal : (c n : ℕ) → c < 48 → HasNo c (decimal n)
unfolding digits
no_decimal c n small = no_digits c 64 n [] small tt

pub no_number : (z : ℤ) → HasNo 10 (number_text z)
unfolding number_text
no_number (pos n) = no_decimal 10 n (omega arith)
no_number (negsuc n) = (λ e. omega (arith, e), no_decimal 10 (suc n) (omega arith))

-- two texts that have the byte first at one place
pub split_first : (c : ℕ) (a b x y : List ℕ) → HasNo c a → HasNo c b → a ++ c ∷ x ≡ b ++ c ∷ y → (a ≡ b) × (x ≡ y)
split_first c [] [] x y p q e = (refl, cc)
split_first c [] (b ∷ bs) x y p q e = let same : b ≡ c = cc in absurd (q.0 same)
split_first c (a ∷ cs) [] x y p q e = let same : a ≡ c = cc in absurd (p.0 same)
split_first c (a ∷ cs) (b ∷ bs) x y p q e =
    let heads : a ≡ b = cc in
    let tails : cs ++ c ∷ x ≡ bs ++ c ∷ y = cc in
    let rest = split_first c cs bs x y p.1 q.1 tails in
    (λ i. heads i ∷ rest.0 i, rest.1)

-- a text from its first line on that begins with a `t`; inside a line, from the first such line behind it
abbrev pub from_t : Bool → List ℕ → List ℕ
from_t inside [] = []
from_t true (b ∷ bs) = from_t (not (b == 10)) bs
from_t false (b ∷ bs) = if b == 116 then b ∷ bs else from_t (not (b == 10)) bs

-- lines of which none begins with a `t`
abbrev pub HasNoT : List ℕ → Type 0
HasNoT text = (rest : List ℕ) → from_t false (text ++ rest) ≡ from_t false rest

from_inside : (text rest : List ℕ) → HasNo 10 text → from_t true (text ++ 10 ∷ rest) ≡ from_t false rest
from_inside [] rest h = refl
from_inside (b ∷ bs) rest h = ap (λ t. from_t (not t) (bs ++ 10 ∷ rest)) (ne_eqb b 10 h.0) ∙ from_inside bs rest h.1

abbrev pub begins_with_t : List ℕ → Bool
begins_with_t [] = false
begins_with_t (b ∷ bs) = b == 116

no_t_text : (text : List ℕ) → begins_with_t text ≡ false → HasNo 10 text → HasNoT (text ++ 10 ∷ [])
no_t_text [] e h rest = refl
no_t_text (b ∷ bs) e h rest =
    ap (λ t. if t then b ∷ (bs ++ 10 ∷ [] ++ rest) else from_t (not (b == 10)) (bs ++ 10 ∷ [] ++ rest)) e
    ∙ ap (λ t. from_t (not t) (bs ++ 10 ∷ [] ++ rest)) (ne_eqb b 10 h.0)
    ∙ ap (from_t true) (append_assoc bs (10 ∷ []) rest)
    ∙ from_inside bs rest h.1

-- a line of words
pub no_t_line : (words : List (List ℕ)) → begins_with_t (join_with_byte 32 words) ≡ false → AllByRecursion (HasNo 10) words → HasNoT (line words)
no_t_line words e h = no_t_text (join_with_byte 32 words) e (no_feed_words words h)

pub no_t_append : (a b : List ℕ) → HasNoT a → HasNoT b → HasNoT (a ++ b)
no_t_append a b p q rest = ap (from_t false) (append_assoc a b rest) ∙ p (b ++ rest) ∙ q rest

pub no_t_each : {A : Type 0} (f : A → List ℕ) (P : A → Type 0) → ((x : A) → P x → HasNoT (f x)) → (xs : List A) → AllByRecursion P xs → HasNoT (flat_map f xs)
no_t_each f P one [] all = λ rest. refl
no_t_each f P one (x ∷ xs) all = no_t_append (f x) (flat_map f xs) (one x all.0) (no_t_each f P one xs all.1)
