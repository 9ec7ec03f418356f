-- The number of 64 bits that digits spell.
use Rattle.std.proofs.Common.{◌≡◌, ◌⊎◌, ℕ, ◌<◌, ◌≤◌, min, nat_le, true, List, Some, refl, sym, ap, ◌∙◌, inl, inr, arith, le-leb}
use Rattle.std.specs.Prelude.{Option, bytes_eq, decimal}
use Rattle.std.specs.Fmt.{digits}
use Rattle.std.proofs.lemmas.Bool.{cases_lt}
use Rattle.std.proofs.lemmas.Slice.Eq.{bytes_eq-Decides}
use Rattle.fine_model.specs.NumberText.{digits_worth}
use Rattle.fine_model.specs.Script.{natural_of}

-- what the digits of the greatest number of 64 bits are worth
greatest_worth : digits_worth (decimal 18446744073709551615) ≡ 18446744073709551615
unfolding digits
greatest_worth = refl

-- digits that are those of what they are worth, at most the greatest number, are worth it
worth_is : (n : ℕ) (word : List ℕ) → n ≡ min (digits_worth word) 18446744073709551615 → decimal n ≡ word → n ≡ digits_worth word
worth_is n word is same = by (cases_lt 18446744073709551615 (digits_worth word))
  where
    by : (18446744073709551615 < digits_worth word) ⊎ (digits_worth word ≤ 18446744073709551615) → n ≡ digits_worth word
    by (inl above) =
        let greatest : n ≡ 18446744073709551615 = omega (arith, is, above) in
        let worth : digits_worth word ≡ 18446744073709551615 = ap digits_worth (sym same) ∙ ap (λ m. digits_worth (decimal m)) greatest ∙ greatest_worth in
        absurd (omega (arith, worth, above))
    by (inr within) = omega (arith, is, within)

pub spelled : (low high n : ℕ) (word : List ℕ) → n ≡ min (digits_worth word) 18446744073709551615 → low ≤ n → n ≤ high → decimal n ≡ word → ◌≡◌ {A = Option ℕ} (Some n) (natural_of low high word)
spelled low high n word is from to same =
    let e = worth_is n word is same in
    let s : bytes_eq (decimal (digits_worth word)) word ≡ true = (bytes_eq-Decides (decimal (digits_worth word)) word).1 (ap decimal (sym e) ∙ same) in
    let l : nat_le low (digits_worth word) ≡ true = ap (nat_le low) (sym e) ∙ le-leb low n from in
    let h : nat_le (digits_worth word) high ≡ true = ap (λ m. nat_le m high) (sym e) ∙ le-leb n high to in
    rw (s, l, h) (ap Some e)
