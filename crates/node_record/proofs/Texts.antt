-- Which texts are numbers.
use Rattle.std.proofs.Common.{◌≡◌, ℕ, Bool, true, false, cond, ◌&&◌, List, ℤ, pos, negsuc, Some, None, refl, ap, subst, arith}
use Rattle.std.specs.Prelude.{bytes_eq, FitsSigned}
use Rattle.std.specs.Int.{w64}
use Rattle.std.proofs.lemmas.Bool.{le-leb}
use Rattle.fine_model.specs.NumberText.{number_text, worth, is_i64, number_of}
use Rattle.std.proofs.lemmas.Bool.{and_parts}
use Rattle.fine_model.proofs.Trees.NodeBounds.{signed}

pub test_from_fits : (z : ℤ) → FitsSigned w64 z → is_i64 z ≡ true
test_from_fits (pos n) h = le-leb n 9223372036854775807 (omega (arith, h))
test_from_fits (negsuc n) h = ap (λ b. b && true) (le-leb n 9223372036854775807 (omega (arith, h)))

-- a text that is a number fits 64 bits
pub number_fits : (text : List ℕ) (z : ℤ) → number_of text ≡ Some z → FitsSigned w64 z
unfolding number_of
number_fits text z is = by (bytes_eq (number_text (worth text)) text && is_i64 (worth text)) refl is
  where
    by : (b : Bool) → (bytes_eq (number_text (worth text)) text && is_i64 (worth text)) ≡ b → cond b (Some (worth text)) None ≡ Some z → FitsSigned w64 z
    by false e is = absurd cc
    by true e is = let same : worth text ≡ z = cc in subst (FitsSigned w64) same (signed (worth text) (and_parts (bytes_eq (number_text (worth text)) text) (is_i64 (worth text)) e).1)
