use Rattle.std.proofs.Common.{◌≡◌, ℕ, Bool, true, false, cond, List, length, Some, None, refl, ap, ◌∙◌, arith}
use Rattle.std.specs.Prelude.{unwrap_or, nat_lt, position, ◌==◌, not}
use Rattle.std.specs.List.{position_or_len}
use Rattle.std.proofs.lemmas.Bool.{ltb-false}
use Rattle.std.proofs.lemmas.List.Sums.{prefix_len-le-length}
use Rattle.command_words.proofs.splitting.place_of.Goals as goal

-- the first place, or the length, is what stands for a position
at_most_length : (p : ℕ → Bool) (xs : List ℕ) → unwrap_or (position p xs) (length xs) ≡ position_or_len p xs
at_most_length p xs = by (nat_lt (position_or_len p xs) (length xs)) refl
  where
    by : (test : Bool) → nat_lt (position_or_len p xs) (length xs) ≡ test → unwrap_or (position p xs) (length xs) ≡ position_or_len p xs
    by true e = ap (λ b. unwrap_or (cond b (Some (position_or_len p xs)) None) (length xs)) e
    by false e = ap (λ b. unwrap_or (cond b (Some (position_or_len p xs)) None) (length xs)) e ∙ (let most = prefix_len-le-length (λ x. not (p x)) xs in let least = ltb-false (position_or_len p xs) (length xs) e in omega arith)

pub returns-clause-is : goal.returns-clause-is
returns-clause-is c = c.unwrap_or.ensures ∙ ap (λ o. unwrap_or o (length c.args.word.now)) c.position_of.ensures ∙ at_most_length (λ b. b == c.args.byte) c.args.word.now
