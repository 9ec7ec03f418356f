-- Worked examples of words and of the generator.
use Rattle.std.proofs.Common.{◌≡◌, ℕ, List, [], ◌∷◌, Option, Some, None, refl, pos, replicate, map}
use Rattle.std.specs.Prelude.{codes}
use Rattle.std.specs.Fmt.{digits}
use Rattle.fine_model.specs.Types.call
use Rattle.fine_model.specs.Types.ending
use Rattle.fine_model.specs.Words.{Command, command_of, options_in, geometry_of, run, gen}
use Rattle.fine_model.specs.Generator.{next_state, txns_from, generated}

pub first_state : next_state 7 ≡ 9098160460397411210
first_state = refl

pub first_generated : generated 7 1 1 ≡ record {
  lane = 1;
  calls = call.Add (codes "c30") (pos 2) ∷ call.Put (codes "k1a") (replicate 58 118) ∷ call.Put (codes "k1b") (replicate 58 118) ∷ call.Put (codes "k1c") (replicate 58 118) ∷ call.Get (codes "k1a") ∷ [];
  ending = ending.Commit;
} ∷ []
unfolding digits txns_from
first_generated = refl

-- words, and the command that they spell
abbrev Spell : List (List (List ℕ) × Option Command) → Type 0
Spell table = map (λ row. command_of row.0) table ≡ map (λ row. row.1) table

pub words_spell : Spell (
    (codes "fly" ∷ [], None)
    ∷ ([], None)
    ∷ (codes "gen" ∷ codes "7" ∷ codes "5" ∷ codes "17" ∷ [], None)
    ∷ (codes "run" ∷ codes "--group" ∷ codes "0" ∷ [], None)
    ∷ (codes "run" ∷ codes "--group=1" ∷ [], Some (run (record { group = 1; tries = 100; keep = 64 })))
    ∷ [])
unfolding command_of options_in digits
words_spell = refl

-- two dashes may stand behind the options, and before or among numbers; the words behind them are no options, and once more
-- they are a word
pub dashes_spell : Spell (
    (codes "run" ∷ codes "--keep" ∷ codes "7" ∷ codes "--" ∷ [], Some (run (record { group = 64; tries = 100; keep = 7 })))
    ∷ (codes "gen" ∷ codes "7" ∷ codes "--" ∷ codes "5" ∷ codes "4" ∷ [], Some (gen 7 5 4))
    ∷ (codes "run" ∷ codes "--" ∷ codes "--keep" ∷ codes "7" ∷ [], None)
    ∷ (codes "dump" ∷ codes "--" ∷ codes "--" ∷ [], None)
    ∷ [])
unfolding command_of options_in digits
dashes_spell = refl

-- an option stands once, and its number has no sign
pub options_spell : Spell (
    (codes "run" ∷ codes "--keep=7" ∷ codes "--keep" ∷ codes "8" ∷ [], None)
    ∷ (codes "run" ∷ codes "--tries" ∷ codes "-1" ∷ [], None)
    ∷ [])
unfolding command_of options_in digits
options_spell = refl

pub four_by_four : geometry_of (codes "4x4") ≡ Some (4, 4096)
unfolding digits
four_by_four = refl
