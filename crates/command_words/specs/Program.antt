-- The program's words as the library `clap` has them.
use Rattle.std.specs.Prelude.{ℕ, List, [], ◌∷◌, Option, Some, None, codes, true, if◌then◌else◌, bytes_eq, option_map, option_and_then}
use Rattle.clap.specs.Walk.{Row, Rule, Text, first_of}
use Rattle.fine_model.specs.Script.{natural_of}
use Rattle.fine_model.specs.Words.{Command, Given, run, dump, ranges, merge, gen_of, with_defaults}
use Rattle.clap.specs.Simple.{App, Shape, new_rule, new_shape, with_subcommand}

-- an option with a value
abbrev pub option_named : Text → Rule
option_named name = record (new_rule name) { long = Some name }

-- a number that has its place among the words
abbrev pub number_named : Text → Rule
number_named name = record (new_rule name) { required = true }

-- a command of three words
abbrev pub shape_of_three : Text → Rule → Rule → Rule → Shape
shape_of_three name first second third = record (new_shape name) { rules = first ∷ second ∷ third ∷ [] }

abbrev pub run_shape : Shape
run_shape = shape_of_three (codes "run") (option_named (codes "group")) (option_named (codes "tries")) (option_named (codes "keep"))

abbrev pub gen_shape : Shape
gen_shape = shape_of_three (codes "gen") (number_named (codes "start")) (number_named (codes "count")) (number_named (codes "lanes"))

abbrev pub top_shape : Shape
top_shape = record (new_shape (codes "fineline")) {
  no_binary_name = true;
  disable_help_flag = true;
  disable_help_subcommand = true;
  subcommand_required = true;
}

abbrev pub program : App
program = with_subcommand
    (with_subcommand
    (with_subcommand
    (with_subcommand (with_subcommand (record { top = top_shape; subs = [] }) run_shape) (new_shape (codes "dump"))) (new_shape (codes "ranges"))) (new_shape (codes "merge"))) gen_shape

-- ---- what the words say, by what the library found

-- a number that may have been given
abbrev pub option_of : ℕ → Option Text → Option (Option ℕ)
option_of most None = Some None
option_of most (Some text) = option_map (λ n. Some n) (natural_of 1 most text)

abbrev pub all_given : Option (Option ℕ) → Option (Option ℕ) → Option (Option ℕ) → Option Given
all_given None tries keep = None
all_given (Some group) None keep = None
all_given (Some group) (Some tries) None = None
all_given (Some group) (Some tries) (Some keep) = Some (record { group = group; tries = tries; keep = keep })

-- the options that were found, where each is within its limits
abbrev pub given_in_rows : List Row → Option Given
given_in_rows rows = all_given (option_of 100000 (first_of (codes "group") rows)) (option_of 1000000 (first_of (codes "tries") rows)) (option_of 256 (first_of (codes "keep") rows))

abbrev pub generated_of : Option Text → Option Text → Option Text → Option Command
generated_of (Some start) (Some count) (Some lanes) = gen_of (start ∷ count ∷ lanes ∷ [])
generated_of _ _ _ = None

-- the command of a name, with the rows that were found
abbrev pub command_named : Text → List Row → Option Command
command_named name rows =
    if bytes_eq name (codes "run") then option_map (λ g. run (with_defaults g)) (given_in_rows rows)
    else (if bytes_eq name (codes "dump") then Some dump
    else (if bytes_eq name (codes "ranges") then Some ranges
    else (if bytes_eq name (codes "merge") then Some merge
    else (if bytes_eq name (codes "gen") then generated_of (first_of (codes "start") rows) (first_of (codes "count") rows) (first_of (codes "lanes") rows)
    else None))))

-- the command that a parse found
abbrev pub command_found : Option (Text × List Row) → Option Command
command_found found = option_and_then (λ p. command_named p.0 p.1) found
