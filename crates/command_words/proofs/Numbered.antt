-- How the library walks over the three numbers of `gen`.
use Rattle.std.proofs.Common.{◌≡◌, ℕ, suc, Bool, true, false, List, [], ◌∷◌, ◌++◌, length, Option, Some, None, option_map, option_and_then, bytes_eq, codes, chars, slice_get, refl, sym, ap, ◌∙◌, subst, arith}
use Rattle.clap.specs.declared.error.kind.ErrorKind.TheVariants as kind
use Rattle.clap.specs.declared.parser.matches.ValueSource.TheVariants.{CommandLine}
use Rattle.clap.specs.Walk.{Held, Row, Rule, Text, Walk, bundle_met, first_of, reading_by, walked, nothing_held, idle}
use Rattle.clap.specs.Lexer.{long_of, short_of}
use Rattle.clap.specs.Simple.{Shape, filled, filled_from, new_shape}
use Rattle.clap.specs.Kinds.{Kinds}
use Rattle.clap.specs.Faults.{walk_fault, turn_fault, flags_fault, defaults_fault}
use Rattle.fine_model.specs.Script.{natural_of}
use Rattle.fine_model.specs.Words.{Command, gen, gen_of, without_dashes}
use Rattle.command_words.specs.Program.{gen_shape, number_named}
use Rattle.command_words.proofs.Levels.{fault_from, rows_from, word_fails, word_taken}
use Rattle.command_words.proofs.Walking.{dashes, Form, dashed, long_form, short_form, plain_form, form_of, kinds_apart, minus_none}

abbrev pub gen_rules : List Rule
gen_rules = filled_from 1 gen_shape.rules

abbrev pub gen_leaf : Shape
gen_leaf = record (new_shape (codes "gen")) { rules = gen_rules; no_binary_name = true; disable_help_flag = true; disable_help_subcommand = true; is_built = true }

-- the numbers that were met
pub data Stage : Type 0 where
  none_met : Stage
  one_met : Text → Stage
  two_met : Text → Text → Stage
  all_met : Text → Text → Text → Stage

abbrev number_row : Text → Text → Row
number_row name v = record { id = name; values = v ∷ []; count = None; source = Some CommandLine; reading = reading_by (filled (number_named name)) }

abbrev stage_held : Stage → Held
stage_held none_met = nothing_held
stage_held (one_met a) = record { rows = []; pending = Some (codes "start", a ∷ []); skip = 0 }
stage_held (two_met a b) = record { rows = number_row (codes "start") a ∷ []; pending = Some (codes "count", b ∷ []); skip = 0 }
stage_held (all_met a b c) = record { rows = number_row (codes "start") a ∷ number_row (codes "count") b ∷ []; pending = Some (codes "lanes", c ∷ []); skip = 0 }

abbrev stage_position : Stage → ℕ
stage_position none_met = 1
stage_position (one_met a) = 2
stage_position (two_met a b) = 3
stage_position (all_met a b c) = 4

abbrev stage_texts : Stage → List Text
stage_texts none_met = []
stage_texts (one_met a) = a ∷ []
stage_texts (two_met a b) = a ∷ b ∷ []
stage_texts (all_met a b c) = a ∷ b ∷ c ∷ []

abbrev stage_walk : Stage → Bool → Walk
stage_walk s trailing = record { held = stage_held s; waiting = idle; position = stage_position s; is_trailing = trailing; stopped = None }

abbrev pub gen_fault : Walk → List Text → Kinds
gen_fault w ws = fault_from gen_leaf w ws

abbrev pub gen_rows : Walk → List Text → List Row
gen_rows w ws = rows_from gen_leaf w ws

-- three texts were found, and the command is that of these; or something fails, and there is no command
pub data Numbers (fault : Kinds) (rows : List Row) (result : Option Command) : Type 0 where
  three : (a b c : Text) → fault ≡ [] → first_of (codes "start") rows ≡ Some a → first_of (codes "count") rows ≡ Some b → first_of (codes "lanes") rows ≡ Some c
      → result ≡ gen_of (a ∷ b ∷ c ∷ []) → Numbers fault rows result
  not_three : (fault ≡ [] → ⊥) → result ≡ None → Numbers fault rows result

goes_on : (w w' : Walk) (word : Text) (ws : List Text) (r : Option Command) → turn_fault gen_leaf [] w word ≡ [] → walked gen_rules [] w word ≡ w'
    → Numbers (gen_fault w' ws) (gen_rows w' ws) r → Numbers (gen_fault w (word ∷ ws)) (gen_rows w (word ∷ ws)) r
goes_on w w' word ws r = word_taken gen_leaf (λ k rows. Numbers k rows r) w w' word ws

at_end : (s : Stage) (trailing : Bool) → Numbers (gen_fault (stage_walk s trailing) []) (gen_rows (stage_walk s trailing) []) (gen_of (stage_texts s))
unfolding walk_fault defaults_fault
at_end none_met trailing = not_three (λ e. absurd cc) refl
at_end (one_met a) trailing = not_three (λ e. absurd cc) refl
at_end (two_met a b) trailing = not_three (λ e. absurd cc) refl
at_end (all_met a b c) trailing = three a b c refl refl refl refl refl

-- a word behind `--`
behind : (s : Stage) (ws : List Text) → Numbers (gen_fault (stage_walk s true) ws) (gen_rows (stage_walk s true) ws) (gen_of (stage_texts s ++ ws))
unfolding walked
behind none_met [] = at_end none_met true
behind (one_met a) [] = at_end (one_met a) true
behind (two_met a b) [] = at_end (two_met a b) true
behind (all_met a b c) [] = at_end (all_met a b c) true
behind none_met (w ∷ ws) = goes_on (stage_walk none_met true) (stage_walk (one_met w) true) w ws (gen_of (w ∷ ws)) refl refl (behind (one_met w) ws)
behind (one_met a) (w ∷ ws) = goes_on (stage_walk (one_met a) true) (stage_walk (two_met a w) true) w ws (gen_of (a ∷ w ∷ ws)) refl refl (behind (two_met a w) ws)
behind (two_met a b) (w ∷ ws) = goes_on (stage_walk (two_met a b) true) (stage_walk (all_met a b w) true) w ws (gen_of (a ∷ b ∷ w ∷ ws)) refl refl (behind (all_met a b w) ws)
behind (all_met a b c) (w ∷ ws) = not_three (word_fails gen_leaf (stage_walk (all_met a b c) true) w ws (λ e. absurd cc)) refl

-- no number begins with a minus
gen_minus : (s : Stage) (bs : Text) (rest : List Text) → gen_of (stage_texts s ++ (45 ∷ bs) ∷ rest) ≡ None
gen_minus none_met bs [] = refl
gen_minus none_met bs (b ∷ []) = refl
gen_minus none_met bs (b ∷ c ∷ []) = rw (minus_none 0 18446744073709551615 bs (omega arith)) refl
gen_minus none_met bs (b ∷ c ∷ d ∷ rest) = refl
gen_minus (one_met a) bs [] = refl
gen_minus (one_met a) bs (c ∷ []) = go (natural_of 0 18446744073709551615 a)
  where
    go : (o : Option ℕ) → option_and_then (λ s. option_and_then (λ n. option_map (λ l. gen s n l) (natural_of 1 16 c)) (natural_of 0 100000 (45 ∷ bs))) o ≡ None
    go None = refl
    go (Some s) = rw (minus_none 0 100000 bs (omega arith)) refl
gen_minus (one_met a) bs (c ∷ d ∷ rest) = refl
gen_minus (two_met a b) bs [] = go (natural_of 0 18446744073709551615 a) (natural_of 0 100000 b)
  where
    go : (o u : Option ℕ) → option_and_then (λ s. option_and_then (λ n. option_map (λ l. gen s n l) (natural_of 1 16 (45 ∷ bs))) u) o ≡ None
    go None u = refl
    go (Some s) None = refl
    go (Some s) (Some n) = rw (minus_none 1 16 bs (omega arith)) refl
gen_minus (two_met a b) bs (d ∷ rest) = refl
gen_minus (all_met a b c) bs rest = refl

without_first : (word : Text) (ws : List Text) → bytes_eq word dashes ≡ false → without_dashes (word ∷ ws) ≡ word ∷ without_dashes ws
without_first word ws e = rw e refl

abbrev result : Stage → List Text → Option Command
result s ws = gen_of (stage_texts s ++ without_dashes ws)

-- a long word
long_stops : (s : Stage) (word name : Text) (value : Option Text) → bytes_eq word dashes ≡ false → long_of word ≡ Some (name, value) → turn_fault gen_leaf [] (stage_walk s false) word ≡ kind.UnknownArgument ∷ []
long_stops none_met word name value e f = rw (e, f) refl
long_stops (one_met a) word name value e f = rw (e, f) refl
long_stops (two_met a b) word name value e f = rw (e, f) refl
long_stops (all_met a b c) word name value e f = rw (e, f) refl

short_stops : (s : Stage) (word flags : Text) (k x : ℕ) → bytes_eq word dashes ≡ false → long_of word ≡ None → short_of word ≡ Some flags → length flags ≡ suc k → slice_get (chars flags) 0 ≡ Some x
    → turn_fault gen_leaf [] (stage_walk s false) word ≡ kind.UnknownArgument ∷ []
unfolding flags_fault bundle_met
short_stops none_met word flags k x e f g l c = rw (e, f, g, l, c) refl
short_stops (one_met a) word flags k x e f g l c = rw (e, f, g, l, c) refl
short_stops (two_met a b) word flags k x e f g l c = rw (e, f, g, l, c) refl
short_stops (all_met a' b' c') word flags k x e f g l c = rw (e, f, g, l, c) refl

-- a word that is a value
pub record IsValue (word : Text) : Type 0 where
  pub turn_none : turn_fault gen_leaf [] (stage_walk none_met false) word ≡ []
  pub turn_one : (a : Text) → turn_fault gen_leaf [] (stage_walk (one_met a) false) word ≡ []
  pub turn_two : (a b : Text) → turn_fault gen_leaf [] (stage_walk (two_met a b) false) word ≡ []
  pub turn_all : (a b c : Text) → turn_fault gen_leaf [] (stage_walk (all_met a b c) false) word ≡ kind.UnknownArgument ∷ []
  pub walk_none : walked gen_rules [] (stage_walk none_met false) word ≡ stage_walk (one_met word) false
  pub walk_one : (a : Text) → walked gen_rules [] (stage_walk (one_met a) false) word ≡ stage_walk (two_met a word) false
  pub walk_two : (a b : Text) → walked gen_rules [] (stage_walk (two_met a b) false) word ≡ stage_walk (all_met a b word) false

plain_value : (word : Text) → bytes_eq word dashes ≡ false → long_of word ≡ None → short_of word ≡ None → IsValue word
unfolding walked
plain_value word e f g = record {
  turn_none = rw (e, f, g) refl;
  turn_one = λ a. rw (e, f, g) refl;
  turn_two = λ a b. rw (e, f, g) refl;
  turn_all = λ a b c. rw (e, f, g) refl;
  walk_none = rw (e, f, g) refl;
  walk_one = λ a. rw (e, f, g) refl;
  walk_two = λ a b. rw (e, f, g) refl;
}

odd_value : (word flags : Text) (k : ℕ) → bytes_eq word dashes ≡ false → long_of word ≡ None → short_of word ≡ Some flags → length flags ≡ suc k → slice_get (chars flags) 0 ≡ None → IsValue word
unfolding walked flags_fault bundle_met
odd_value word flags k e f g l c = record {
  turn_none = rw (e, f, g, l, c) refl;
  turn_one = λ a. rw (e, f, g, l, c) refl;
  turn_two = λ a b. rw (e, f, g, l, c) refl;
  turn_all = λ a b d. rw (e, f, g, l, c) refl;
  walk_none = rw (e, f, g, l, c) refl;
  walk_one = λ a. rw (e, f, g, l, c) refl;
  walk_two = λ a b. rw (e, f, g, l, c) refl;
}

abbrev pub Staged : List Text → Type 0
Staged ws = (s : Stage) → Numbers (gen_fault (stage_walk s false) ws) (gen_rows (stage_walk s false) ws) (result s ws)

value_goes : (word : Text) (ws : List Text) → bytes_eq word dashes ≡ false → IsValue word → Staged ws → Staged (word ∷ ws)
value_goes word ws apart is next none_met =
    subst (λ r. Numbers (gen_fault (stage_walk none_met false) (word ∷ ws)) (gen_rows (stage_walk none_met false) (word ∷ ws)) r) (ap gen_of (sym (without_first word ws apart)))
    (goes_on (stage_walk none_met false) (stage_walk (one_met word) false) word ws (result (one_met word) ws) is.turn_none is.walk_none (next (one_met word)))
value_goes word ws apart is next (one_met a) =
    subst (λ r. Numbers (gen_fault (stage_walk (one_met a) false) (word ∷ ws)) (gen_rows (stage_walk (one_met a) false) (word ∷ ws)) r) (ap (λ xs. gen_of (a ∷ xs)) (sym (without_first word ws apart)))
    (goes_on (stage_walk (one_met a) false) (stage_walk (two_met a word) false) word ws (result (two_met a word) ws) (is.turn_one a) (is.walk_one a) (next (two_met a word)))
value_goes word ws apart is next (two_met a b) =
    subst (λ r. Numbers (gen_fault (stage_walk (two_met a b) false) (word ∷ ws)) (gen_rows (stage_walk (two_met a b) false) (word ∷ ws)) r) (ap (λ xs. gen_of (a ∷ b ∷ xs)) (sym (without_first word ws apart)))
    (goes_on (stage_walk (two_met a b) false) (stage_walk (all_met a b word) false) word ws (result (all_met a b word) ws) (is.turn_two a b) (is.walk_two a b) (next (all_met a b word)))
value_goes word ws apart is next (all_met a b c) =
    not_three (word_fails gen_leaf (stage_walk (all_met a b c) false) word ws (kinds_apart _ kind.UnknownArgument [] (is.turn_all a b c)))
    (ap (λ xs. gen_of (a ∷ b ∷ c ∷ xs)) (without_first word ws apart))

minus_stops : (s : Stage) (word bs : Text) (ws : List Text) → bytes_eq word dashes ≡ false → word ≡ 45 ∷ bs → (turn_fault gen_leaf [] (stage_walk s false) word ≡ [] → ⊥)
    → Numbers (gen_fault (stage_walk s false) (word ∷ ws)) (gen_rows (stage_walk s false) (word ∷ ws)) (result s (word ∷ ws))
minus_stops s word bs ws apart is some =
    not_three (word_fails gen_leaf (stage_walk s false) word ws some)
    (ap (λ xs. gen_of (stage_texts s ++ xs)) (without_first word ws apart ∙ ap (λ w. w ∷ without_dashes ws) is) ∙ gen_minus s bs (without_dashes ws))

dashes_go : (s : Stage) (ws : List Text) → Numbers (gen_fault (stage_walk s false) (dashes ∷ ws)) (gen_rows (stage_walk s false) (dashes ∷ ws)) (result s (dashes ∷ ws))
unfolding walked
dashes_go none_met ws = goes_on (stage_walk none_met false) (stage_walk none_met true) dashes ws (gen_of ws) refl refl (behind none_met ws)
dashes_go (one_met a) ws = goes_on (stage_walk (one_met a) false) (stage_walk (one_met a) true) dashes ws (gen_of (a ∷ ws)) refl refl (behind (one_met a) ws)
dashes_go (two_met a b) ws = goes_on (stage_walk (two_met a b) false) (stage_walk (two_met a b) true) dashes ws (gen_of (a ∷ b ∷ ws)) refl refl (behind (two_met a b) ws)
dashes_go (all_met a b c) ws = goes_on (stage_walk (all_met a b c) false) (stage_walk (all_met a b c) true) dashes ws (gen_of (a ∷ b ∷ c ∷ ws)) refl refl (behind (all_met a b c) ws)

word_goes : (word : Text) (ws : List Text) → Staged ws → Staged (word ∷ ws)
word_goes word ws next s = go (form_of word)
  where
    go : Form word → Numbers (gen_fault (stage_walk s false) (word ∷ ws)) (gen_rows (stage_walk s false) (word ∷ ws)) (result s (word ∷ ws))
    go (dashed is) = subst (λ w. Numbers (gen_fault (stage_walk s false) (w ∷ ws)) (gen_rows (stage_walk s false) (w ∷ ws)) (result s (w ∷ ws))) (sym is) (dashes_go s ws)
    go (long_form n is apart long) = minus_stops s word (45 ∷ n) ws apart is (kinds_apart _ kind.UnknownArgument [] (long_stops s word _ _ apart long))
    go (short_form flags k apart long short some is other pair) = by (slice_get (chars flags) 0) refl
      where
        by : (o : Option ℕ) → slice_get (chars flags) 0 ≡ o → Numbers (gen_fault (stage_walk s false) (word ∷ ws)) (gen_rows (stage_walk s false) (word ∷ ws)) (result s (word ∷ ws))
        by (Some x) f = minus_stops s word flags ws apart is (kinds_apart _ kind.UnknownArgument [] (short_stops s word flags k x apart long short some f))
        by None f = value_goes word ws apart (odd_value word flags k apart long short some f) next s
    go (plain_form apart long short other pair) = value_goes word ws apart (plain_value word apart long short) next s

words_end : Staged []
words_end none_met = at_end none_met false
words_end (one_met a) = at_end (one_met a) false
words_end (two_met a b) = at_end (two_met a b) false
words_end (all_met a b c) = at_end (all_met a b c) false

pub gen_words : (ws : List Text) → Staged ws
gen_words [] = words_end
gen_words (word ∷ ws) = word_goes word ws (λ s. gen_words ws s)
