-- How the library walks over the options of `run`.
use Rattle.std.proofs.Common.{◌≡◌, ℕ, suc, ◌<◌, ◌≤◌, ◌==◌, ◌+◌, ◌^◌, nat_le, drop, if◌then◌else◌, cond, Bool, true, false, not, ◌&&◌, List, [], ◌∷◌, ◌++◌, length, fold, take, Option, Some, None, is_some, option_map, option_and_then, bytes_eq, codes, chars, slice_get, refl, sym, ap, ◌∙◌, subst, arith, decimal}
use Rattle.std.proofs.lemmas.Bool.Decides.{nat_tests}
use Rattle.std.proofs.lemmas.Fmt.{decimal_is_IsNumeral}
use Rattle.std.proofs.lemmas.Str.Parse.{digit_from_value}
use Rattle.std.specs.Str.Parse.{AllDigits}
use Rattle.std.proofs.Math.Numerals.{one-add}
use Rattle.fine_model.specs.NumberText.{digits_worth}
use Rattle.std.proofs.lemmas.Slice.Eq.{bytes_eq-Decides}
use Rattle.std.specs.List.{list_any, before_first, after_first, prefix_len}
use Rattle.clap.specs.declared.error.kind.ErrorKind.TheVariants as kind
use Rattle.clap.specs.declared.parser.matches.ValueSource.TheVariants.{CommandLine}
use Rattle.clap.specs.Walk.{Held, Row, Text, Waiting, Walk, positional, bundle_met, walked, walk_from, arg_by_long, settled, finished, has_row, reading_by, with_default, with_values, without, idle, option}
use Rattle.clap.specs.Lexer.{long_of, short_of, name_and_value}
use Rattle.clap.specs.Simple.{Shape, new_shape}
use Rattle.clap.specs.Kinds.{Kinds, or_else}
use Rattle.clap.specs.Faults.{walk_fault, turn_fault, settle_fault, flags_fault, default_fault, defaults_fault}
use Rattle.fine_model.specs.Script.{natural_of}
use Rattle.fine_model.specs.Words.{Given, has_equals, with_option, options_in, then_given}
use Rattle.command_words.proofs.Levels.{end_fault, fault_from, or_fails, or_nothing, rows_from, word_fails, word_taken}
use Rattle.command_words.proofs.Options.{run_rules, Which, the_group, the_tries, the_keep, name_of, rule_for, which_of, by_long, with_dashed, with_which, number, Texts, given_in, put_text, numbers, put_numbers, put_taken, Holds, held_with, texts_with, Settles, settles, conflict, row_for, settled_named, settled_rows_are, holds_put}

abbrev pub run_leaf : Shape
run_leaf = record (new_shape (codes "run")) { rules = run_rules; no_binary_name = true; disable_help_flag = true; disable_help_subcommand = true; is_built = true }

-- ---- behind the words

-- an option without a value has no default
no_default : (k : Which) (rows : List Row) → (default_fault rows (rule_for k) ≡ []) × (with_default rows (rule_for k) ≡ rows)
no_default k rows = go k (has_row (name_of k) rows) refl
  where
    go : (k : Which) (b : Bool) → has_row (name_of k) rows ≡ b → (default_fault rows (rule_for k) ≡ []) × (with_default rows (rule_for k) ≡ rows)
    go the_group true e = (rw e refl, rw e refl)
    go the_group false e = (rw e refl, rw e refl)
    go the_tries true e = (rw e refl, rw e refl)
    go the_tries false e = (rw e refl, rw e refl)
    go the_keep true e = (rw e refl, rw e refl)
    go the_keep false e = (rw e refl, rw e refl)

defaults_none : (rows : List Row) → defaults_fault rows run_rules ≡ []
unfolding defaults_fault
defaults_none rows =
    rw ((no_default the_group rows).0, (no_default the_group rows).1, (no_default the_tries rows).0, (no_default the_tries rows).1, (no_default the_keep rows).0) refl

finished_is : (h : Held) → finished run_rules h ≡ (settled run_rules h).rows
finished_is h = go (settled run_rules h).rows
  where
    go : (rows : List Row) → fold with_default rows run_rules ≡ rows
    go rows = rw ((no_default the_group rows).1, (no_default the_tries rows).1) (no_default the_keep rows).1

abbrev tail_fault : Held → Kinds
tail_fault h = end_fault run_leaf h

tail_is : (h : Held) → tail_fault h ≡ settle_fault run_rules false h
tail_is h = rw (defaults_none (settled run_rules h).rows) (or_nothing (settle_fault run_rules false h))

-- ---- word by word

abbrev pub rest_fault : Walk → List Text → Kinds
rest_fault w ws = fault_from run_leaf w ws

abbrev pub rest_rows : Walk → List Text → List Row
rest_rows w ws = rows_from run_leaf w ws

-- nothing fails, and the rows are of texts with these numbers; or something fails, and so do the options
pub data Agree (fault : Kinds) (rows : List Row) (result : Option Given) : Type 0 where
  agrees : (t : Texts) → fault ≡ [] → Holds rows t → result ≡ numbers t → Agree fault rows result
  fails : (fault ≡ [] → ⊥) → result ≡ None → Agree fault rows result

agree_step : (w w' : Walk) (word : Text) (ws : List Text) (r : Option Given) → turn_fault run_leaf [] w word ≡ [] → walked run_rules [] w word ≡ w'
    → Agree (rest_fault w' ws) (rest_rows w' ws) r → Agree (rest_fault w (word ∷ ws)) (rest_rows w (word ∷ ws)) r
agree_step w w' word ws r = word_taken run_leaf (λ k rows. Agree k rows r) w w' word ws

agree_fails : (w : Walk) (word : Text) (ws : List Text) (r : Option Given) → (turn_fault run_leaf [] w word ≡ [] → ⊥) → r ≡ None
    → Agree (rest_fault w (word ∷ ws)) (rest_rows w (word ∷ ws)) r
agree_fails w word ws r some none = fails (word_fails run_leaf w word ws some) none

-- ---- behind `--`

abbrev trailing_walk : Held → Waiting → Walk
trailing_walk h waiting = record { held = h; waiting = waiting; position = 1; is_trailing = true; stopped = None }

trailing_fails : (h : Held) (waiting : Waiting) (word : Text) → turn_fault run_leaf [] (trailing_walk h waiting) word ≡ [] → ⊥
trailing_fails h waiting word e = absurd cc

-- at the end of the words
walk_end : (w : Walk) → rest_fault w [] ≡ settle_fault run_rules false w.held
unfolding walk_fault
walk_end w = tail_is w.held

ends : (rows : List Row) (t : Texts) (q : Option (Which × Text)) (w : Walk) → Holds rows t → w.held ≡ held_with rows q
    → Agree (rest_fault w []) (rest_rows w []) (option_and_then numbers (texts_with t q))
ends rows t q w h is = go (texts_with t q) (settles rows t q h)
  where
    go : (o : Option Texts) → Settles rows q o → Agree (rest_fault w []) (rest_rows w []) (option_and_then numbers o)
    go None s = fails (λ e. s (ap (settle_fault run_rules false) (sym is) ∙ sym (walk_end w) ∙ e)) refl
    go (Some t') s = agrees t' (walk_end w ∙ ap (settle_fault run_rules false) is ∙ s.0)
        (subst (λ xs. Holds xs t') (ap (λ x. (settled run_rules x).rows) (sym is) ∙ sym (finished_is w.held)) s.1) refl

trailing : (rows : List Row) (t : Texts) (q : Option (Which × Text)) (waiting : Waiting) (ws : List Text) (r : Option Given) → Holds rows t
    → (ws ≡ [] → r ≡ option_and_then numbers (texts_with t q)) → (0 < length ws → r ≡ None)
    → Agree (rest_fault (trailing_walk (held_with rows q) waiting) ws) (rest_rows (trailing_walk (held_with rows q) waiting) ws) r
trailing rows t q waiting [] r h end more =
    subst (λ x. Agree (rest_fault (trailing_walk (held_with rows q) waiting) []) (rest_rows (trailing_walk (held_with rows q) waiting) []) x) (sym (end refl))
    (ends rows t q (trailing_walk (held_with rows q) waiting) h refl)
trailing rows t q waiting (word ∷ ws) r h end more = agree_fails (trailing_walk (held_with rows q) waiting) word ws r (trailing_fails (held_with rows q) waiting word) (more (omega arith))

-- ---- words of the options

abbrev is_equals : ℕ → Bool
is_equals b = b == 61

abbrev pub dashes : Text
dashes = 45 ∷ 45 ∷ []

abbrev reacted_fault : Which → Text → Held → Kinds
reacted_fault k v h = or_else (settle_fault run_rules false h) (or_else (conflict (has_row (name_of k) (settled run_rules h).rows)) [])

-- `--name=value`
turn_pair : (k : Which) (h : Held) (word name v : Text) → bytes_eq word dashes ≡ false → long_of word ≡ Some (name, Some v) → arg_by_long run_rules name ≡ Some (rule_for k)
    → turn_fault run_leaf [] (walk_from h) word ≡ or_else (reacted_fault k v h) []
turn_pair the_group h word name v e f g = rw (e, f, g) refl
turn_pair the_tries h word name v e f g = rw (e, f, g) refl
turn_pair the_keep h word name v e f g = rw (e, f, g) refl

walked_pair : (k : Which) (h : Held) (word name v : Text) → bytes_eq word dashes ≡ false → long_of word ≡ Some (name, Some v) → arg_by_long run_rules name ≡ Some (rule_for k)
    → walked run_rules [] (walk_from h) word ≡ walk_from (record { rows = with_values (name_of k) (reading_by (rule_for k)) CommandLine (v ∷ []) (without (name_of k) (settled run_rules h).rows); pending = None; skip = h.skip })
unfolding walked
walked_pair the_group h word name v e f g = rw (e, f, g) refl
walked_pair the_tries h word name v e f g = rw (e, f, g) refl
walked_pair the_keep h word name v e f g = rw (e, f, g) refl

-- `--name`
turn_name : (k : Which) (h : Held) (word name : Text) → bytes_eq word dashes ≡ false → long_of word ≡ Some (name, None) → arg_by_long run_rules name ≡ Some (rule_for k)
    → turn_fault run_leaf [] (walk_from h) word ≡ or_else (settle_fault run_rules false h) []
turn_name the_group h word name e f g = rw (e, f, g) refl
turn_name the_tries h word name e f g = rw (e, f, g) refl
turn_name the_keep h word name e f g = rw (e, f, g) refl

abbrev waiting_walk : List Row → Which → Walk
waiting_walk rows k = record {
  held = record { rows = rows; pending = Some (name_of k, []); skip = 0 };
  waiting = option (name_of k);
  position = 1;
  is_trailing = false;
  stopped = None;
}

walked_name : (k : Which) (rows : List Row) (q : Option (Which × Text)) (word name : Text) → bytes_eq word dashes ≡ false → long_of word ≡ Some (name, None) → arg_by_long run_rules name ≡ Some (rule_for k)
    → walked run_rules [] (walk_from (held_with rows q)) word ≡ waiting_walk (settled run_rules (held_with rows q)).rows k
unfolding walked
walked_name the_group rows None word name e f g = rw (e, f, g) refl
walked_name the_group rows (Some p) word name e f g = rw (e, f, g) refl
walked_name the_tries rows None word name e f g = rw (e, f, g) refl
walked_name the_tries rows (Some p) word name e f g = rw (e, f, g) refl
walked_name the_keep rows None word name e f g = rw (e, f, g) refl
walked_name the_keep rows (Some p) word name e f g = rw (e, f, g) refl

-- the walk where something waits, or nothing does
abbrev walk_at : Held → Waiting → Walk
walk_at h waiting = record { held = h; waiting = waiting; position = 1; is_trailing = false; stopped = None }

-- another long name
unknown_fails : (waiting : Waiting) (h : Held) (word name : Text) (value : Option Text) → bytes_eq word dashes ≡ false → long_of word ≡ Some (name, value)
    → arg_by_long run_rules name ≡ None → turn_fault run_leaf [] (walk_at h waiting) word ≡ kind.UnknownArgument ∷ []
unknown_fails idle h word name value e f g = rw (e, f, g) refl
unknown_fails (option id) h word name value e f g = rw (e, f, g) refl
unknown_fails positional h word name value e f g = rw (e, f, g) refl

-- no option at all
plain_fails : (h : Held) (word : Text) → bytes_eq word dashes ≡ false → long_of word ≡ None → short_of word ≡ None → turn_fault run_leaf [] (walk_from h) word ≡ kind.UnknownArgument ∷ []
plain_fails h word e f g = rw (e, f, g) refl

-- short options
short_fails : (h : Held) (word flags : Text) (k : ℕ) → bytes_eq word dashes ≡ false → long_of word ≡ None → short_of word ≡ Some flags → length flags ≡ suc k → h.skip ≡ 0
    → turn_fault run_leaf [] (walk_from h) word ≡ kind.UnknownArgument ∷ []
unfolding flags_fault bundle_met
short_fails h word flags k e f g l z = go (slice_get (chars flags) 0) refl
  where
    go : (o : Option ℕ) → slice_get (chars flags) 0 ≡ o → turn_fault run_leaf [] (walk_from h) word ≡ kind.UnknownArgument ∷ []
    go None n = rw (e, f, g, l, z, n) refl
    go (Some x) n = rw (e, f, g, l, z, n) refl

-- ---- where an option waits for its value

abbrev waits : List Row → Which → Held
waits rows k = record { rows = rows; pending = Some (name_of k, []); skip = 0 }

waits_fault : (rows : List Row) (k : Which) → settle_fault run_rules false (waits rows k) ≡ kind.InvalidValue ∷ []
waits_fault rows the_group = refl
waits_fault rows the_tries = refl
waits_fault rows the_keep = refl

-- a long option in place of the value
long_for_value : (k j : Which) (rows : List Row) (word name : Text) (value : Option Text) → bytes_eq word dashes ≡ false → long_of word ≡ Some (name, value)
    → arg_by_long run_rules name ≡ Some (rule_for j) → turn_fault run_leaf [] (waiting_walk rows k) word ≡ kind.InvalidValue ∷ []
long_for_value the_group the_group rows word name None e f g = rw (e, f, g) refl
long_for_value the_group the_tries rows word name None e f g = rw (e, f, g) refl
long_for_value the_group the_keep rows word name None e f g = rw (e, f, g) refl
long_for_value the_tries the_group rows word name None e f g = rw (e, f, g) refl
long_for_value the_tries the_tries rows word name None e f g = rw (e, f, g) refl
long_for_value the_tries the_keep rows word name None e f g = rw (e, f, g) refl
long_for_value the_keep the_group rows word name None e f g = rw (e, f, g) refl
long_for_value the_keep the_tries rows word name None e f g = rw (e, f, g) refl
long_for_value the_keep the_keep rows word name None e f g = rw (e, f, g) refl
long_for_value the_group the_group rows word name (Some v) e f g = rw (e, f, g) refl
long_for_value the_group the_tries rows word name (Some v) e f g = rw (e, f, g) refl
long_for_value the_group the_keep rows word name (Some v) e f g = rw (e, f, g) refl
long_for_value the_tries the_group rows word name (Some v) e f g = rw (e, f, g) refl
long_for_value the_tries the_tries rows word name (Some v) e f g = rw (e, f, g) refl
long_for_value the_tries the_keep rows word name (Some v) e f g = rw (e, f, g) refl
long_for_value the_keep the_group rows word name (Some v) e f g = rw (e, f, g) refl
long_for_value the_keep the_tries rows word name (Some v) e f g = rw (e, f, g) refl
long_for_value the_keep the_keep rows word name (Some v) e f g = rw (e, f, g) refl

-- the value is taken
turn_value : (k : Which) (rows : List Row) (word : Text) → bytes_eq word dashes ≡ false → long_of word ≡ None → short_of word ≡ None → turn_fault run_leaf [] (waiting_walk rows k) word ≡ []
turn_value the_group rows word e f g = rw (e, f, g) refl
turn_value the_tries rows word e f g = rw (e, f, g) refl
turn_value the_keep rows word e f g = rw (e, f, g) refl

walked_value : (k : Which) (rows : List Row) (word : Text) → bytes_eq word dashes ≡ false → long_of word ≡ None → short_of word ≡ None
    → walked run_rules [] (waiting_walk rows k) word ≡ walk_from (held_with rows (Some (k, word)))
unfolding walked
walked_value the_group rows word e f g = rw (e, f, g) refl
walked_value the_tries rows word e f g = rw (e, f, g) refl
walked_value the_keep rows word e f g = rw (e, f, g) refl

-- a short option in place of the value, or bytes that are no text
turn_short_value : (k : Which) (rows : List Row) (word flags : Text) (n x : ℕ) → bytes_eq word dashes ≡ false → long_of word ≡ None → short_of word ≡ Some flags → length flags ≡ suc n
    → slice_get (chars flags) 0 ≡ Some x → turn_fault run_leaf [] (waiting_walk rows k) word ≡ kind.UnknownArgument ∷ []
unfolding flags_fault bundle_met
turn_short_value the_group rows word flags n x e f g l c = rw (e, f, g, l, c) refl
turn_short_value the_tries rows word flags n x e f g l c = rw (e, f, g, l, c) refl
turn_short_value the_keep rows word flags n x e f g l c = rw (e, f, g, l, c) refl

turn_odd_value : (k : Which) (rows : List Row) (word flags : Text) (n : ℕ) → bytes_eq word dashes ≡ false → long_of word ≡ None → short_of word ≡ Some flags → length flags ≡ suc n
    → slice_get (chars flags) 0 ≡ None → turn_fault run_leaf [] (waiting_walk rows k) word ≡ []
unfolding flags_fault bundle_met
turn_odd_value the_group rows word flags n e f g l c = rw (e, f, g, l, c) refl
turn_odd_value the_tries rows word flags n e f g l c = rw (e, f, g, l, c) refl
turn_odd_value the_keep rows word flags n e f g l c = rw (e, f, g, l, c) refl

walked_odd_value : (k : Which) (rows : List Row) (word flags : Text) (n : ℕ) → bytes_eq word dashes ≡ false → long_of word ≡ None → short_of word ≡ Some flags → length flags ≡ suc n
    → slice_get (chars flags) 0 ≡ None → walked run_rules [] (waiting_walk rows k) word ≡ walk_from (held_with rows (Some (k, word)))
unfolding walked flags_fault bundle_met
walked_odd_value the_group rows word flags n e f g l c = rw (e, f, g, l, c) refl
walked_odd_value the_tries rows word flags n e f g l c = rw (e, f, g, l, c) refl
walked_odd_value the_keep rows word flags n e f g l c = rw (e, f, g, l, c) refl

-- ---- the definitions' side

bind_then : (o : Option Given) (F G : Given → Option Given) → option_and_then (λ g. then_given (F g) G) o ≡ option_and_then G (option_and_then F o)
bind_then None F G = refl
bind_then (Some g) F G = go (F g)
  where
    go : (x : Option Given) → then_given x G ≡ option_and_then G x
    go None = refl
    go (Some h) = refl

bind_same : (o : Option Given) (F G : Given → Option Given) → ((g : Given) → F g ≡ G g) → option_and_then F o ≡ option_and_then G o
bind_same None F G h = refl
bind_same (Some g) F G h = h g

bind_none : (o : Option Given) (F : Given → Option Given) → ((g : Given) → F g ≡ None) → option_and_then F o ≡ None
bind_none None F h = refl
bind_none (Some g) F h = h g

bind_some : (o : Option Given) → option_and_then (λ g. Some g) o ≡ o
bind_some None = refl
bind_some (Some g) = refl

then_some : (o : Option Given) → then_given o (λ g. Some g) ≡ o
then_some None = refl
then_some (Some g) = refl

abbrev after : Texts → List Text → Option Given
after t ws = option_and_then (λ g. options_in g ws) (numbers t)

abbrev after_option : Texts → Option (Which × Text) → List Text → Option Given
after_option t q ws = option_and_then (λ s. after s ws) (texts_with t q)

-- one more option, before the others
placed : (k : Which) (t : Texts) (v : Text) → option_and_then (λ g. with_which (Some k) g v) (numbers t) ≡ option_and_then numbers (texts_with t (Some (k, v)))
placed k t v = go (t k) refl
  where
    go : (o : Option Text) → t k ≡ o → option_and_then (λ g. with_which (Some k) g v) (numbers t) ≡ option_and_then numbers (texts_with t (Some (k, v)))
    go None e = put_numbers k t v e ∙ sym (ap (λ o. option_and_then numbers (if is_some o then None else Some (put_text k t v))) e)
    go (Some u) e = put_taken k t u v e ∙ sym (ap (λ o. option_and_then numbers (if is_some o then None else Some (put_text k t v))) e)

bind_assoc : (o : Option Texts) (F : Given → Option Given) → option_and_then F (option_and_then numbers o) ≡ option_and_then (λ s. option_and_then F (numbers s)) o
bind_assoc None F = refl
bind_assoc (Some s) F = refl

after_placed : (k : Which) (t : Texts) (v : Text) (ws : List Text)
    → option_and_then (λ g. then_given (with_which (Some k) g v) (λ h. options_in h ws)) (numbers t) ≡ after_option t (Some (k, v)) ws
after_placed k t v ws =
    bind_then (numbers t) (λ g. with_which (Some k) g v) (λ h. options_in h ws)
    ∙ ap (option_and_then (λ h. options_in h ws)) (placed k t v)
    ∙ bind_assoc (texts_with t (Some (k, v))) (λ h. options_in h ws)

dashes_last : (g : Given) → options_in g (dashes ∷ []) ≡ Some g
unfolding options_in
dashes_last g = refl

dashes_more : (g : Given) (v : Text) (ws : List Text) → options_in g (dashes ∷ v ∷ ws) ≡ None
unfolding options_in
dashes_more g v ws = refl

no_options : (g : Given) → options_in g [] ≡ Some g
unfolding options_in
no_options g = refl

pair_spec : (g : Given) (word : Text) (ws : List Text) → bytes_eq word dashes ≡ false → has_equals word ≡ true
    → options_in g (word ∷ ws) ≡ then_given (with_option g (before_first is_equals word) (after_first is_equals word)) (λ h. options_in h ws)
unfolding options_in
pair_spec g word [] e f = rw (e, f) (sym (then_some (with_option g (before_first is_equals word) (after_first is_equals word))))
pair_spec g word (v ∷ ws) e f = rw f refl

name_spec : (g : Given) (word v : Text) (ws : List Text) → has_equals word ≡ false → options_in g (word ∷ v ∷ ws) ≡ then_given (with_option g word v) (λ h. options_in h ws)
unfolding options_in
name_spec g word v ws f = rw f refl

name_last : (g : Given) (word : Text) → bytes_eq word dashes ≡ false → has_equals word ≡ false → options_in g (word ∷ []) ≡ None
unfolding options_in
name_last g word e f = rw (e, f) refl

-- a word that is no option and has none before an `=`
none_spec : (g : Given) (word : Text) (ws : List Text) → bytes_eq word dashes ≡ false → ((v : Text) → with_option g word v ≡ None)
    → with_option g (before_first is_equals word) (after_first is_equals word) ≡ None → options_in g (word ∷ ws) ≡ None
none_spec g word ws e other pair = go (has_equals word) ws refl
  where
    go : (b : Bool) (ws : List Text) → has_equals word ≡ b → options_in g (word ∷ ws) ≡ None
    go true ws f = pair_spec g word ws e f ∙ ap (λ o. then_given o (λ h. options_in h ws)) pair
    go false [] f = name_last g word e f
    go false (v ∷ ws) f = name_spec g word v ws f ∙ ap (λ o. then_given o (λ h. options_in h ws)) (other v)

-- ---- a number has no minus

not_minus : (n : ℕ) (bs : List ℕ) → n < 2 ^ 64 → decimal n ≡ 45 ∷ bs → ⊥
not_minus n bs small e = omega (arith, digit_from_value 45 (subst (AllDigits 10) e (decimal_is_IsNumeral n small).0.1).0)

pub minus_none : (low high : ℕ) (bs : List ℕ) → high < 2 ^ 64 → natural_of low high (45 ∷ bs) ≡ None
minus_none low high bs small = go (digits_worth (45 ∷ bs)) refl
  where
    by : (n : ℕ) (b c d : Bool) → bytes_eq (decimal n) (45 ∷ bs) ≡ b → nat_le low n ≡ d → nat_le n high ≡ c
        → (if bytes_eq (decimal n) (45 ∷ bs) && nat_le low n && nat_le n high then Some n else None) ≡ None
    by n false c d e f g = rw e refl
    by n true true d e f g = absurd (not_minus n bs (let few : n ≤ high = grind (arith, nat_tests) in omega arith) ((bytes_eq-Decides (decimal n) (45 ∷ bs)).0 e))
    by n true false true e f g = rw (e, f, g) refl
    by n true false false e f g = rw (e, f) refl

    go : (n : ℕ) → digits_worth (45 ∷ bs) ≡ n → natural_of low high (45 ∷ bs) ≡ None
    go n e = rw e (by n (bytes_eq (decimal n) (45 ∷ bs)) (nat_le n high) (nat_le low n) refl refl refl)

number_minus : (k : Which) (bs : List ℕ) → number k (45 ∷ bs) ≡ None
number_minus the_group bs = minus_none 1 100000 bs (omega arith)
number_minus the_tries bs = minus_none 1 1000000 bs (omega arith)
number_minus the_keep bs = minus_none 1 256 bs (omega arith)

-- ---- the forms of a word

prefix_two : (m : ℕ) → 1 + (1 + m) ≡ suc (suc m)
prefix_two m = ap (λ x. 1 + x) (one-add m) ∙ one-add (suc m)

before_two : (n : Text) → before_first is_equals (45 ∷ 45 ∷ n) ≡ 45 ∷ 45 ∷ before_first is_equals n
before_two n = ap (λ x. take x (45 ∷ 45 ∷ n)) (prefix_two (prefix_len (λ b. not (is_equals b)) n))

after_two : (n : Text) → after_first is_equals (45 ∷ 45 ∷ n) ≡ after_first is_equals n
after_two n =
    let m = prefix_len (λ b. not (is_equals b)) n in
    let k : 1 + (1 + m) + 1 ≡ suc (suc (m + 1)) = omega arith in
    ap (λ x. drop x (45 ∷ 45 ∷ n)) k

before_all : (xs : Text) → list_any is_equals xs ≡ false → before_first is_equals xs ≡ xs
before_all [] e = refl
before_all (x ∷ xs) e = go (x == 61) refl (before_all xs)
  where
    go : (b : Bool) → (x == 61) ≡ b → (list_any is_equals xs ≡ false → before_first is_equals xs ≡ xs) → before_first is_equals (x ∷ xs) ≡ x ∷ xs
    go true f next = absurd (let bad : true ≡ false = rw f at e in cc)
    go false f next =
        let rest : list_any is_equals xs ≡ false = rw f at e in
        ap (λ (b : Bool). take (cond (not b) (1 + prefix_len (λ c. not (is_equals c)) xs) 0) (x ∷ xs)) f
        ∙ ap (λ m. take m (x ∷ xs)) (one-add (prefix_len (λ c. not (is_equals c)) xs)) ∙ ap (λ ys. x ∷ ys) (next rest)

-- what a word is: `--`, a long option or what looks like one, a short one, or neither
pub data Form (word : Text) : Type 0 where
  dashed : word ≡ dashes → Form word
  long_form : (n : Text) → word ≡ 45 ∷ 45 ∷ n → bytes_eq word dashes ≡ false → long_of word ≡ Some (name_and_value n) → Form word
  short_form : (flags : Text) (k : ℕ) → bytes_eq word dashes ≡ false → long_of word ≡ None → short_of word ≡ Some flags → length flags ≡ suc k
      → word ≡ 45 ∷ flags → ((g : Given) (v : Text) → with_option g word v ≡ None) → ((g : Given) (v : Text) → with_option g (before_first is_equals word) v ≡ None) → Form word
  plain_form : bytes_eq word dashes ≡ false → long_of word ≡ None → short_of word ≡ None
      → ((g : Given) (v : Text) → with_option g word v ≡ None) → ((g : Given) (v : Text) → with_option g (before_first is_equals word) v ≡ None) → Form word

no_first : (b : ℕ) (bs : Text) (g : Given) (v : Text) → (b == 45) ≡ false → with_option g (b ∷ bs) v ≡ None
no_first b bs g v e = rw e refl

no_second : (b : ℕ) (bs : Text) (g : Given) (v : Text) → (b == 45) ≡ false → with_option g (45 ∷ b ∷ bs) v ≡ None
no_second b bs g v e = rw e refl

no_before : (b : ℕ) (bs : Text) (g : Given) (v : Text) → (b == 45) ≡ false → with_option g (before_first is_equals (b ∷ bs)) v ≡ None
no_before b bs g v e = go (b == 61) refl
  where
    go : (t : Bool) → (b == 61) ≡ t → with_option g (before_first is_equals (b ∷ bs)) v ≡ None
    go true f = ap (λ (t : Bool). with_option g (take (cond (not t) (1 + prefix_len (λ c. not (is_equals c)) bs) 0) (b ∷ bs)) v) f
    go false f =
        ap (λ (t : Bool). with_option g (take (cond (not t) (1 + prefix_len (λ c. not (is_equals c)) bs) 0) (b ∷ bs)) v) f
        ∙ ap (λ m. with_option g (take m (b ∷ bs)) v) (one-add (prefix_len (λ c. not (is_equals c)) bs))
        ∙ no_first b (take (prefix_len (λ c. not (is_equals c)) bs) bs) g v e

no_before_second : (b : ℕ) (bs : Text) (g : Given) (v : Text) → (b == 45) ≡ false → with_option g (before_first is_equals (45 ∷ b ∷ bs)) v ≡ None
no_before_second b bs g v e = ap (λ m. with_option g (take m (45 ∷ b ∷ bs)) v) (one-add (prefix_len (λ c. not (is_equals c)) (b ∷ bs))) ∙ go (b == 61) refl
  where
    go : (t : Bool) → (b == 61) ≡ t → with_option g (45 ∷ before_first is_equals (b ∷ bs)) v ≡ None
    go true f = ap (λ (t : Bool). with_option g (45 ∷ take (cond (not t) (1 + prefix_len (λ c. not (is_equals c)) bs) 0) (b ∷ bs)) v) f
    go false f =
        ap (λ (t : Bool). with_option g (45 ∷ take (cond (not t) (1 + prefix_len (λ c. not (is_equals c)) bs) 0) (b ∷ bs)) v) f
        ∙ ap (λ m. with_option g (45 ∷ take m (b ∷ bs)) v) (one-add (prefix_len (λ c. not (is_equals c)) bs))
        ∙ no_second b (take (prefix_len (λ c. not (is_equals c)) bs) bs) g v e

pub form_of : (word : Text) → Form word
form_of [] = plain_form refl refl refl (λ g v. refl) (λ g v. refl)
form_of (a ∷ []) = go (a == 45) refl
  where
    go : (t : Bool) → (a == 45) ≡ t → Form (a ∷ [])
    go true e = let is : a ≡ 45 = grind (arith, nat_tests) in subst (λ x. Form (x ∷ [])) (sym is) (plain_form refl refl refl (λ g v. refl) (λ g v. refl))
    go false e = plain_form (rw e refl) (rw e refl) (rw e refl) (λ g v. no_first a [] g v e) (λ g v. no_before a [] g v e)
form_of (a ∷ b ∷ bs) = go (a == 45) (b == 45) refl refl
  where
    more : (bs : Text) → Form (45 ∷ 45 ∷ bs)
    more [] = dashed refl
    more (c ∷ cs) = long_form (c ∷ cs) refl refl refl

    go : (t u : Bool) → (a == 45) ≡ t → (b == 45) ≡ u → Form (a ∷ b ∷ bs)
    go false u e f = plain_form (rw e refl) (rw e refl) (rw e refl) (λ g v. no_first a (b ∷ bs) g v e) (λ g v. no_before a (b ∷ bs) g v e)
    go true true e f =
        let is : a ≡ 45 = grind (arith, nat_tests) in
        let is2 : b ≡ 45 = grind (arith, nat_tests) in
        subst (λ x. Form (x ∷ b ∷ bs)) (sym is) (subst (λ y. Form (45 ∷ y ∷ bs)) (sym is2) (more bs))
    go true false e f =
        let is : a ≡ 45 = grind (arith, nat_tests) in
        subst (λ x. Form (x ∷ b ∷ bs)) (sym is)
        (short_form (b ∷ bs) (length bs) (rw f refl) (rw f refl) (rw f refl) (omega arith) refl (λ g v. no_second b bs g v f) (λ g v. no_before_second b bs g v f))

-- ---- from one word to the next

abbrev pub Idle : List Text → Type 0
Idle ws = (rows : List Row) (t : Texts) (q : Option (Which × Text)) → Holds rows t
    → Agree (rest_fault (walk_from (held_with rows q)) ws) (rest_rows (walk_from (held_with rows q)) ws) (after_option t q ws)

no_skip : (rows : List Row) (q : Option (Which × Text)) → (held_with rows q).skip ≡ 0
no_skip rows None = refl
no_skip rows (Some p) = refl

all_none : (o : Option Texts) (ws : List Text) → ((g : Given) → options_in g ws ≡ None) → option_and_then (λ s. after s ws) o ≡ None
all_none None ws h = refl
all_none (Some s) ws h = bind_none (numbers s) (λ g. options_in g ws) h

pub kinds_apart : (a : Kinds) (k : _) (b : Kinds) → a ≡ k ∷ [] → a ≡ [] → ⊥
kinds_apart a k b e n = let bad : k ∷ [] ≡ [] = sym e ∙ n in absurd cc

used_is : (k : Which) (rows : List Row) (v : Text) → has_row (name_of k) rows ≡ false
    → with_values (name_of k) (reading_by (rule_for k)) CommandLine (v ∷ []) (without (name_of k) rows) ≡ rows ++ row_for k v ∷ []
used_is k rows v e = sym (settled_named k rows v) ∙ settled_rows_are k rows v e

which_minus : (k : Which) (g : Given) (bs : Text) → with_which (Some k) g (45 ∷ bs) ≡ None
which_minus k g bs = go (is_some (given_in k g)) refl
  where
    go : (b : Bool) → is_some (given_in k g) ≡ b → with_which (Some k) g (45 ∷ bs) ≡ None
    go true e = rw e refl
    go false e = rw (e, number_minus k bs) refl

module _ (word : Text) (ws : List Text) (n : Text) (is : word ≡ 45 ∷ 45 ∷ n) (apart : bytes_eq word dashes ≡ false) (long : long_of word ≡ Some (name_and_value n)) where
  module _ (rows : List Row) (t : Texts) (q : Option (Which × Text)) (h : Holds rows t) where
    -- `--name=value`
    module _ (eq : list_any is_equals n ≡ true) where
      long_pair : long_of word ≡ Some (before_first is_equals n, Some (after_first is_equals n))
      long_pair = long ∙ ap (λ b. Some (before_first is_equals n, if b then Some (after_first is_equals n) else None)) eq

      pair_step : (g : Given) → options_in g (word ∷ ws) ≡ then_given (with_which (which_of (before_first is_equals n)) g (after_first is_equals n)) (λ h. options_in h ws)
      pair_step g =
          pair_spec g word ws apart (ap has_equals is ∙ eq)
          ∙ ap (λ x. then_given x (λ h. options_in h ws))
          (ap (λ u. with_option g (before_first is_equals u) (after_first is_equals u)) is
          ∙ ap (λ u. with_option g u (after_first is_equals (45 ∷ 45 ∷ n))) (before_two n)
          ∙ ap (λ u. with_option g (45 ∷ 45 ∷ before_first is_equals n) u) (after_two n)
          ∙ with_dashed (before_first is_equals n) g (after_first is_equals n))

      idle_pair : Idle ws → Agree (rest_fault (walk_from (held_with rows q)) (word ∷ ws)) (rest_rows (walk_from (held_with rows q)) (word ∷ ws)) (after_option t q (word ∷ ws))
      idle_pair next = go (which_of (before_first is_equals n)) refl
        where
          go : (o : Option Which) → which_of (before_first is_equals n) ≡ o
              → Agree (rest_fault (walk_from (held_with rows q)) (word ∷ ws)) (rest_rows (walk_from (held_with rows q)) (word ∷ ws)) (after_option t q (word ∷ ws))
          go None f =
              agree_fails (walk_from (held_with rows q)) word ws (after_option t q (word ∷ ws))
              (kinds_apart _ kind.UnknownArgument []
              (unknown_fails idle (held_with rows q) word (before_first is_equals n) (Some (after_first is_equals n)) apart long_pair (by_long (before_first is_equals n) ∙ ap (option_map rule_for) f)))
              (all_none (texts_with t q) (word ∷ ws) (λ g. pair_step g ∙ ap (λ o. then_given (with_which o g (after_first is_equals n)) (λ h. options_in h ws)) f))
          go (Some k) f = settled_ (texts_with t q) (settles rows t q h)
            where
              known : arg_by_long run_rules (before_first is_equals n) ≡ Some (rule_for k)
              known = by_long (before_first is_equals n) ∙ ap (option_map rule_for) f

              turn : turn_fault run_leaf [] (walk_from (held_with rows q)) word ≡ or_else (reacted_fault k (after_first is_equals n) (held_with rows q)) []
              turn = turn_pair k (held_with rows q) word (before_first is_equals n) (after_first is_equals n) apart long_pair known

              step : (s : Texts) → after s (word ∷ ws) ≡ after_option s (Some (k, after_first is_equals n)) ws
              step s = bind_same (numbers s) (λ g. options_in g (word ∷ ws)) (λ g. then_given (with_which (Some k) g (after_first is_equals n)) (λ h. options_in h ws))
                  (λ g. pair_step g ∙ ap (λ o. then_given (with_which o g (after_first is_equals n)) (λ h. options_in h ws)) f)
                  ∙ after_placed k s (after_first is_equals n) ws

              settled_ : (o : Option Texts) → Settles rows q o
                  → Agree (rest_fault (walk_from (held_with rows q)) (word ∷ ws)) (rest_rows (walk_from (held_with rows q)) (word ∷ ws)) (option_and_then (λ s. after s (word ∷ ws)) o)
              settled_ None s = agree_fails (walk_from (held_with rows q)) word ws None (λ e. or_fails _ _ (or_fails _ _ s) (sym turn ∙ e)) refl
              settled_ (Some t') s = placed_ (t' k) refl
                where
                  placed_ : (o : Option Text) → t' k ≡ o
                      → Agree (rest_fault (walk_from (held_with rows q)) (word ∷ ws)) (rest_rows (walk_from (held_with rows q)) (word ∷ ws)) (after t' (word ∷ ws))
                  placed_ (Some u) e =
                      let taken : has_row (name_of k) (settled run_rules (held_with rows q)).rows ≡ true = s.1.has k ∙ ap is_some e in
                      let conflicts : turn_fault run_leaf [] (walk_from (held_with rows q)) word ≡ kind.ArgumentConflict ∷ [] = turn ∙ rw (s.0, taken) refl in
                      agree_fails (walk_from (held_with rows q)) word ws (after t' (word ∷ ws)) (kinds_apart _ kind.ArgumentConflict [] conflicts)
                      (step t' ∙ ap (λ o. option_and_then (λ s. after s ws) (if is_some o then None else Some (put_text k t' (after_first is_equals n)))) e)
                  placed_ None e =
                      let free : has_row (name_of k) (settled run_rules (held_with rows q)).rows ≡ false = s.1.has k ∙ ap is_some e in
                      let fine : turn_fault run_leaf [] (walk_from (held_with rows q)) word ≡ [] = turn ∙ rw (s.0, free) refl in
                      let there = walked_pair k (held_with rows q) word (before_first is_equals n) (after_first is_equals n) apart long_pair known
                      ∙ ap (λ xs. walk_from (record { rows = xs; pending = None; skip = (held_with rows q).skip })) (used_is k (settled run_rules (held_with rows q)).rows (after_first is_equals n) free)
                      ∙ ap (λ i. walk_from (record { rows = (settled run_rules (held_with rows q)).rows ++ row_for k (after_first is_equals n) ∷ []; pending = None; skip = i })) (no_skip rows q) in
                      let same : after t' (word ∷ ws) ≡ after (put_text k t' (after_first is_equals n)) ws = step t'
                      ∙ ap (λ o. option_and_then (λ s. after s ws) (if is_some o then None else Some (put_text k t' (after_first is_equals n)))) e in
                      agree_step (walk_from (held_with rows q)) (walk_from (held_with ((settled run_rules (held_with rows q)).rows ++ row_for k (after_first is_equals n) ∷ []) None)) word ws (after t' (word ∷ ws)) fine there
                      (subst (λ r. Agree (rest_fault (walk_from (held_with ((settled run_rules (held_with rows q)).rows ++ row_for k (after_first is_equals n) ∷ []) None)) ws)
                      (rest_rows (walk_from (held_with ((settled run_rules (held_with rows q)).rows ++ row_for k (after_first is_equals n) ∷ []) None)) ws) r) (sym same)
                      (next ((settled run_rules (held_with rows q)).rows ++ row_for k (after_first is_equals n) ∷ []) (put_text k t' (after_first is_equals n)) None
                      (holds_put k (settled run_rules (held_with rows q)).rows (row_for k (after_first is_equals n)) t' (after_first is_equals n) s.1 e refl refl)))

-- a value for the option that waits
module _ (k : Which) (rows : List Row) (t : Texts) (h : Holds rows t) (r : Option Given) where
  waits_none : Agree (rest_fault (waiting_walk rows k) []) (rest_rows (waiting_walk rows k) []) None
  waits_none = fails (λ e. kinds_apart (rest_fault (waiting_walk rows k) []) kind.InvalidValue [] (walk_end (waiting_walk rows k) ∙ waits_fault rows k) e) refl

  waits_dashes : (ws : List Text) → r ≡ None → Agree (rest_fault (waiting_walk rows k) (dashes ∷ ws)) (rest_rows (waiting_walk rows k) (dashes ∷ ws)) r
  unfolding walked
  waits_dashes ws none = agree_step (waiting_walk rows k) (trailing_walk (waits rows k) (option (name_of k))) dashes ws r (turn k) (walked_ k) (behind ws)
    where
      turn : (k : Which) → turn_fault run_leaf [] (waiting_walk rows k) dashes ≡ []
      turn the_group = refl
      turn the_tries = refl
      turn the_keep = refl

      walked_ : (k : Which) → walked run_rules [] (waiting_walk rows k) dashes ≡ trailing_walk (waits rows k) (option (name_of k))
      walked_ the_group = refl
      walked_ the_tries = refl
      walked_ the_keep = refl

      behind : (ws : List Text) → Agree (rest_fault (trailing_walk (waits rows k) (option (name_of k))) ws) (rest_rows (trailing_walk (waits rows k) (option (name_of k))) ws) r
      behind [] = fails (λ e. kinds_apart (rest_fault (trailing_walk (waits rows k) (option (name_of k))) []) kind.InvalidValue [] (walk_end (trailing_walk (waits rows k) (option (name_of k))) ∙ waits_fault rows k) e) none
      behind (v ∷ ws) = agree_fails (trailing_walk (waits rows k) (option (name_of k))) v ws r (trailing_fails (waits rows k) (option (name_of k)) v) none

  waits_long : (v n : Text) (ws : List Text) → r ≡ None → bytes_eq v dashes ≡ false → long_of v ≡ Some (name_and_value n)
      → Agree (rest_fault (waiting_walk rows k) (v ∷ ws)) (rest_rows (waiting_walk rows k) (v ∷ ws)) r
  waits_long v n ws none apart long = go (which_of (name_and_value n).0) refl
    where
      go : (o : Option Which) → which_of (name_and_value n).0 ≡ o → Agree (rest_fault (waiting_walk rows k) (v ∷ ws)) (rest_rows (waiting_walk rows k) (v ∷ ws)) r
      go None f = agree_fails (waiting_walk rows k) v ws r
          (kinds_apart _ kind.UnknownArgument []
          (unknown_fails (option (name_of k)) (waits rows k) v (name_and_value n).0 (name_and_value n).1 apart long (by_long (name_and_value n).0 ∙ ap (option_map rule_for) f))) none
      go (Some j) f = agree_fails (waiting_walk rows k) v ws r
          (kinds_apart _ kind.InvalidValue []
          (long_for_value k j rows v (name_and_value n).0 (name_and_value n).1 apart long (by_long (name_and_value n).0 ∙ ap (option_map rule_for) f))) none

  waits_plain : (v : Text) (ws : List Text) → Idle ws → r ≡ after_option t (Some (k, v)) ws → bytes_eq v dashes ≡ false → long_of v ≡ None → short_of v ≡ None
      → Agree (rest_fault (waiting_walk rows k) (v ∷ ws)) (rest_rows (waiting_walk rows k) (v ∷ ws)) r
  waits_plain v ws next same apart long short =
      agree_step (waiting_walk rows k) (walk_from (held_with rows (Some (k, v)))) v ws r (turn_value k rows v apart long short) (walked_value k rows v apart long short)
      (subst (λ x. Agree (rest_fault (walk_from (held_with rows (Some (k, v)))) ws) (rest_rows (walk_from (held_with rows (Some (k, v)))) ws) x) (sym same) (next rows t (Some (k, v)) h))

  waits_short : (v flags : Text) (m : ℕ) (ws : List Text) → Idle ws → r ≡ after_option t (Some (k, v)) ws → r ≡ None → bytes_eq v dashes ≡ false → long_of v ≡ None → short_of v ≡ Some flags
      → length flags ≡ suc m → Agree (rest_fault (waiting_walk rows k) (v ∷ ws)) (rest_rows (waiting_walk rows k) (v ∷ ws)) r
  waits_short v flags m ws next same none apart long short some = go (slice_get (chars flags) 0) refl
    where
      go : (o : Option ℕ) → slice_get (chars flags) 0 ≡ o → Agree (rest_fault (waiting_walk rows k) (v ∷ ws)) (rest_rows (waiting_walk rows k) (v ∷ ws)) r
      go (Some x) f = agree_fails (waiting_walk rows k) v ws r (kinds_apart _ kind.UnknownArgument [] (turn_short_value k rows v flags m x apart long short some f)) none
      go None f =
          agree_step (waiting_walk rows k) (walk_from (held_with rows (Some (k, v)))) v ws r (turn_odd_value k rows v flags m apart long short some f) (walked_odd_value k rows v flags m apart long short some f)
          (subst (λ x. Agree (rest_fault (walk_from (held_with rows (Some (k, v)))) ws) (rest_rows (walk_from (held_with rows (Some (k, v)))) ws) x) (sym same) (next rows t (Some (k, v)) h))

  waits_value : (v : Text) (ws : List Text) → Idle ws → r ≡ after_option t (Some (k, v)) ws → ((bs : Text) → v ≡ 45 ∷ bs → r ≡ None)
      → Agree (rest_fault (waiting_walk rows k) (v ∷ ws)) (rest_rows (waiting_walk rows k) (v ∷ ws)) r
  waits_value v ws next same minus = go (form_of v)
    where
      go : Form v → Agree (rest_fault (waiting_walk rows k) (v ∷ ws)) (rest_rows (waiting_walk rows k) (v ∷ ws)) r
      go (dashed is) = subst (λ x. Agree (rest_fault (waiting_walk rows k) (x ∷ ws)) (rest_rows (waiting_walk rows k) (x ∷ ws)) r) (sym is) (waits_dashes ws (minus (45 ∷ []) is))
      go (long_form n is apart long) = waits_long v n ws (minus (45 ∷ n) is) apart long
      go (short_form flags m apart long short some is other pair) = waits_short v flags m ws next same (minus flags is) apart long short some
      go (plain_form apart long short other pair) = waits_plain v ws next same apart long short

-- `--name`, and what is behind it
module _ (word : Text) (n : Text) (is : word ≡ 45 ∷ 45 ∷ n) (apart : bytes_eq word dashes ≡ false) (long : long_of word ≡ Some (name_and_value n)) (eq : list_any is_equals n ≡ false) where
  long_name : long_of word ≡ Some (n, None)
  long_name = long ∙ ap (λ b. Some (before_first is_equals n, if b then Some (after_first is_equals n) else None)) eq ∙ ap (λ x. Some (x, None)) (before_all n eq)

  no_equals : has_equals word ≡ false
  no_equals = ap has_equals is ∙ eq

  name_step : (g : Given) (v : Text) (ws : List Text) → options_in g (word ∷ v ∷ ws) ≡ then_given (with_which (which_of n) g v) (λ h. options_in h ws)
  name_step g v ws = name_spec g word v ws no_equals ∙ ap (λ x. then_given x (λ h. options_in h ws)) (ap (λ u. with_option g u v) is ∙ with_dashed n g v)

  no_name : which_of n ≡ None → (g : Given) (ws : List Text) → options_in g (word ∷ ws) ≡ None
  no_name f g [] = name_last g word apart no_equals
  no_name f g (v ∷ ws) = name_step g v ws ∙ ap (λ o. then_given (with_which o g v) (λ h. options_in h ws)) f

  -- behind the name the option waits
  name_waits : (k : Which) → which_of n ≡ Some k → (rows : List Row) (t : Texts) → Holds rows t → (ws : List Text) → ((v : Text) (vs : List Text) → ws ≡ v ∷ vs → Idle vs)
      → Agree (rest_fault (waiting_walk rows k) ws) (rest_rows (waiting_walk rows k) ws) (after t (word ∷ ws))
  name_waits k f rows t h [] next =
      subst (Agree (rest_fault (waiting_walk rows k) []) (rest_rows (waiting_walk rows k) [])) (sym (bind_none (numbers t) (λ g. options_in g (word ∷ [])) (λ g. name_last g word apart no_equals)))
      (waits_none k rows t h None)
  name_waits k f rows t h (v ∷ ws) next =
      waits_value k rows t h (after t (word ∷ v ∷ ws)) v ws (next v ws refl)
      (bind_same (numbers t) (λ g. options_in g (word ∷ v ∷ ws)) (λ g. then_given (with_which (Some k) g v) (λ h. options_in h ws)) step ∙ after_placed k t v ws)
      (λ bs e. bind_none (numbers t) (λ g. options_in g (word ∷ v ∷ ws))
      (λ g. step g ∙ ap (λ u. then_given (with_which (Some k) g u) (λ h. options_in h ws)) e ∙ ap (λ o. then_given o (λ h. options_in h ws)) (which_minus k g bs)))
    where
      step : (g : Given) → options_in g (word ∷ v ∷ ws) ≡ then_given (with_which (Some k) g v) (λ h. options_in h ws)
      step g = name_step g v ws ∙ ap (λ o. then_given (with_which o g v) (λ h. options_in h ws)) f

  idle_name : (rows : List Row) (t : Texts) (q : Option (Which × Text)) (h : Holds rows t) (ws : List Text) → ((v : Text) (vs : List Text) → ws ≡ v ∷ vs → Idle vs)
      → Agree (rest_fault (walk_from (held_with rows q)) (word ∷ ws)) (rest_rows (walk_from (held_with rows q)) (word ∷ ws)) (after_option t q (word ∷ ws))
  idle_name rows t q h ws next = go (which_of n) refl
    where
      go : (o : Option Which) → which_of n ≡ o
          → Agree (rest_fault (walk_from (held_with rows q)) (word ∷ ws)) (rest_rows (walk_from (held_with rows q)) (word ∷ ws)) (after_option t q (word ∷ ws))
      go None f =
          agree_fails (walk_from (held_with rows q)) word ws (after_option t q (word ∷ ws))
          (kinds_apart _ kind.UnknownArgument [] (unknown_fails idle (held_with rows q) word n None apart long_name (by_long n ∙ ap (option_map rule_for) f)))
          (all_none (texts_with t q) (word ∷ ws) (λ g. no_name f g ws))
      go (Some k) f = settled_ (texts_with t q) (settles rows t q h)
        where
          turn : turn_fault run_leaf [] (walk_from (held_with rows q)) word ≡ or_else (settle_fault run_rules false (held_with rows q)) []
          turn = turn_name k (held_with rows q) word n apart long_name (by_long n ∙ ap (option_map rule_for) f)

          settled_ : (o : Option Texts) → Settles rows q o
              → Agree (rest_fault (walk_from (held_with rows q)) (word ∷ ws)) (rest_rows (walk_from (held_with rows q)) (word ∷ ws)) (option_and_then (λ s. after s (word ∷ ws)) o)
          settled_ None s = agree_fails (walk_from (held_with rows q)) word ws None (λ e. or_fails _ _ s (sym turn ∙ e)) refl
          settled_ (Some t') s =
              agree_step (walk_from (held_with rows q)) (waiting_walk (settled run_rules (held_with rows q)).rows k) word ws (after t' (word ∷ ws)) (turn ∙ ap (λ a. or_else a []) s.0)
              (walked_name k rows q word n apart long_name (by_long n ∙ ap (option_map rule_for) f))
              (name_waits k f (settled run_rules (held_with rows q)).rows t' s.1 ws next)

-- `--` among the options
idle_dashes : (rows : List Row) (t : Texts) (q : Option (Which × Text)) (h : Holds rows t) (ws : List Text)
    → Agree (rest_fault (walk_from (held_with rows q)) (dashes ∷ ws)) (rest_rows (walk_from (held_with rows q)) (dashes ∷ ws)) (after_option t q (dashes ∷ ws))
unfolding walked
idle_dashes rows t q h ws =
    agree_step (walk_from (held_with rows q)) (trailing_walk (held_with rows q) idle) dashes ws (after_option t q (dashes ∷ ws)) refl walked_ (trailing rows t q idle ws (after_option t q (dashes ∷ ws)) h last more)
  where
    walked_ : walked run_rules [] (walk_from (held_with rows q)) dashes ≡ trailing_walk (held_with rows q) idle
    walked_ = refl

    one : (o : Option Texts) → option_and_then (λ s. after s (dashes ∷ [])) o ≡ option_and_then numbers o
    one None = refl
    one (Some s) = bind_same (numbers s) (λ g. options_in g (dashes ∷ [])) (λ g. Some g) dashes_last ∙ bind_some (numbers s)

    last : ws ≡ [] → after_option t q (dashes ∷ ws) ≡ option_and_then numbers (texts_with t q)
    last e = ap (λ x. after_option t q (dashes ∷ x)) e ∙ one (texts_with t q)

    more : 0 < length ws → after_option t q (dashes ∷ ws) ≡ None
    more some = by ws some
      where
        by : (ws : List Text) → 0 < length ws → after_option t q (dashes ∷ ws) ≡ None
        by [] some = absurd (omega arith)
        by (v ∷ vs) some = all_none (texts_with t q) (dashes ∷ v ∷ vs) (λ g. dashes_more g v vs)

idle_word : (word : Text) (ws : List Text) → Idle ws → ((v : Text) (vs : List Text) → ws ≡ v ∷ vs → Idle vs) → Idle (word ∷ ws)
idle_word word ws next after_next rows t q h = go (form_of word)
  where
    go : Form word → Agree (rest_fault (walk_from (held_with rows q)) (word ∷ ws)) (rest_rows (walk_from (held_with rows q)) (word ∷ ws)) (after_option t q (word ∷ ws))
    go (dashed is) =
        subst (λ x. Agree (rest_fault (walk_from (held_with rows q)) (x ∷ ws)) (rest_rows (walk_from (held_with rows q)) (x ∷ ws)) (after_option t q (x ∷ ws))) (sym is) (idle_dashes rows t q h ws)
    go (long_form n is apart long) = by (list_any is_equals n) refl
      where
        by : (b : Bool) → list_any is_equals n ≡ b
            → Agree (rest_fault (walk_from (held_with rows q)) (word ∷ ws)) (rest_rows (walk_from (held_with rows q)) (word ∷ ws)) (after_option t q (word ∷ ws))
        by true eq = idle_pair word ws n is apart long rows t q h eq next
        by false eq = idle_name word n is apart long eq rows t q h ws after_next
    go (short_form flags m apart long short some is other pair) =
        agree_fails (walk_from (held_with rows q)) word ws (after_option t q (word ∷ ws))
        (kinds_apart _ kind.UnknownArgument [] (short_fails (held_with rows q) word flags m apart long short some (no_skip rows q)))
        (all_none (texts_with t q) (word ∷ ws) (λ g. none_spec g word ws apart (other g) (pair g (after_first is_equals word))))
    go (plain_form apart long short other pair) =
        agree_fails (walk_from (held_with rows q)) word ws (after_option t q (word ∷ ws))
        (kinds_apart _ kind.UnknownArgument [] (plain_fails (held_with rows q) word apart long short))
        (all_none (texts_with t q) (word ∷ ws) (λ g. none_spec g word ws apart (other g) (pair g (after_first is_equals word))))

idle_end : Idle []
idle_end rows t q h =
    subst (Agree (rest_fault (walk_from (held_with rows q)) []) (rest_rows (walk_from (held_with rows q)) [])) (one (texts_with t q)) (ends rows t q (walk_from (held_with rows q)) h refl)
  where
    one : (o : Option Texts) → option_and_then numbers o ≡ option_and_then (λ s. after s []) o
    one None = refl
    one (Some s) = sym (bind_same (numbers s) (λ g. options_in g []) (λ g. Some g) no_options ∙ bind_some (numbers s))

pub idle_words : (ws : List Text) → Idle ws
idle_words [] = idle_end
idle_words (w ∷ []) = idle_word w [] idle_end (λ v vs e. absurd cc)
idle_words (w ∷ v ∷ ws) = idle_word w (v ∷ ws) (λ rows t q h. idle_words (v ∷ ws) rows t q h) (λ u us e. let same : ws ≡ us = cc in subst Idle same (λ rows t q h. idle_words ws rows t q h))
