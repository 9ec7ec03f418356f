-- What the library finds in the words is the command that they spell.
use Rattle.std.proofs.Common.{◌≡◌, Bool, true, false, List, [], ◌∷◌, ◌++◌, fold, Option, Some, None, is_some, option_map, bytes_eq, codes, refl, sym, ap, ap₂, ◌∙◌, subst, append_assoc, append-nil, ◌⊎◌, inl, inr}
use Rattle.std.proofs.lemmas.Slice.Eq.{bytes_eq-Decides}
use Rattle.clap.specs.declared.error.kind.ErrorKind.{ErrorKind}
use Rattle.clap.specs.declared.error.kind.ErrorKind.TheVariants as kind
use Rattle.clap.specs.Walk.{Names, Row, Text, Walk, first_of, walk, walked, walk_from, nothing_held, idle, finished, settled, subcommand_met}
use Rattle.clap.specs.Simple.{App, built, entered, is_simple, names_of, subcommand_of}
use Rattle.clap.specs.Kinds.{IsAmong, Kinds, or_else}
use Rattle.clap.specs.Faults.{fault_of, is_simple_and_free, entered_fault, level_fault, walk_fault, turn_fault, settle_fault, defaults_fault, check_fault}
use Rattle.clap.proofs.FaultLemmas.{stopped_fault}
use Rattle.fine_model.specs.Words.{Command, none_given, options_in, command_of, run, dump, ranges, merge, when_none, without_dashes, with_defaults, gen_of}
use Rattle.command_words.specs.Program.{program, given_in_rows, generated_of, command_found}
use Rattle.command_words.proofs.Options.{not_sym, Texts, no_texts, numbers, Holds, the_group, the_tries, the_keep}
use Rattle.command_words.proofs.Levels.{or_nothing}
use Rattle.command_words.proofs.Walking.{dashes, Agree, agrees, fails, rest_fault, rest_rows, idle_words}
use Rattle.command_words.proofs.Bare.{Alone, taken, left, bare_words, bare_leaf, bare_fails, walk_fails, walk_dashes}
use Rattle.command_words.proofs.Numbered.{Numbers, three, not_three, gen_words, gen_fault, gen_rows, none_met}

pub program_is_simple : is_simple program ≡ true
program_is_simple = refl

pub program_is_free : is_simple_and_free program ≡ true
program_is_free = refl

abbrev whole : App
whole = built program

abbrev names : Names
names = names_of whole

-- nothing fails, and the command is the one that was found; or something fails, and there is none
pub data Parses (words : List Text) : Type 0 where
  parses : fault_of program words ≡ [] → command_of words ≡ command_found (subcommand_of program words) → Parses words
  refuses : (fault_of program words ≡ [] → ⊥) → command_of words ≡ None → Parses words

-- ---- behind the name of a command

abbrev stopped_walk : Text → List Text → Walk
stopped_walk name ws = record (walk_from nothing_held) { stopped = Some (name, ws) }

fold_stopped : (name : Text) (front ws : List Text) → fold (walked [] names) (stopped_walk name front) ws ≡ stopped_walk name (front ++ ws)
unfolding walked
fold_stopped name front [] = ap (stopped_walk name) (sym (append-nil front))
fold_stopped name front (w ∷ ws) = fold_stopped name (front ++ w ∷ []) ws ∙ ap (stopped_walk name) (append_assoc front (w ∷ []) ws)

abbrev ends_by : Walk → Kinds → Kinds
ends_by w first =
    or_else first
    (or_else (entered_fault whole w.stopped)
    (or_else (settle_fault [] false w.held) (or_else (defaults_fault (settled [] w.held).rows []) (check_fault whole.top (finished [] w.held) (is_some (entered whole w.stopped))))))

fault_is : (words : List Text) → fault_of program words ≡ ends_by (walk [] names nothing_held words) (walk_fault whole.top names (walk_from nothing_held) words)
fault_is words = refl

ends_fails : (w : Walk) (first : Kinds) → (first ≡ [] → ⊥) → ends_by w first ≡ [] → ⊥
ends_fails w [] some e = some refl
ends_fails w (k ∷ ks) some e = some e

fault_fails : (words : List Text) → (walk_fault whole.top names (walk_from nothing_held) words ≡ [] → ⊥) → fault_of program words ≡ [] → ⊥
fault_fails words some e = ends_fails (walk [] names nothing_held words) (walk_fault whole.top names (walk_from nothing_held) words) some (sym (fault_is words) ∙ e)

module _ (name : Text) (turn : turn_fault whole.top names (walk_from nothing_held) name ≡ []) (first : walked [] names (walk_from nothing_held) name ≡ stopped_walk name []) where
  walk_is : (ws : List Text) → walk [] names nothing_held (name ∷ ws) ≡ stopped_walk name ws
  walk_is ws = ap (λ w. fold (walked [] names) w ws) first ∙ fold_stopped name [] ws

  no_walk_fault : (ws : List Text) → walk_fault whole.top names (walk_from nothing_held) (name ∷ ws) ≡ []
  unfolding walk_fault
  no_walk_fault ws =
      ap (λ k. or_else k (walk_fault whole.top names (walked [] names (walk_from nothing_held) name) ws)) turn
      ∙ ap (λ w. walk_fault whole.top names w ws) first
      ∙ stopped_fault whole.top names (walk_from nothing_held) (name, []) ws

  pub named_fault : (ws : List Text) → fault_of program (name ∷ ws) ≡ ends_by (stopped_walk name ws) []
  named_fault ws = fault_is (name ∷ ws) ∙ ap₂ ends_by (walk_is ws) (no_walk_fault ws)

  pub named_found : (ws : List Text) → subcommand_of program (name ∷ ws) ≡ entered whole (Some (name, ws))
  named_found ws = ap (λ (w : Walk). entered whole w.stopped) (walk_is ws)

-- ---- the commands

holds_none : Holds [] no_texts
holds_none = record { has = λ _. refl; first = λ _. refl }

given_is : (rows : List Row) (t : Texts) → Holds rows t → given_in_rows rows ≡ numbers t
given_is rows t h = rw (h.first the_group, h.first the_tries, h.first the_keep) refl

run_words : (ws : List Text) → Parses (codes "run" ∷ ws)
unfolding walked command_of defaults_fault
run_words ws = go (idle_words ws [] no_texts None holds_none)
  where
    fault : fault_of program (codes "run" ∷ ws) ≡ rest_fault (walk_from nothing_held) ws
    fault = named_fault (codes "run") refl refl ws ∙ or_nothing (rest_fault (walk_from nothing_held) ws)

    found : subcommand_of program (codes "run" ∷ ws) ≡ Some (codes "run", rest_rows (walk_from nothing_held) ws)
    found = named_found (codes "run") refl refl ws

    go : Agree (rest_fault (walk_from nothing_held) ws) (rest_rows (walk_from nothing_held) ws) (options_in none_given ws) → Parses (codes "run" ∷ ws)
    go (agrees t none h is) = parses (fault ∙ none)
        (ap (option_map (λ g. run (with_defaults g))) (is ∙ sym (given_is (rest_rows (walk_from nothing_held) ws) t h)) ∙ sym (ap command_found found))
    go (fails some is) = refuses (λ e. some (sym fault ∙ e)) (ap (option_map (λ g. run (with_defaults g))) is)

-- a command that takes no words
alone_words : (name : Text) (command : Command) → turn_fault whole.top names (walk_from nothing_held) name ≡ [] → walked [] names (walk_from nothing_held) name ≡ stopped_walk name [] → (ws : List Text)
    → ends_by (stopped_walk name ws) [] ≡ or_else (level_fault (bare_leaf name) [] nothing_held ws false []) [] → command_of (name ∷ ws) ≡ when_none (without_dashes ws) command
    → command_found (entered whole (Some (name, ws))) ≡ Some command → Parses (name ∷ ws)
alone_words name command turn first ws ends spelled found = go (bare_words name ws command)
  where
    fault : fault_of program (name ∷ ws) ≡ level_fault (bare_leaf name) [] nothing_held ws false []
    fault = named_fault name turn first ws ∙ ends ∙ or_nothing (level_fault (bare_leaf name) [] nothing_held ws false [])

    go : Alone (level_fault (bare_leaf name) [] nothing_held ws false []) (when_none (without_dashes ws) command) command → Parses (name ∷ ws)
    go (taken none is) = parses (fault ∙ none) (spelled ∙ is ∙ sym (ap command_found (named_found name turn first ws) ∙ found))
    go (left some is) = refuses (λ e. some (sym fault ∙ e)) (spelled ∙ is)

generated_is : (rows : List Row) (a b c : Text) → first_of (codes "start") rows ≡ Some a → first_of (codes "count") rows ≡ Some b → first_of (codes "lanes") rows ≡ Some c
    → generated_of (first_of (codes "start") rows) (first_of (codes "count") rows) (first_of (codes "lanes") rows) ≡ gen_of (a ∷ b ∷ c ∷ [])
generated_is rows a b c e f g = rw (e, f, g) refl

gen_command : (ws : List Text) → Parses (codes "gen" ∷ ws)
unfolding walked command_of defaults_fault
gen_command ws = go (gen_words ws none_met)
  where
    fault : fault_of program (codes "gen" ∷ ws) ≡ gen_fault (walk_from nothing_held) ws
    fault = named_fault (codes "gen") refl refl ws ∙ or_nothing (gen_fault (walk_from nothing_held) ws)

    found : subcommand_of program (codes "gen" ∷ ws) ≡ Some (codes "gen", gen_rows (walk_from nothing_held) ws)
    found = named_found (codes "gen") refl refl ws

    go : Numbers (gen_fault (walk_from nothing_held) ws) (gen_rows (walk_from nothing_held) ws) (gen_of (without_dashes ws)) → Parses (codes "gen" ∷ ws)
    go (three a b c none s n l is) = parses (fault ∙ none) (is ∙ sym (generated_is (gen_rows (walk_from nothing_held) ws) a b c s n l) ∙ sym (ap command_found found))
    go (not_three some is) = refuses (λ e. some (sym fault ∙ e)) is

-- ---- other words

no_words : Parses []
unfolding command_of walk_fault defaults_fault
no_words = refuses (λ e. absurd cc) refl

only_dashes : (ws : List Text) → Parses (dashes ∷ ws)
unfolding command_of walk_fault defaults_fault walked
only_dashes [] = refuses (λ e. absurd cc) refl
only_dashes (v ∷ ws) = refuses (fault_fails (dashes ∷ v ∷ ws) (walk_dashes whole.top names refl v ws)) refl

other_word : (word : Text) (ws : List Text) → bytes_eq (codes "run") word ≡ false → bytes_eq (codes "dump") word ≡ false → bytes_eq (codes "ranges") word ≡ false → bytes_eq (codes "merge") word ≡ false
    → bytes_eq (codes "gen") word ≡ false → Parses (word ∷ ws)
unfolding command_of
other_word word ws a b c d e = by (bytes_eq word dashes) refl
  where
    none : command_of (word ∷ ws) ≡ None
    none = rw (not_sym (codes "run") word a, not_sym (codes "dump") word b, not_sym (codes "ranges") word c, not_sym (codes "merge") word d, not_sym (codes "gen") word e) refl

    met : subcommand_met names idle word ≡ None
    met = rw (a, b, c, d, e) refl

    by : (t : Bool) → bytes_eq word dashes ≡ t → Parses (word ∷ ws)
    by true f = subst (λ w. Parses (w ∷ ws)) (sym ((bytes_eq-Decides word dashes).0 f)) (only_dashes ws)
    by false f = refuses (fault_fails (word ∷ ws) (walk_fails whole.top names word ws (bare_fails whole.top names word met f))) none

named : (name word : Text) (ws : List Text) → bytes_eq name word ≡ true → Parses (name ∷ ws) → Parses (word ∷ ws)
named name word ws e p = subst (λ w. Parses (w ∷ ws)) ((bytes_eq-Decides name word).0 e) p

pub words_parse : (words : List Text) → Parses words
unfolding walked command_of defaults_fault
words_parse [] = no_words
words_parse (word ∷ ws) =
    go (bytes_eq (codes "run") word) (bytes_eq (codes "dump") word) (bytes_eq (codes "ranges") word) (bytes_eq (codes "merge") word) (bytes_eq (codes "gen") word) refl refl refl refl refl
  where
    go : (a b c d e : Bool) → bytes_eq (codes "run") word ≡ a → bytes_eq (codes "dump") word ≡ b → bytes_eq (codes "ranges") word ≡ c → bytes_eq (codes "merge") word ≡ d → bytes_eq (codes "gen") word ≡ e
        → Parses (word ∷ ws)
    go true b c d e i j k l m = named (codes "run") word ws i (run_words ws)
    go false true c d e i j k l m = named (codes "dump") word ws j (alone_words (codes "dump") dump refl refl ws refl refl refl)
    go false false true d e i j k l m = named (codes "ranges") word ws k (alone_words (codes "ranges") ranges refl refl ws refl refl refl)
    go false false false true e i j k l m = named (codes "merge") word ws l (alone_words (codes "merge") merge refl refl ws refl refl refl)
    go false false false false true i j k l m = named (codes "gen") word ws m (gen_command ws)
    go false false false false false i j k l m = other_word word ws i j k l m

-- words that are taken spell the command that was found
pub taken_is : (words : List Text) (found : Option (Text × List Row)) → fault_of program words ≡ [] → found ≡ subcommand_of program words → command_found found ≡ command_of words
taken_is words found none is = go (words_parse words)
  where
    go : Parses words → command_found found ≡ command_of words
    go (parses e same) = ap command_found is ∙ sym same
    go (refuses some same) = absurd (some none)

-- words that are refused spell none
pub refused_is : (words : List Text) (k : ErrorKind) → (k ≡ kind.OutOfMemory → ⊥) → (k ≡ kind.OutOfMemory) ⊎ IsAmong k (fault_of program words) → command_of words ≡ None
refused_is words k other (inl memory) = absurd (other memory)
refused_is words k other (inr among) = go (words_parse words)
  where
    go : Parses words → command_of words ≡ None
    go (parses e same) = absurd (subst (IsAmong k) e among)
    go (refuses some same) = same
