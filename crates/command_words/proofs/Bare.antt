-- How the library walks over words of a command that takes none, and over the words before a command's name.
use Rattle.std.proofs.Common.{◌≡◌, ℕ, suc, if◌then◌else◌, Bool, true, false, List, [], ◌∷◌, length, Option, Some, None, bytes_eq, chars, slice_get, refl, sym, ap, ◌∙◌, subst}
use Rattle.clap.specs.declared.error.kind.ErrorKind.TheVariants as kind
use Rattle.clap.specs.Walk.{Names, Text, Walk, bundle_met, walked, walk_from, nothing_held, idle, subcommand_met}
use Rattle.clap.specs.Lexer.{long_of, short_of}
use Rattle.clap.specs.Simple.{Shape, new_shape}
use Rattle.clap.specs.Kinds.{Kinds, or_else}
use Rattle.clap.specs.Faults.{level_fault, walk_fault, turn_fault, stray_fault, flags_fault, defaults_fault}
use Rattle.fine_model.specs.Words.{Command, when_none, without_dashes}
use Rattle.command_words.proofs.Levels.{or_fails}
use Rattle.command_words.proofs.Walking.{dashes, Form, dashed, long_form, short_form, plain_form, form_of, kinds_apart}

-- a command without arguments
abbrev pub bare : Shape → Shape
bare s = record s { rules = [] }

abbrev trailing_walk : Walk
trailing_walk = record { held = nothing_held; waiting = idle; position = 1; is_trailing = true; stopped = None }

stray_some : (s : Shape) → stray_fault (bare s) ≡ [] → ⊥
stray_some s e = go s.is_leaf e
  where
    go : (b : Bool) → (if b then kind.UnknownArgument ∷ [] else kind.UnknownArgument ∷ kind.InvalidSubcommand ∷ []) ≡ [] → ⊥
    go true e = absurd cc
    go false e = absurd cc

module _ (s : Shape) (names : Names) where
  bare_long : (word name : Text) (value : Option Text) → subcommand_met names idle word ≡ None → bytes_eq word dashes ≡ false → long_of word ≡ Some (name, value)
      → turn_fault (bare s) names (walk_from nothing_held) word ≡ kind.UnknownArgument ∷ []
  bare_long word name value m e f = rw (m, e, f) refl

  bare_plain : (word : Text) → subcommand_met names idle word ≡ None → bytes_eq word dashes ≡ false → long_of word ≡ None → short_of word ≡ None
      → turn_fault (bare s) names (walk_from nothing_held) word ≡ stray_fault (bare s)
  bare_plain word m e f g = rw (m, e, f, g) refl

  bare_short : (word flags : Text) (k : ℕ) → subcommand_met names idle word ≡ None → bytes_eq word dashes ≡ false → long_of word ≡ None → short_of word ≡ Some flags → length flags ≡ suc k
      → turn_fault (bare s) names (walk_from nothing_held) word ≡ [] → ⊥
  unfolding flags_fault bundle_met
  bare_short word flags k m e f g l = go (slice_get (chars flags) 0) refl
    where
      go : (o : Option ℕ) → slice_get (chars flags) 0 ≡ o → turn_fault (bare s) names (walk_from nothing_held) word ≡ [] → ⊥
      go None n = let is : turn_fault (bare s) names (walk_from nothing_held) word ≡ stray_fault (bare s) = rw (m, e, f, g, l, n) refl in λ x. stray_some s (sym is ∙ x)
      go (Some c) n =
          let is : turn_fault (bare s) names (walk_from nothing_held) word ≡ kind.UnknownArgument ∷ [] = rw (m, e, f, g, l, n) refl in
          kinds_apart (turn_fault (bare s) names (walk_from nothing_held) word) kind.UnknownArgument [] is

  -- a word that is neither a command nor `--`
  pub bare_fails : (word : Text) → subcommand_met names idle word ≡ None → bytes_eq word dashes ≡ false → turn_fault (bare s) names (walk_from nothing_held) word ≡ [] → ⊥
  bare_fails word m apart = go (form_of word)
    where
      go : Form word → turn_fault (bare s) names (walk_from nothing_held) word ≡ [] → ⊥
      go (dashed is) = let bad : false ≡ true = sym apart ∙ ap (λ w. bytes_eq w dashes) is in absurd cc
      go (long_form n is e long) = kinds_apart (turn_fault (bare s) names (walk_from nothing_held) word) kind.UnknownArgument [] (bare_long word _ _ m apart long)
      go (short_form flags k e long short some is other pair) = bare_short word flags k m apart long short some
      go (plain_form e long short other pair) = λ x. stray_some s (sym (bare_plain word m apart long short) ∙ x)

  bare_dashes : subcommand_met names idle dashes ≡ None → (turn_fault (bare s) names (walk_from nothing_held) dashes ≡ []) × (walked [] names (walk_from nothing_held) dashes ≡ trailing_walk)
  unfolding walked
  bare_dashes m = (rw m refl, rw m refl)

  bare_trailing : (word : Text) → turn_fault (bare s) names trailing_walk word ≡ [] → ⊥
  bare_trailing word e = stray_some s e

  pub level_fails : (ws : List Text) (has : Bool) (below : Kinds) → (walk_fault (bare s) names (walk_from nothing_held) ws ≡ [] → ⊥) → level_fault (bare s) names nothing_held ws has below ≡ [] → ⊥
  level_fails ws has below some = or_fails _ _ some

  pub walk_fails : (word : Text) (ws : List Text) → (turn_fault (bare s) names (walk_from nothing_held) word ≡ [] → ⊥) → walk_fault (bare s) names (walk_from nothing_held) (word ∷ ws) ≡ [] → ⊥
  unfolding walk_fault
  walk_fails word ws some = or_fails _ _ some

  pub walk_dashes : subcommand_met names idle dashes ≡ None → (v : Text) (ws : List Text) → walk_fault (bare s) names (walk_from nothing_held) (dashes ∷ v ∷ ws) ≡ [] → ⊥
  unfolding walk_fault
  walk_dashes m v ws =
      let d = bare_dashes m in
      let is : walk_fault (bare s) names (walk_from nothing_held) (dashes ∷ v ∷ ws) ≡ or_else (turn_fault (bare s) names trailing_walk v) (walk_fault (bare s) names (walked [] names trailing_walk v) ws)
      = rw (d.0, d.1) refl in
      λ e. or_fails (turn_fault (bare s) names trailing_walk v) (walk_fault (bare s) names (walked [] names trailing_walk v) ws) (bare_trailing v) (sym is ∙ e)

-- the words are taken, and a command that takes none is this one; or they are refused, and no command is
pub data Alone (fault : Kinds) (result : Option Command) (command : Command) : Type 0 where
  taken : fault ≡ [] → result ≡ Some command → Alone fault result command
  left : (fault ≡ [] → ⊥) → result ≡ None → Alone fault result command

-- a command without arguments, as it is built
abbrev pub bare_leaf : Text → Shape
bare_leaf name = bare (record (new_shape name) { no_binary_name = true; disable_help_flag = true; disable_help_subcommand = true; is_built = true })

none_left : (word : Text) (ws : List Text) (c : Command) → bytes_eq word dashes ≡ false → when_none (without_dashes (word ∷ ws)) c ≡ None
none_left word ws c e = rw e refl

pub bare_words : (name : Text) (ws : List Text) (c : Command) → Alone (level_fault (bare_leaf name) [] nothing_held ws false []) (when_none (without_dashes ws) c) c
unfolding walk_fault defaults_fault walked
bare_words name [] c = taken refl refl
bare_words name (word ∷ ws) c = go (form_of word)
  where
    others : bytes_eq word dashes ≡ false → Alone (level_fault (bare_leaf name) [] nothing_held (word ∷ ws) false []) (when_none (without_dashes (word ∷ ws)) c) c
    others apart =
        left (level_fails (bare_leaf name) [] (word ∷ ws) false [] (walk_fails (bare_leaf name) [] word ws (bare_fails (bare_leaf name) [] word refl apart))) (none_left word ws c apart)

    behind : (ws : List Text) → Alone (level_fault (bare_leaf name) [] nothing_held (dashes ∷ ws) false []) (when_none (without_dashes (dashes ∷ ws)) c) c
    behind [] = taken refl refl
    behind (v ∷ vs) = left (level_fails (bare_leaf name) [] (dashes ∷ v ∷ vs) false [] (walk_dashes (bare_leaf name) [] refl v vs)) refl

    go : Form word → Alone (level_fault (bare_leaf name) [] nothing_held (word ∷ ws) false []) (when_none (without_dashes (word ∷ ws)) c) c
    go (dashed is) = subst (λ w. Alone (level_fault (bare_leaf name) [] nothing_held (w ∷ ws) false []) (when_none (without_dashes (w ∷ ws)) c) c) (sym is) (behind ws)
    go (long_form n is apart long) = others apart
    go (short_form flags k apart long short some is other pair) = others apart
    go (plain_form apart long short other pair) = others apart
