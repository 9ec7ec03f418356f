-- What the words of a command come to from any walk on, and how that goes on word by word.
use Rattle.std.proofs.Common.{◌≡◌, false, List, [], ◌∷◌, fold, refl, sym, ap, ◌∙◌, subst}
use Rattle.clap.specs.Walk.{Held, Row, Text, Walk, finished, settled, walked}
use Rattle.clap.specs.Simple.{Shape}
use Rattle.clap.specs.Kinds.{Kinds, or_else}
use Rattle.clap.specs.Faults.{walk_fault, turn_fault, settle_fault, defaults_fault, check_fault}

pub or_nothing : (a : Kinds) → or_else a [] ≡ a
or_nothing [] = refl
or_nothing (k ∷ ks) = refl

or_assoc : (a b c : Kinds) → or_else (or_else a b) c ≡ or_else a (or_else b c)
or_assoc [] b c = refl
or_assoc (k ∷ ks) b c = refl

pub or_fails : (a b : Kinds) → (a ≡ [] → ⊥) → or_else a b ≡ [] → ⊥
or_fails [] b n e = n refl
or_fails (k ∷ ks) b n e = n e

module _ (leaf : Shape) where
  -- behind the words
  abbrev pub end_fault : Held → Kinds
  end_fault h = or_else [] (or_else (settle_fault leaf.rules false h) (or_else (defaults_fault (settled leaf.rules h).rows leaf.rules) (check_fault leaf (finished leaf.rules h) false)))

  abbrev pub fault_from : Walk → List Text → Kinds
  fault_from w ws = or_else (walk_fault leaf [] w ws) (end_fault (fold (walked leaf.rules []) w ws).held)

  abbrev pub rows_from : Walk → List Text → List Row
  rows_from w ws = finished leaf.rules (fold (walked leaf.rules []) w ws).held

  fault_step : (w : Walk) (word : Text) (ws : List Text) → fault_from w (word ∷ ws) ≡ or_else (turn_fault leaf [] w word) (fault_from (walked leaf.rules [] w word) ws)
  unfolding walk_fault
  fault_step w word ws = or_assoc (turn_fault leaf [] w word) (walk_fault leaf [] (walked leaf.rules [] w word) ws) (end_fault (fold (walked leaf.rules []) (walked leaf.rules [] w word) ws).held)

  -- a word that is taken
  pub word_taken : (Comes : Kinds → List Row → Type 0) (w w' : Walk) (word : Text) (ws : List Text) → turn_fault leaf [] w word ≡ [] → walked leaf.rules [] w word ≡ w'
      → Comes (fault_from w' ws) (rows_from w' ws) → Comes (fault_from w (word ∷ ws)) (rows_from w (word ∷ ws))
  word_taken Comes w w' word ws none next comes =
      let same : fault_from w (word ∷ ws) ≡ fault_from (walked leaf.rules [] w word) ws = fault_step w word ws ∙ ap (λ k. or_else k (fault_from (walked leaf.rules [] w word) ws)) none in
      let there : Comes (fault_from (walked leaf.rules [] w word) ws) (rows_from (walked leaf.rules [] w word) ws) = subst (λ x. Comes (fault_from x ws) (rows_from x ws)) (sym next) comes in
      subst (λ k. Comes k (rows_from w (word ∷ ws))) (sym same) there

  -- a word that fails
  pub word_fails : (w : Walk) (word : Text) (ws : List Text) → (turn_fault leaf [] w word ≡ [] → ⊥) → fault_from w (word ∷ ws) ≡ [] → ⊥
  word_fails w word ws some none = or_fails _ _ some (sym (fault_step w word ws) ∙ none)
