-- What the command that words spell tells of a call.
use Rattle.std.proofs.Common.{◌≡◌, inl, inr, ℕ, List, [], ◌∷◌, Option, Some, None, Result, Ok}
use Rattle.fine_model.specs.declared.Options.{Options}
use Rattle.fine_model.specs.declared.ScriptTxn.{ScriptTxn}
use Rattle.fine_model.specs.Headline.{IsRefusedAt, OneOf}
use Rattle.fine_model.specs.Script.{Refusal, script_of}
use Rattle.fine_model.specs.Words.{Command, dump, gen, merge, ranges, run}
use Rattle.fine_top.specs.Commands.{Does, HasScript, NoneRose, Seen, TellsSound}

pub not_refused : (n : ℕ) (answer : Result (List ScriptTxn) Refusal) (script : List ScriptTxn) → answer ≡ Ok script → IsRefusedAt n answer → ⊥
not_refused n answer script ok (inl many) = absurd cc
not_refused n answer script ok (inr (inl long)) = absurd cc
not_refused n answer script ok (inr (inr bad)) = absurd cc

module _ (s : Seen) (sound : TellsSound s.old) (none : NoneRose s.source s.output s.old s.new) where
  not_seven : (command : Option Command) → Does command s → s.status ≡ 7 → ⊥
  not_seven command d seven = d.leaves.damaged seven sound.told sound.is_told sound.e sound.rows sound.shows sound.sound

  not_three : (options : Options) → Does (Some (run options)) s → HasScript (Some (run options)) s.left → s.status ≡ 3 → ⊥
  not_three options d (bytes, is, spelled) three = let bad = d.own.script three bytes is in not_refused bad.0 (script_of bytes) spelled.0 spelled.1 bad.1

  -- of all statuses of a command these are left
  left_of : (command : Option Command) → Does command s → (s.status ≡ 3 → ⊥) → OneOf (0 ∷ 1 ∷ 3 ∷ 4 ∷ 5 ∷ 6 ∷ 7 ∷ 8 ∷ []) s.status → OneOf (0 ∷ 1 ∷ 8 ∷ []) s.status
  left_of command d free (inl is) = inl is
  left_of command d free (inr (inl is)) = inr (inl is)
  left_of command d free (inr (inr (inl is))) = absurd (free is)
  left_of command d free (inr (inr (inr (inl is)))) = absurd (none.source_still (d.leaves.source_failed is))
  left_of command d free (inr (inr (inr (inr (inl is))))) = absurd (none.output_still (d.leaves.output_failed is))
  left_of command d free (inr (inr (inr (inr (inr (inl is)))))) = absurd (none.disk_still (d.leaves.disk_failed is))
  left_of command d free (inr (inr (inr (inr (inr (inr (inl is))))))) = absurd (not_seven command d is)
  left_of command d free (inr (inr (inr (inr (inr (inr (inr (inl is)))))))) = inr (inr (inl is))
  left_of command d free (inr (inr (inr (inr (inr (inr (inr (inr nothing)))))))) = absurd nothing

  -- a command that prints one text
  listing : (command : Option Command) → Does command s → OneOf (0 ∷ 1 ∷ 5 ∷ 6 ∷ 7 ∷ []) s.status → OneOf (0 ∷ 1 ∷ 8 ∷ []) s.status
  listing command d (inl is) = inl is
  listing command d (inr (inl is)) = inr (inl is)
  listing command d (inr (inr (inl is))) = absurd (none.output_still (d.leaves.output_failed is))
  listing command d (inr (inr (inr (inl is)))) = absurd (none.disk_still (d.leaves.disk_failed is))
  listing command d (inr (inr (inr (inr (inl is))))) = absurd (not_seven command d is)
  listing command d (inr (inr (inr (inr (inr nothing))))) = absurd nothing

  generating : (command : Option Command) → Does command s → OneOf (0 ∷ 1 ∷ 5 ∷ 6 ∷ 7 ∷ 8 ∷ []) s.status → OneOf (0 ∷ 1 ∷ 8 ∷ []) s.status
  generating command d (inl is) = inl is
  generating command d (inr (inl is)) = inr (inl is)
  generating command d (inr (inr (inl is))) = absurd (none.output_still (d.leaves.output_failed is))
  generating command d (inr (inr (inr (inl is)))) = absurd (none.disk_still (d.leaves.disk_failed is))
  generating command d (inr (inr (inr (inr (inl is))))) = absurd (not_seven command d is)
  generating command d (inr (inr (inr (inr (inr (inl is)))))) = inr (inr (inl is))
  generating command d (inr (inr (inr (inr (inr (inr nothing)))))) = absurd nothing

  pub complete : (command : Option Command) → Does command s → HasScript command s.left → OneOf (0 ∷ 1 ∷ 8 ∷ []) s.status
  complete None d none = absurd none
  complete (Some (run options)) d script = left_of (Some (run options)) d (not_three options d script) d.leaves.status_is
  complete (Some dump) d script = listing (Some dump) d d.leaves.status_is
  complete (Some ranges) d script = listing (Some ranges) d d.leaves.status_is
  complete (Some merge) d script = listing (Some merge) d d.leaves.status_is
  complete (Some (gen start count lanes)) d script = generating (Some (gen start count lanes)) d d.leaves.status_is
