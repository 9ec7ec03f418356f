-- A line of a script as the reader has it.
use Rattle.std.specs.Prelude.{◌≡◌, ℕ, ◌<◌, List, [], ◌∷◌, length}
use Rattle.fine_model.specs.Script.{Line, skipped, begins, calls, ends, faulty}
use Rattle.script_text.specs.declared.grammar.SaidLine.{SaidLine}
use Rattle.script_text.specs.declared.grammar.SaidLine.TheVariants as said_line
use Rattle.script_text.specs.declared.grammar.Arguments.{Arguments}
use Rattle.script_text.specs.declared.grammar.Arguments.TheVariants as arguments

-- what a line says, in the grammar's words
abbrev pub meant : SaidLine → Line
meant said_line.Skipped = skipped
meant (said_line.Begins lane) = begins lane
meant (said_line.Calls call) = calls call
meant (said_line.Ends ending) = ends ending
meant said_line.Faulty = faulty

-- the words behind the first, as far as they count
abbrev pub AreRest : Arguments → List (List ℕ) → Type 0
AreRest arguments.Zero ws = ws ≡ []
AreRest (arguments.One a) ws = ws ≡ a.now ∷ []
AreRest (arguments.Two a b) ws = ws ≡ a.now ∷ b.now ∷ []
AreRest (arguments.Three a b c) ws = ws ≡ a.now ∷ b.now ∷ c.now ∷ []
AreRest arguments.More ws = 3 < length ws
