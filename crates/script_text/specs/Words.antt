-- Words of a line.
use Rattle.std.specs.Prelude.{ℕ, List, ◌∷◌, map, decimal}
use Rattle.fine_model.specs.Report.{line}
use Rattle.fine_model.specs.NumberText.{number_text}
use Rattle.script_text.specs.declared.line.Word.{Word}
use Rattle.script_text.specs.declared.line.Word.TheVariants as word

-- the bytes of a word
abbrev pub bytes_of : Word → List ℕ
bytes_of (word.Text text) = text.now
bytes_of (word.Number n) = decimal n
bytes_of (word.Signed z) = number_text z

-- a word behind a space
abbrev pub spaced : Word → List ℕ
spaced w = 32 ∷ bytes_of w

-- the line of words
abbrev pub line_of : List Word → List ℕ
line_of words = line (map bytes_of words)
