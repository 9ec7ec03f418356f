-- One line of a script after another.
use Rattle.std.specs.Prelude.{◌≡◌, ℕ, ◌+◌, ◌≤◌, List, [], Option, Some, IfSome}
use Rattle.fine_model.specs.Script.{Reading, script_of}
use Rattle.script_text.specs.Reading.{Follows}
use Rattle.script_text.specs.Reads.{IsRefusal}
use Rattle.script_text.specs.declared.read.ScriptFault.{ScriptFault}
use Rattle.script_text.specs.declared.read.Turn.{Turn}
use Rattle.script_text.specs.declared.read.Turn.TheVariants as turn

-- the number that comes next
abbrev pub next_number : Turn → ℕ → ℕ
next_number turn.More n = n + 1
next_number (turn.Ended line) n = line

-- the input ended where the turn says so, and lines are left for no more
abbrev pub IsAtEnd : Turn → ℕ → Option (List ℕ) → Type 0
IsAtEnd turn.More n ahead = Unit {0}
IsAtEnd (turn.Ended line) n ahead = (n ≤ line) × (line ≤ n + 1) × IfSome ahead (λ rest. rest ≡ [])

-- a line was read, and what is ahead is read from there
pub record Goes (t : Turn) (n : ℕ) (old new : Option (List ℕ)) (r s : Reading) : Type 0 where
  pub follows : (start : Option (List ℕ)) → Follows start old n r → Follows start new (next_number t n) s
  pub end : IsAtEnd t n new

-- a line was refused
pub record Refuses (fault : ScriptFault) (n : ℕ) (old : Option (List ℕ)) (r : Reading) : Type 0 where
  pub refused : (start : Option (List ℕ)) → Follows start old n r → (bytes : List ℕ) → start ≡ Some bytes → IsRefusal fault (script_of bytes)
