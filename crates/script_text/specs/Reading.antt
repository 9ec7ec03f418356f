-- What was read of a script so far.
use Rattle.std.specs.Prelude.{◌≡◌, ◌≢◌, ℕ, ◌<◌, ◌≤◌, Bool, true, false, List, [], ◌∷◌, ◌++◌, length, All, Option, Some, None, IfSome}
use Rattle.fine_model.specs.Script.{Line, Reading, line_added, script_from, script_of, lines}
use Rattle.script_text.specs.Streams.{before}
use Rattle.script_text.specs.declared.reading.Progress.{Progress}
use Rattle.script_text.specs.declared.lines.LineEnd.{LineEnd}
use Rattle.script_text.specs.declared.lines.LineEnd.TheVariants as line_end

abbrev pub reading_of : Progress → Reading
reading_of p = record { done = p.done; open_txn = p.open_txn }

-- a line was added, or may not stand there
pub record Adds (added : Bool) (line : Line) (old new : Reading) : Type 0 where
  pub yes_ : added ≡ true → line_added old line ≡ Some new
  pub no_ : added ≡ false → line_added old line ≡ None

-- no line feed is among the bytes
abbrev pub IsOneLine : List ℕ → Type 0
IsOneLine bytes = All (λ b. b ≢ 10) bytes

-- bytes went from the front of a chunk behind a line, and what ended them was left out
abbrev pub MovesLine : List ℕ → List ℕ → List ℕ → List ℕ → List ℕ → Type 0
MovesLine stop line line' chunk chunk' = (piece : List ℕ) × (line' ≡ line ++ piece) × (chunk ≡ piece ++ stop ++ chunk')

-- how a line was taken from the bytes that were ahead
abbrev pub EndsLine : LineEnd → List ℕ → Option (List ℕ) → Option (List ℕ) → Type 0
EndsLine line_end.Feed line old new = (old ≡ before (line ++ 10 ∷ []) new) × (length line ≤ 512)
EndsLine line_end.Input line old new = (old ≡ before line new) × (length line ≤ 512) × IfSome new (λ rest. rest ≡ [])
EndsLine line_end.TooLong line old new = (old ≡ before line new) × (512 < length line)

-- what is left of told bytes is read from here as all of them are from the start
pub record Follows (start ahead : Option (List ℕ)) (n : ℕ) (r : Reading) : Type 0 where
  pub same : (bytes : List ℕ) → start ≡ Some bytes → (rest : List ℕ) × (ahead ≡ Some rest) × (script_from n r (lines rest) ≡ script_of bytes)
