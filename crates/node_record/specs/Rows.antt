-- What reading a row answers.
use Rattle.std.specs.Prelude.{◌≡◌, ℕ, ◌+◌, ◌≤◌, List, length, drop, Result, MatchResult}
use Rattle.fine_model.specs.declared.Mark.{Mark}
use Rattle.fine_model.specs.declared.Row.{Row}
use Rattle.fine_model.specs.RowBytes.{row_len, BeginsWithRow}
use Rattle.fine_model.specs.Merge.{is_image}
use Rattle.node_record.specs.declared.fault.RowFault.{RowFault}
use Rattle.node_record.specs.declared.fault.RowFault.TheVariants as fault
use Rattle.node_record.specs.declared.frames.Frame.{Frame}

-- the bytes from one place up to another are a row of the format
pub record IsRowAt (mark : Mark) (bytes : List ℕ) (at : ℕ) (row : Row) (behind : ℕ) : Type 0 where
  pub begins : BeginsWithRow mark (drop at bytes) row (drop behind bytes)
  pub ends : behind ≡ at + row_len row
  pub within : behind ≤ length bytes

-- nothing that starts at a place is a row of the format
pub record IsNoRowAt (mark : Mark) (bytes : List ℕ) (at : ℕ) : Type 0 where
  pub none : (row : Row) (rest : List ℕ) → BeginsWithRow mark (drop at bytes) row rest → ⊥

-- a bad row is told with its own start; want of memory says nothing
abbrev pub IsFault : Mark → List ℕ → ℕ → RowFault → Type 0
IsFault mark bytes at (fault.Bad place) = (place ≡ at) × IsNoRowAt mark bytes at
IsFault mark bytes at fault.NoMemory = Unit {0}

-- a row that is there is the row that is read, whatever follows it
abbrev pub IsReadAgain : Mark → List ℕ → ℕ → Result (Row × ℕ) RowFault → Type 0
IsReadAgain mark bytes at result = (row : Row) (rest : List ℕ) → BeginsWithRow mark (drop at bytes) row rest → MatchResult result (λ found. (found.0 ≡ row) × (drop found.1 bytes ≡ rest)) (λ e. e ≡ fault.NoMemory)

-- what the frame of a row tells of it
pub record IsFrameOf (row : Row) (frame : Frame) : Type 0 where
  pub node : frame.node ≡ row.node
  pub version : frame.version ≡ row.version
  pub image : frame.is_image ≡ is_image row.rec

-- a row starts at a place, ends where the frame says, and is the frame's
pub record IsFrameAt (mark : Mark) (bytes : List ℕ) (at : ℕ) (frame : Frame) : Type 0 where
  pub row : Row
  pub is_row : IsRowAt mark bytes at row frame.end
  pub is_of : IsFrameOf row frame
