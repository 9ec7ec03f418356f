-- Reading the rows of one node, one after the other.
use Rattle.std.specs.Prelude.{◌≡◌, ◌⊎◌, ℕ, ◌<◌, ◌≤◌, nat_lt, true, ◌&&◌, List, [], ◌∷◌, ◌++◌, length, drop, Option, Some, None}
use Rattle.std.specs.List.{AllByRecursion}
use Rattle.fine_model.specs.declared.Mark.{Mark}
use Rattle.fine_model.specs.declared.NodeId.{NodeId}
use Rattle.fine_model.specs.declared.Row.{Row}
use Rattle.fine_model.specs.Merge.{is_image, is_ordered}
use Rattle.fine_model.specs.RowBytes.{rows_bytes, rows_len, FitsRow, BeginsWithRow}
use Rattle.node_record.specs.declared.frames.Frame.{Frame}
use Rattle.node_fetch.specs.declared.frames.Frames.{Frames}
use Rattle.node_record.specs.declared.fault.RowFault.{RowFault}
use Rattle.node_record.specs.declared.fault.RowFault.TheVariants as fault

-- the bytes up to a place are these rows of the node
pub record ReadSoFar (mark : Mark) (bytes : List ℕ) (id : NodeId) (rows : List Row) (at : ℕ) : Type 0 where
  pub fit : AllByRecursion (FitsRow mark) rows
  pub of_node : AllByRecursion (λ row. row.node ≡ id) rows
  pub spelled : bytes ≡ rows_bytes rows ++ drop at bytes
  pub place : at ≡ rows_len rows
  pub within : at ≤ length bytes

-- the bytes are these rows of the node, of which there are so many
pub record ReadsAll (mark : Mark) (bytes : List ℕ) (id : NodeId) (count : ℕ) (rows : List Row) : Type 0 where
  pub so_far : ReadSoFar mark bytes id rows (length bytes)
  pub counted : length rows ≡ count

-- no row of the node starts at a place
pub record IsNoRowOf (mark : Mark) (bytes : List ℕ) (id : NodeId) (at : ℕ) : Type 0 where
  pub none : (row : Row) (rest : List ℕ) → BeginsWithRow mark (drop at bytes) row rest → row.node ≡ id → ⊥

-- reading stops at a place, where rows are missing or bytes are left
pub record IsStop (mark : Mark) (bytes : List ℕ) (id : NodeId) (count at : ℕ) : Type 0 where
  pub rows : List Row
  pub so_far : ReadSoFar mark bytes id rows at
  pub why : ((length rows < count) × IsNoRowOf mark bytes id at) ⊎ ((length rows ≡ count) × (at < length bytes))

abbrev pub StopsAt : Mark → List ℕ → NodeId → ℕ → RowFault → Type 0
StopsAt mark bytes id count (fault.Bad at) = IsStop mark bytes id count at
StopsAt mark bytes id count fault.NoMemory = Unit {0}

-- the last of some rows behind one
abbrev pub last_row : Row → List Row → Row
last_row row [] = row
last_row row (next ∷ rows) = last_row next rows

-- what the frames of a row, and of rows of the same node behind it, tell
pub record AreFrames (row : Row) (rows : List Row) (frames : Frames) : Type 0 where
  pub first : frames.first ≡ row.version
  pub last : frames.last ≡ (last_row row rows).version
  pub image : frames.is_image ≡ is_image row.rec
  pub ascend : frames.ascend ≡ is_ordered (row ∷ rows)

-- so of some rows of a node; there is nothing to tell where there are no rows
abbrev pub AreFramesOf : List Row → Option Frames → Type 0
AreFramesOf [] None = Unit {0}
AreFramesOf (row ∷ rows) (Some frames) = AreFrames row rows frames
AreFramesOf [] (Some frames) = ⊥
AreFramesOf (row ∷ rows) None = ⊥

-- with the frame of a row of the same node behind them
abbrev pub with_frame : Option Frames → Frame → Frames
with_frame None frame = record { first = frame.version; last = frame.version; is_image = frame.is_image; ascend = true }
with_frame (Some frames) frame = record { first = frames.first; last = frame.version; is_image = frames.is_image; ascend = frames.ascend && nat_lt frames.last frame.version }

-- the bytes up to a place are so many rows of the node, and these are their frames
pub record FramedSoFar (mark : Mark) (bytes : List ℕ) (id : NodeId) (count at : ℕ) (frames : Option Frames) : Type 0 where
  pub rows : List Row
  pub so_far : ReadSoFar mark bytes id rows at
  pub counted : length rows ≡ count
  pub are_frames : AreFramesOf rows frames

-- the bytes are so many rows of the node, and these are their frames
pub record FramesAll (mark : Mark) (bytes : List ℕ) (id : NodeId) (count : ℕ) (frames : Option Frames) : Type 0 where
  pub rows : List Row
  pub read : ReadsAll mark bytes id count rows
  pub are_frames : AreFramesOf rows frames
