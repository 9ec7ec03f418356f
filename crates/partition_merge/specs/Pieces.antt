-- Rows of one node that stay where they were read: in the windows on the rows of two parts.
use Rattle.std.specs.Prelude.{◌≡◌, ℕ, ◌+◌, ◌-◌, ◌≤◌, ◌==◌, nat_lt, not, Bool, true, false, ◌&&◌, ◌||◌, List, [], ◌∷◌, ◌++◌, length, min, take, drop, Option, Some, None, option_map}
use Rattle.std.specs.List.{AllByRecursion}
use Rattle.log_disk.specs.Disk.{Eye}
use Rattle.fine_model.specs.declared.NodeId.{NodeId}
use Rattle.fine_model.specs.declared.Part.{Part}
use Rattle.fine_model.specs.declared.Row.{Row}
use Rattle.fine_model.specs.Merge.{is_image, is_node_below, is_ordered}
use Rattle.fine_model.specs.Nodes.{rows_of}
use Rattle.fine_model.specs.Regions.{Image}
use Rattle.fine_model.specs.RowBytes.{rows_bytes, rows_len}
use Rattle.partition_index.specs.declared.entries.IndexEntry.{IndexEntry}
use Rattle.partition_index.specs.declared.entries.Span.{Span}
use Rattle.partition_index.specs.Index.{AllFrom}
use Rattle.partition_index.specs.Parts.{LiesIn}
use Rattle.node_fetch.specs.Fetched.{HoldsRows}
use Rattle.node_fetch.specs.Spans.{ReadsAll, last_row}
use Rattle.partition_merge.specs.declared.merger.Merger.{Merger}
use Rattle.partition_merge.specs.declared.merger.Source.{Source}
use Rattle.partition_merge.specs.declared.piece.NodePieces.{NodePieces}
use Rattle.partition_merge.specs.declared.piece.Piece.{Piece}
use Rattle.partition_merge.specs.declared.piece.Tally.{Tally}
use Rattle.partition_merge.specs.declared.piece.Merged.{Merged}
use Rattle.partition_merge.specs.declared.piece.Merged.TheVariants as merged
use Rattle.partition_merge.specs.declared.piece.Found.{Found}
use Rattle.partition_merge.specs.Merging.{merged_of, node_at_head}
use Rattle.partition_merge.specs.Mergers.{HandsOut, IsJoinOf, SourceAt, StandsAt, TakesRows, newer_part, node_kept, older_part}
use Rattle.partition_merge.specs.Windows.{WindowValue, window_end}

-- ---- pieces

-- the bytes of a span in a window
abbrev pub bytes_at : WindowValue → Span → List ℕ
bytes_at window span = take (span.end - span.at) (drop (span.at - window.from) window.bytes)

-- a span lies in a window
pub record LiesWithin (window : WindowValue) (span : Span) : Type 0 where
  pub begins : window.from ≤ span.at
  pub order : span.at ≤ span.end
  pub ends : span.end ≤ window_end window

-- bytes begin with the kind of a row that puts a pair
abbrev pub begins_with_put : List ℕ → Bool
begins_with_put [] = false
begins_with_put (kind ∷ bytes) = kind == 4

-- what a piece tells of a row, and of rows of the same node behind it
pub record TellsOf (row : Row) (rows : List Row) (piece : Piece) : Type 0 where
  pub first : piece.first ≡ row.version
  pub last : piece.last ≡ (last_row row rows).version
  pub image : piece.is_image ≡ is_image row.rec
  pub ascend : piece.ascend ≡ is_ordered (row ∷ rows)

-- so of some rows of a node, one at least
abbrev pub TellsAll : List Row → Piece → Type 0
TellsAll [] piece = ⊥
TellsAll (row ∷ rows) piece = TellsOf row rows piece

-- a piece is some rows of a node, which stand in a window on the rows of a part
pub record IsPieceOf (part : Part) (window : WindowValue) (id : NodeId) (piece : Piece) (rows : List Row) : Type 0 where
  pub lies : LiesWithin window piece.span
  pub within : piece.span.end ≤ part.header.area
  pub some : 1 ≤ part.header.nodes
  pub reads : ReadsAll part.header.mark (bytes_at window piece.span) id piece.span.rows rows
  pub tells : TellsAll rows piece
  pub put : piece.is_put ≡ begins_with_put (bytes_at window piece.span)

-- rows of a node stand in a window: none, or those of a piece
abbrev pub Holds : Part → WindowValue → NodeId → Option Piece → List Row → Type 0
Holds part window id None rows = rows ≡ []
Holds part window id (Some piece) rows = IsPieceOf part window id piece rows

-- so in the window of a source
abbrev pub HoldsIn : Source → NodeId → Option Piece → List Row → Type 0
HoldsIn source id piece rows = Holds source.part source.ahead.rows id piece rows

-- some rows do
pub record HasRows (source : Source) (id : NodeId) (piece : Option Piece) : Type 0 where
  pub rows : List Row
  pub holds : HoldsIn source id piece rows

-- so of both sources of a merger
pub record HaveRows (merger : Merger) (pieces : NodePieces) : Type 0 where
  pub older : HasRows merger.older pieces.node pieces.older
  pub newer : HasRows merger.newer pieces.node pieces.newer

-- the headers of both parts lie in their regions
pub record BothLie (merger : Merger) : Type 0 where
  pub older : LiesIn merger.region_len (older_part merger).header
  pub newer : LiesIn merger.region_len (newer_part merger).header

-- the span of a piece, if there is one
abbrev pub span_of : Option Piece → Option Span
span_of piece = option_map (λ p. p.span) piece

-- the bytes of a span in a window, if there is one
abbrev pub span_bytes : WindowValue → Option Span → List ℕ
span_bytes window None = []
span_bytes window (Some span) = bytes_at window span

-- it lies there
abbrev pub StandsIn : WindowValue → Option Span → Type 0
StandsIn window None = Unit {0}
StandsIn window (Some span) = LiesWithin window span

-- ---- what pieces tell

abbrev pub piece_rows : Option Piece → ℕ
piece_rows None = 0
piece_rows (Some piece) = piece.span.rows

abbrev pub piece_len : Option Piece → ℕ
piece_len None = 0
piece_len (Some piece) = piece.span.end - piece.span.at

-- how many bytes both have
abbrev pub both_len : Option Piece → Option Piece → ℕ
both_len older newer = min (piece_len older + piece_len newer) 4294967295

-- the rows of both are in order
abbrev pub both_ascend : Option Piece → Option Piece → Bool
both_ascend None None = true
both_ascend (Some piece) None = piece.ascend
both_ascend None (Some piece) = piece.ascend
both_ascend (Some older) (Some newer) = (older.ascend && newer.ascend) && nat_lt older.last newer.first

-- what is told of them
abbrev pub tally_of : NodeId → Option Piece → Option Piece → Tally
tally_of id older newer = record {
  node = id;
  rows = min (piece_rows older + piece_rows newer) 4294967295;
  area = both_len older newer;
  ordered = both_ascend older newer;
}

-- how many rows of a node there are, how many bytes they have, and whether they are in order; a number above the greatest of 32 bits is told as this one
pub record IsTallyOf (rows : List Row) (tally : Tally) : Type 0 where
  pub own : AllByRecursion (λ r. r.node ≡ tally.node) rows
  pub some : 1 ≤ length rows
  pub rows_are : tally.rows ≡ min (length rows) 4294967295
  pub area : tally.area ≡ min (rows_len rows) 4294967295
  pub ordered : tally.ordered ≡ is_ordered rows

-- an image may stand for so many rows that begin with a piece: they need nothing before them, and are not a single one for which no other stands
abbrev pub may_fold_from : ℕ → Piece → Bool
may_fold_from count piece = (piece.is_image || (piece.first == 1)) && not ((count == 1) && (piece.is_image || piece.is_put))

abbrev pub may_fold : Option Piece → Option Piece → Bool
may_fold None None = false
may_fold (Some older) newer = may_fold_from (min (older.span.rows + piece_rows newer) 4294967295) older
may_fold None (Some newer) = may_fold_from newer.span.rows newer

-- a node is above the one before it, if there is one
abbrev pub is_above : Option NodeId → NodeId → Bool
is_above None id = true
is_above (Some last) id = is_node_below last id

-- the index entry of rows that a tally counts
abbrev pub tallied : Tally → ℕ → IndexEntry
tallied tally offset = record { node = tally.node; offset = offset; rows = tally.rows }

-- ---- what was merged

-- the bytes of merged rows: the image, as it is spelled, or those that stand in both windows
abbrev pub merged_bytes : Merger → Merged → List ℕ
merged_bytes merger (merged.Image image) = image.items
merged_bytes merger (merged.Both older newer) = span_bytes merger.older.ahead.rows older ++ span_bytes merger.newer.ahead.rows newer

-- they can be spelled
abbrev pub CanSpell : Merger → Merged → Type 0
CanSpell merger (merged.Image image) = Unit {0}
CanSpell merger (merged.Both older newer) = StandsIn merger.older.ahead.rows older × StandsIn merger.newer.ahead.rows newer

-- what was found is what some rows of a node are merged into; an image may be left unspelled where it is only counted
pub record IsMergedFrom (spells : Bool) (merger : Merger) (id : NodeId) (own : List Row) (found : Found) : Type 0 where
  pub tally : IsTallyOf (merged_of id own) found.tally
  pub can_spell : CanSpell merger found.merged
  pub spelled : spells ≡ true → merged_bytes merger found.merged ≡ rows_bytes (merged_of id own)

-- ---- what was taken

-- By the bytes that were read, a span is exactly the rows of a node that stand in a window.
pub record FindsRows (known : Option Image) (part : Part) (id : NodeId) (span : Span) (window : WindowValue) (piece : Option Piece) : Type 0 where
  pub rows : List Row
  pub holds : Holds part window id piece rows
  pub is_read : HoldsRows known part id span rows

-- What was taken of a part for a node: by some rows, which stand in its window. Where the eye tells the part in the grammar they are those of the node.
pub record IsTaken (eye : Eye) (id : NodeId) (before after : Source) (piece : Option Piece) : Type 0 where
  pub rows : List Row
  pub holds : HoldsIn after id piece rows
  pub read : TakesRows eye.told id before after rows
  pub some : node_kept before.head ≡ Some id → 1 ≤ length rows
  pub exact : (left : List Row) → SourceAt eye before left → AllFrom id left → node_kept before.head ≡ node_at_head left → rows ≡ rows_of id left

-- What a pass found for a node: by some rows, which it counts and, where that was asked for, can spell. They are what was read of both parts, merged, and where the eye tells both in the grammar
-- the merged rows of the next node.
pub record HandsOver (spells : Bool) (old new : Eye) (before after : Merger) (found : Found) : Type 0 where
  pub rows : List Row
  pub tally : IsTallyOf rows found.tally
  pub can_spell : CanSpell after found.merged
  pub spelled : spells ≡ true → merged_bytes after found.merged ≡ rows_bytes rows
  pub read : IsJoinOf old.told before after rows
  pub exact : (older newer : List Row) → StandsAt old before older newer → HandsOut new after older newer rows

-- nothing is found only where both parts have no node left
abbrev pub EndsAt : Eye → Merger → List Row → List Row → Option Found → Type 0
EndsAt eye merger older newer None = (older ≡ []) × (newer ≡ []) × StandsAt eye merger older newer
EndsAt eye merger older newer (Some found) = Unit {0}
