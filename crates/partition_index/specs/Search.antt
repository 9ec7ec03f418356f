-- What a search in an index does and finds.
use Rattle.std.specs.Prelude.{◌≡◌, ◌⊎◌, ℕ, ◌+◌, ◌-◌, ◌<◌, ◌≤◌, ◌==◌, List, true, false, length, slice_range, Option, Some, None, IfSome, if◌then◌else◌, Ok, Err}
use Rattle.log_disk.specs.Disk.{Eye}
use Rattle.fine_model.specs.declared.NodeId.{NodeId}
use Rattle.fine_model.specs.declared.Part.{Part}
use Rattle.fine_model.specs.declared.Row.{Row}
use Rattle.fine_model.specs.Merge.{is_node_below}
use Rattle.fine_model.specs.Nodes.{rows_of}
use Rattle.fine_model.specs.RowBytes.{rows_len}
use Rattle.fine_model.specs.Regions.{Image, body_in, IsSealed}
use Rattle.fine_model.specs.Seek.{entry_place, entry_at, is_entry, sought_entry, span_at, span_end, is_followed}
use Rattle.partition_index.specs.declared.entries.IndexEntry.{IndexEntry}
use Rattle.partition_index.specs.declared.entries.Span.{Span}
use Rattle.partition_index.specs.Entries.{model_of, row_span_of, entry_for}
use Rattle.partition_index.specs.Parts.{SameEye, CountsFaults}

-- What a search does to an eye: it takes so many bytes at most.
pub record Searches (failed : Type 0) (most : ℕ) (old new : Eye) : Type 0 where
  pub same : SameEye old new
  pub counts : CountsFaults failed old new
  pub taken : new.taken ≤ old.taken + most

-- P of the body of a part, where an eye tells its bytes
abbrev pub IfTold : Option Image → Part → (List ℕ → Type 0) → Type 0
IfTold told part P = IfSome told (λ image. P (body_in image part.region part.header))

-- bytes are those of a part's body from an offset on, where an eye tells them
abbrev pub IsRangeAt : Option Image → Part → ℕ → List ℕ → Type 0
IsRangeAt known part at bytes = IfTold known part (λ body. bytes ≡ slice_range body at (at + length bytes))

-- an entry of the index, by its number; it may stand there
pub record IsEntryAt (known : Option Image) (part : Part) (i : ℕ) (entry : IndexEntry) : Type 0 where
  pub sound : is_entry part.header (model_of entry) ≡ true
  pub told : IfTold known part (λ body. entry_at part.header body i ≡ model_of entry)

-- what stands at the place of an entry, by its number, is none
pub record IsNoEntryAt (known : Option Image) (part : Part) (i at : ℕ) : Type 0 where
  pub place : at ≡ entry_place part.header i
  pub told : IfTold known part (λ body. is_entry part.header (entry_at part.header body i) ≡ false)

-- the end of an entry's span
pub record IsEndOf (known : Option Image) (part : Part) (i end : ℕ) : Type 0 where
  pub within : end ≤ part.header.area
  pub told : IfTold known part (λ body. (is_followed part.header body i ≡ true) × (span_end part.header body i ≡ end))

-- the span of an entry, by its number; it is not empty, and lies among the rows
pub record IsSpanAt (known : Option Image) (part : Part) (i : ℕ) (span : Span) : Type 0 where
  pub some : span.at < span.end
  pub within : span.end ≤ part.header.area
  pub counted : (1 ≤ span.rows) × (span.rows ≤ part.header.rows)
  pub told : IfTold known part (λ body. span_at part.header body i ≡ Ok (row_span_of span))

-- the span of a node: an entry of the index names it
pub record IsSpanOf (known : Option Image) (part : Part) (id : NodeId) (span : Span) : Type 0 where
  pub entry : ℕ
  pub there : entry < part.header.nodes
  pub names : IfTold known part (λ body. (entry_at part.header body entry).node ≡ id)
  pub is_span : IsSpanAt known part entry span

-- the span of a node to which a search comes
pub record IsSoughtSpan (known : Option Image) (part : Part) (id : NodeId) (span : Span) : Type 0 where
  pub is_span : IsSpanOf known part id span
  pub sought : IfTold known part (λ body. sought_entry part.header body id ≡ Ok (Some is_span.entry))

-- No entry of a node, as a search comes to none: there is a number before whose entry one stands that names a lower node, and whose own entry names a higher one,
-- as far as there are entries. Each of the two may stand there.
pub record LacksNode (known : Option Image) (part : Part) (id : NodeId) : Type 0 where
  pub number : ℕ
  pub within : number ≤ part.header.nodes
  pub before : (number ≡ 0) ⊎ ((entry : IndexEntry) × IsEntryAt known part (number - 1) entry × (is_node_below entry.node id ≡ true))
  pub behind : (number ≡ part.header.nodes) ⊎ ((entry : IndexEntry) × IsEntryAt known part number entry × (is_node_below id entry.node ≡ true))
  pub sought : IfTold known part (λ body. sought_entry part.header body id ≡ Ok None)

-- the search for a node meets a bad entry at a place of the body, or the span of the entry to which it comes is bad
abbrev pub MeetsBad : Option Image → Part → NodeId → ℕ → Type 0
MeetsBad known part id at =
    IfTold known part (λ body. (sought_entry part.header body id ≡ Err at) ⊎ ((i : ℕ) × (sought_entry part.header body id ≡ Ok (Some i)) × (span_at part.header body i ≡ Err at)))

-- a place of the body at which a bad entry starts, by the bytes of it and of the one before it
pub record IsBadAt (known : Option Image) (part : Part) (at : ℕ) : Type 0 where
  pub entry : ℕ
  pub there : entry < part.header.nodes
  pub place : at ≡ entry_place part.header entry
  pub told : IfTold known part (λ body. (i : ℕ) × (i < part.header.nodes) × (span_at part.header body i ≡ Err at))

-- The eye tells a region in the grammar that has the part's header, with these rows.
pub record TellsRows (eye : Eye) (part : Part) (rows : List Row) : Type 0 where
  pub image : Image
  pub told : eye.told ≡ Some image
  pub sealed : IsSealed eye.region_len image part.region part.header.range rows
  pub of_part : sealed.header ≡ part.header

-- the span of a node among rows
abbrev pub span_for : List Row → NodeId → Span
span_for rows id = record {
  at = (entry_for rows id).offset;
  end = (entry_for rows id).offset + rows_len (rows_of id rows);
  rows = length (rows_of id rows);
}

-- what a search finds in a region in the grammar
unfoldable pub sought : List Row → NodeId → Option Span
sought rows id = if length (rows_of id rows) == 0 then None else Some (span_for rows id)
