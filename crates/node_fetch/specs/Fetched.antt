-- What fetching finds, and when it gives up.
use Rattle.std.specs.Prelude.{◌≡◌, ◌⊎◌, ℕ, ◌+◌, ◌-◌, IsTrue, List, [], ◌++◌, map, flat_map, Option, Some, sum_by}
use Rattle.std.specs.List.{AllByRecursion}
use Rattle.log_disk.specs.Disk.{Eye}
use Rattle.fine_model.specs.declared.FetchFault.{FetchFault}
use Rattle.fine_model.specs.declared.FetchFault.TheVariants as fault
use Rattle.fine_model.specs.declared.NodeId.{NodeId}
use Rattle.fine_model.specs.declared.Part.{Part}
use Rattle.fine_model.specs.declared.Row.{Row}
use Rattle.fine_model.specs.Regions.{Image, Place, place_of, HasHeader}
use Rattle.fine_model.specs.Chain.{AreRowsOf}
use Rattle.fine_model.specs.Damages.{has_image_first}
use Rattle.fine_model.specs.Nodes.{Content, base, replay, rows_of}
use Rattle.fine_model.specs.RowBytes.{rows_len}
use Rattle.fine_model.specs.Seek.{SpanHolds, IsBadInSpan, most_taken}
use Rattle.partition_index.specs.declared.entries.Span.{Span}
use Rattle.partition_index.specs.Entries.{row_span_of}
use Rattle.partition_index.specs.Search.{IfTold, IsSpanOf, IsSoughtSpan, IsBadAt, LacksNode, TellsRows}

abbrev pub row_fault : Place → FetchFault
row_fault place = fault.BadRow place.region place.at

abbrev pub index_fault : Place → FetchFault
index_fault place = fault.BadIndex place.region place.at

-- a fault that blames no byte of the log
abbrev pub NoDamage : FetchFault → Type 0
NoDamage fault.Failed = Unit {0}
NoDamage (fault.BadRow region at) = ⊥
NoDamage (fault.BadIndex region at) = ⊥
NoDamage fault.NoMemory = Unit {0}

-- a fault that blames a row
abbrev pub IsRowFault : FetchFault → Type 0
IsRowFault fault.Failed = ⊥
IsRowFault (fault.BadRow region at) = Unit {0}
IsRowFault (fault.BadIndex region at) = ⊥
IsRowFault fault.NoMemory = ⊥

-- a body of a part as it was read, which is the one that the eye tells, where it tells its bytes
abbrev pub IsBodyOf : Option Image → Part → List ℕ → Type 0
IsBodyOf known part body = IfTold known part (λ told. body ≡ told)

-- by the bytes that were read, a span is exactly these rows of the node
pub record HoldsRows (known : Option Image) (part : Part) (id : NodeId) (span : Span) (rows : List Row) : Type 0 where
  pub body : List ℕ
  pub is_body : IsBodyOf known part body
  pub holds : SpanHolds part.header body (row_span_of span) id rows
  pub long : rows_len rows ≡ span.end - span.at

-- a place of the disk at which, by the bytes that were read, a span of a node has a bad row
pub record IsBadRowOf (known : Option Image) (region_len : ℕ) (part : Part) (id : NodeId) (span : Span) (place : Place) : Type 0 where
  pub at : ℕ
  pub stands : place ≡ place_of region_len part.region part.header at
  pub body : List ℕ
  pub is_body : IsBodyOf known part body
  pub is_bad : IsBadInSpan part.header body (row_span_of span) id at

-- the span of a node in a part has a bad row at a place of the disk
pub record HasBadRow (known : Option Image) (region_len : ℕ) (part : Part) (id : NodeId) (place : Place) : Type 0 where
  pub span : Span
  pub is_span : IsSpanOf known part id span
  pub is_bad : IsBadRowOf known region_len part id span place

-- What was read of a node's rows in a part: none, where the search in its index comes to no entry of the node, or those of the span of the entry
-- to which it comes. Where the eye tells the part in the grammar, they are the node's rows there, whatever other parts are.
pub record ReadsRows (eye : Eye) (id : NodeId) (part : Part) (rows : List Row) : Type 0 where
  pub read : ((rows ≡ []) × LacksNode eye.told part id) ⊎ ((span : Span) × IsSoughtSpan eye.told part id span × HoldsRows eye.told part id span rows)
  pub exact : (own : List Row) → TellsRows eye part own → rows ≡ rows_of id own

-- A content is the replay of what was read of parts: of all of them, or of those from one with an image of the node on.
pub record IsReplayOf (eye : Eye) (parts : List Part) (id : NodeId) (found : Content) : Type 0 where
  pub skipped : List Part
  pub read : List (Part × List Row)
  pub whole : parts ≡ skipped ++ map (λ r. r.0) read
  pub each : AllByRecursion (λ r. ReadsRows eye id r.0 r.1) read
  pub why : (skipped ≡ []) ⊎ IsTrue (has_image_first read)
  pub replayed : found ≡ replay (base id) (flat_map (λ r. r.1) read)

-- the index of a part has a bad entry at a place of the disk
pub record HasBadEntry (known : Option Image) (region_len : ℕ) (part : Part) (place : Place) : Type 0 where
  pub at : ℕ
  pub stands : place ≡ place_of region_len part.region part.header at
  pub is_bad : IsBadAt known part at

-- The eye tells parts in the grammar that have their headers, with these rows in the order of the parts.
pub record TellsParts (eye : Eye) (parts : List Part) (rows : List Row) : Type 0 where
  pub image : Image
  pub told : eye.told ≡ Some image
  pub headers : AllByRecursion (λ p. HasHeader eye.region_len image p.region p.header) parts
  pub are_rows : AreRowsOf eye.region_len image parts rows

-- how many bytes one search in each of some parts may take, and the reading of their row areas besides
abbrev pub most_sought : List Part → ℕ
most_sought parts = sum_by (λ p. most_taken p.header.nodes) parts

abbrev pub most_read : List Part → ℕ
most_read parts = sum_by (λ p. most_taken p.header.nodes + p.header.area) parts
