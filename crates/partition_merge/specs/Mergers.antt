-- Where a merger stands, and what it hands out.
use Rattle.std.specs.Prelude.{◌≡◌, ◌⊎◌, ◌↔◌, ℕ, ◌+◌, ◌-◌, ◌<◌, ◌≤◌, Bool, true, ◌&&◌, List, [], ◌∷◌, ◌++◌, length, min, sum_by, drop, filter, flat_map, IsTrue, Option, Some, None, option_map, ◌*◌}
use Rattle.std.specs.List.{AllByRecursion}
use Rattle.log_disk.specs.Disk.{Eye}
use Rattle.fine_model.specs.declared.NodeId.{NodeId}
use Rattle.fine_model.specs.declared.Part.{Part}
use Rattle.fine_model.specs.declared.Row.{Row}
use Rattle.fine_model.specs.Nodes.{rows_of}
use Rattle.fine_model.specs.Regions.{Image, Place}
use Rattle.fine_model.specs.RowBytes.{rows_len, index_entry}
use Rattle.fine_model.specs.Merge.{is_node_below, is_ordered, nodes_in, merged_node, merged}
use Rattle.partition_index.specs.declared.entries.IndexEntry.{IndexEntry}
use Rattle.partition_index.specs.declared.entries.Span.{Span}
use Rattle.partition_index.specs.Search.{IsEntryAt, IsSpanAt, TellsRows}
use Rattle.node_fetch.specs.Fetched.{HoldsRows, HasBadRow, HasBadEntry}
use Rattle.partition_merge.specs.declared.merger.Measure.{Measure}
use Rattle.partition_merge.specs.declared.merger.Merger.{Merger}
use Rattle.partition_merge.specs.declared.merger.Source.{Source}
use Rattle.partition_merge.specs.Windows.{HoldsAhead, nothing_ahead}
use Rattle.partition_merge.specs.Merging.{FitRows, first_node, follows, last_node, merged_of}

-- the rows of the nodes above one
abbrev pub behind : NodeId → List Row → List Row
behind id rows = filter (λ r. is_node_below id r.node) rows

-- what is kept of a source is its next entry, as far as an eye tells it
pub record IsEntryOf (known : Option Image) (source : Source) (head : IndexEntry × Span) : Type 0 where
  pub there : source.next < source.part.header.nodes
  pub entry : IsEntryAt known source.part source.next head.0
  pub span : IsSpanAt known source.part source.next head.1

-- so of what may be kept
abbrev pub KeepsHead : Option Image → Source → Option (IndexEntry × Span) → Type 0
KeepsHead known source None = Unit {0}
KeepsHead known source (Some head) = IsEntryOf known source head

-- so of a source, and what was read ahead of its part
abbrev pub IsKept : Option Image → Source → Type 0
IsKept known source = KeepsHead known source source.head × HoldsAhead known source.part source.ahead

-- so of both sources of a merger
abbrev pub AreKept : Option Image → Merger → Type 0
AreKept known merger = IsKept known merger.older × IsKept known merger.newer

-- the node of the entry that is kept
abbrev pub node_kept : Option (IndexEntry × Span) → Option NodeId
node_kept head = option_map (λ h. h.0.node) head

-- how many nodes are left
abbrev pub nodes_left : Source → ℕ
nodes_left source = source.part.header.nodes - source.next

-- how many nodes are left of both parts
abbrev pub both_left : Merger → ℕ
both_left merger = nodes_left merger.older + nodes_left merger.newer

-- the parts of a merger
abbrev pub older_part : Merger → Part
older_part merger = merger.older.part

abbrev pub newer_part : Merger → Part
newer_part merger = merger.newer.part

-- how many index entries are still to be read: those of the nodes that are left, but for the one that is kept
abbrev pub kept_count : Option (IndexEntry × Span) → ℕ
kept_count None = 0
kept_count (Some head) = 1

-- so of a source, and of both
abbrev pub unread : Source → ℕ
unread source = nodes_left source - kept_count source.head

abbrev pub both_unread : Merger → ℕ
both_unread merger = unread merger.older + unread merger.newer

-- how many bytes the rows of the next node have in both parts
abbrev pub own_len : Option NodeId → List Row → List Row → ℕ
own_len None older newer = 0
own_len (Some id) older newer = rows_len (rows_of id older) + rows_len (rows_of id newer)

-- so of the first node that two lists have
abbrev pub next_len : List Row → List Row → ℕ
next_len older newer = own_len (first_node older newer) older newer

-- how many bytes the next node may take
abbrev pub most_for : Merger → ℕ
most_for merger = 4 * index_entry + merger.older.part.header.area + merger.newer.part.header.area

-- a bad row of a node, or a bad entry, in one of the parts
pub record BlamesRow (known : Option Image) (merger : Merger) (place : Place) : Type 0 where
  pub node : NodeId
  pub is_bad : HasBadRow known merger.region_len (older_part merger) node place ⊎ HasBadRow known merger.region_len (newer_part merger) node place

-- a bad entry in one of the parts
pub record BlamesEntry (known : Option Image) (merger : Merger) (place : Place) : Type 0 where
  pub is_bad : HasBadEntry known merger.region_len (older_part merger) place ⊎ HasBadEntry known merger.region_len (newer_part merger) place

-- A part has no rows of a node, as far as its next entry says: no node is left of it, or the next one is above.
abbrev pub IsPast : Option Image → NodeId → Source → Type 0
IsPast known id source =
    (nodes_left source ≡ 0) ⊎ ((entry : IndexEntry) × IsEntryAt known source.part source.next entry × (is_node_below id entry.node ≡ true))

-- Nothing is read of a part that has no rows of the node, and no node less is left.
pub record PassesOver (known : Option Image) (id : NodeId) (before after : Source) (rows : List Row) : Type 0 where
  pub none : rows ≡ []
  pub past : IsPast known id before
  pub stays : after.next ≡ before.next
  pub as_many : nodes_left after ≡ nodes_left before

-- The rows of the next entry's span are read, which names the node, and one node less is left.
pub record TakesSpan (known : Option Image) (id : NodeId) (before after : Source) (rows : List Row) : Type 0 where
  pub there : before.next < before.part.header.nodes
  pub entry : IndexEntry
  pub is_entry : IsEntryAt known before.part before.next entry
  pub names : entry.node ≡ id
  pub span : Span
  pub is_span : IsSpanAt known before.part before.next span
  pub holds : HoldsRows known before.part id span rows
  pub moves : after.next ≡ before.next + 1
  pub one_less : nodes_left after + 1 ≡ nodes_left before

-- what was read of a part for a node
unfoldable pub TakesRows : Option Image → NodeId → Source → Source → List Row → Type 0
TakesRows known id before after rows = PassesOver known id before after rows ⊎ TakesSpan known id before after rows

-- Rows, of which there are some, are what the rows of one node are merged into, as they were read of both parts.
pub record IsJoinOf (known : Option Image) (before after : Merger) (rows : List Row) : Type 0 where
  pub node : NodeId
  pub older : List Row
  pub newer : List Row
  pub of_older : TakesRows known node before.older after.older older
  pub of_newer : TakesRows known node before.newer after.newer newer
  pub joined : rows ≡ merged_of node (older ++ newer)
  pub some : 1 ≤ length rows

-- a source of which nothing was read
abbrev pub start_at : Part → Source
start_at part = record { part = part; next = 0; head = None; ahead = nothing_ahead }

-- a merger of two parts that has read nothing, and one of the same parts as another's
abbrev pub at_front : Part → Part → ℕ → Merger
at_front older newer region_len = record {
  older = start_at older;
  newer = start_at newer;
  region_len = region_len;
}

-- a merger of the same parts as another, at their front
abbrev pub start_of : Merger → Merger
start_of merger = at_front (older_part merger) (newer_part merger) merger.region_len

-- What a merger hands out, node after node, as it was read of both parts, until no node is left of them.
abbrev pub JoinsAll : Option Image → Merger → List (List Row) → Type 0
JoinsAll known merger [] = both_left merger ≡ 0
JoinsAll known merger (rows ∷ later) =
    (next : Merger) × (older_part next ≡ older_part merger) × (newer_part next ≡ newer_part merger) × IsJoinOf known merger next rows × JoinsAll known next later

-- all rows of some lists
abbrev pub all_of : List (List Row) → List Row
all_of joins = flat_map (λ rows. rows) joins

-- each list begins with a higher node than that with which the one before it ends
abbrev pub are_apart : Option NodeId → List (List Row) → Bool
are_apart last [] = true
are_apart last (rows ∷ later) = follows last rows && are_apart (last_node rows) later

-- A measure is that of what a merger hands out: the rows of all nodes, the nodes, the bytes of the rows, and whether all rows together are in
-- order, with no node in two lists. A number that is above the greatest of 32 bits is told as this one.
pub record IsMeasureOf (known : Option Image) (merger : Merger) (measure : Measure) : Type 0 where
  pub joins : List (List Row)
  pub all : JoinsAll known merger joins
  pub rows : measure.rows ≡ min (sum_by length joins) 4294967295
  pub nodes : measure.nodes ≡ min (length joins) 4294967295
  pub area : measure.area ≡ min (sum_by rows_len joins) 4294967295
  pub ordered : measure.ordered ≡ (is_ordered (flat_map (λ rows. rows) joins) && are_apart None joins)

-- of some rows, those of the nodes from one on are left
pub record IsLeft (rows : List Row) (next : ℕ) (left : List Row) : Type 0 where
  pub nodes : nodes_in left ≡ drop next (nodes_in rows)
  pub own : AllByRecursion (λ id. rows_of id left ≡ rows_of id rows) (nodes_in left)
  pub ordered : IsTrue (is_ordered left)
  pub fit : FitRows left

-- the eye tells the part of a source, in the grammar, and these of its rows are left
pub record SourceAt (eye : Eye) (source : Source) (left : List Row) : Type 0 where
  pub rows : List Row
  pub tells : TellsRows eye source.part rows
  pub is_left : IsLeft rows source.next left

-- so of both sources of a merger
pub record StandsAt (eye : Eye) (merger : Merger) (older newer : List Row) : Type 0 where
  pub of_older : SourceAt eye merger.older older
  pub of_newer : SourceAt eye merger.newer newer

-- the merged rows of the next node, behind which the merger stands then
pub record HandsOut (eye : Eye) (merger : Merger) (older newer rows : List Row) : Type 0 where
  pub node : NodeId
  pub first : first_node older newer ≡ Some node
  pub is_merged : rows ≡ merged_node (older ++ newer) node
  pub left : StandsAt eye merger (behind node older) (behind node newer)
  pub together : merged older newer ≡ rows ++ merged (behind node older) (behind node newer)

-- none where both parts have no node left
abbrev pub Answers : Eye → Merger → List Row → List Row → Option (List Row) → Type 0
Answers eye merger older newer None = (older ≡ []) × (newer ≡ []) × StandsAt eye merger older newer
Answers eye merger older newer (Some rows) = HandsOut eye merger older newer rows

-- the numbers of rows and nodes, the bytes of the rows, and whether they are in order
abbrev pub measure_of : List Row → Measure
measure_of rows = record { rows = length rows; nodes = length (nodes_in rows); area = rows_len rows; ordered = is_ordered rows }

-- the numbers of a measure are 0 together, and there are no more nodes than rows
pub record IsCounted (measure : Measure) : Type 0 where
  pub few : measure.nodes ≤ measure.rows
  pub nodes : (measure.nodes ≡ 0) ↔ (measure.rows ≡ 0)
  pub area : (measure.area ≡ 0) ↔ (measure.rows ≡ 0)
