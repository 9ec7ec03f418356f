-- Merged rows in blocks, whatever is read: what was handed out is made of the lists of rows that were joined.
use Rattle.std.specs.Prelude.{◌≡◌, ◌⊎◌, ℕ, ◌+◌, ◌*◌, ◌<◌, Bool, true, false, IsTrue, List, [], ◌∷◌, ◌++◌, length, min, Option, Some}
use Rattle.std.specs.List.{AllByRecursion}
use Rattle.fine_model.specs.declared.Mark.TheVariants as mark
use Rattle.fine_model.specs.declared.NodeId.{NodeId}
use Rattle.fine_model.specs.declared.Part.{Part}
use Rattle.fine_model.specs.declared.Row.{Row}
use Rattle.fine_model.specs.Damages.{HasEntryWith, LacksEntry}
use Rattle.fine_model.specs.Merge.{is_ordered}
use Rattle.fine_model.specs.Nodes.{rows_of}
use Rattle.fine_model.specs.Regions.{Image, body_bytes, body_in}
use Rattle.fine_model.specs.RowBytes.{FitsRow, rows_bytes, rows_len, index_entry}
use Rattle.partition_index.specs.Entries.{bytes_of}
use Rattle.partition_index.specs.Index.{entry_at}
use Rattle.partition_merge.specs.declared.merger.Measure.{Measure}
use Rattle.partition_merge.specs.declared.merger.Merger.{Merger}
use Rattle.partition_merge.specs.Merging.{merged_of}
use Rattle.partition_merge.specs.Mergers.{IsMeasureOf, JoinsAll, all_of, at_front, both_left, measure_of}
use Rattle.partition_merge.specs.Blocks.{BlocksValue}

-- ---- the bytes of joined lists

-- the entry of the rows of one node, which begin at an offset
abbrev pub entry_of : ℕ → List Row → List ℕ
entry_of offset [] = []
entry_of offset (row ∷ rows) = bytes_of (entry_at offset row.node (row ∷ rows))

-- the index of lists of rows of one node each, which stand one behind the other from an offset on
abbrev pub index_from : ℕ → List (List Row) → List ℕ
index_from offset [] = []
index_from offset (rows ∷ later) = entry_of offset rows ++ index_from (offset + rows_len rows) later

-- An index has an entry for each list: its own one, as long as the rows have fewer than 2^32 bytes.
pub record IsIndexOf (joins : List (List Row)) (index : List ℕ) : Type 0 where
  pub long : length index ≡ index_entry * length joins
  pub entries : rows_len (all_of joins) < 4294967296 → index ≡ index_from 0 joins

-- the index is handed out once all nodes are
abbrev pub index_out : Bool → List ℕ → List ℕ
index_out false index = []
index_out true index = index

-- ---- blocks

-- What was handed out and what waits is made of the lists of rows that were joined so far, as they were read of both parts from where a
-- merger stood: their rows, and behind the last node their index. What is left goes on as the merger does.
pub record IsJoined (known : Option Image) (start : Merger) (blocks : BlocksValue) (handed : List ℕ) : Type 0 where
  pub joins : List (List Row)
  pub goes_on : (later : List (List Row)) → JoinsAll known blocks.merger later → JoinsAll known start (joins ++ later)
  pub index : List ℕ
  pub is_index : IsIndexOf joins index
  pub made : handed ++ blocks.waiting ≡ rows_bytes (all_of joins) ++ index_out blocks.is_whole index
  pub own_index : blocks.is_whole ≡ false → blocks.index ≡ index
  pub offset : blocks.offset ≡ min (rows_len (all_of joins)) 4294967295
  pub none_left : blocks.is_whole ≡ true → both_left blocks.merger ≡ 0

-- The body of all lists of rows that a merger hands out, node after node, until no node is left: their rows, and then their index.
pub record IsJoinedBody (known : Option Image) (start : Merger) (bytes : List ℕ) : Type 0 where
  pub joins : List (List Row)
  pub all : JoinsAll known start joins
  pub index : List ℕ
  pub is_index : IsIndexOf joins index
  pub made : bytes ≡ rows_bytes (all_of joins) ++ index

-- a block more, or all of them
abbrev pub GivesJoined : Option Image → Merger → BlocksValue → List ℕ → Bool → Type 0
GivesJoined known start blocks handed true = IsJoined known start blocks (handed ++ blocks.block)
GivesJoined known start blocks handed false = IsJoinedBody known start handed

-- ---- over bytes that are told

-- A merger of two parts hands out one list of lists of rows.
abbrev pub JoinsOnce : Type 0
JoinsOnce = (image : Image) (merger : Merger) (a b : List (List Row)) → JoinsAll (Some image) merger a → JoinsAll (Some image) merger b → a ≡ b

-- The rows of a node that a look for it finds in a part, which has an index in order: none, or those of the span of its entry.
abbrev pub IsFoundIn : Image → Part → NodeId → List Row → Type 0
IsFoundIn image p id rows = ((rows ≡ []) × LacksEntry p.header (body_in image p.region p.header) id) ⊎ HasEntryWith p.header (body_in image p.region p.header) id rows

-- rows are what the rows of a node are merged into that are found in two parts
pub record IsMergedOf (image : Image) (older newer : Part) (id : NodeId) (rows : List Row) : Type 0 where
  pub of_older : List Row
  pub of_newer : List Row
  pub found_older : IsFoundIn image older id of_older
  pub found_newer : IsFoundIn image newer id of_newer
  pub joined : rows ≡ merged_of id (of_older ++ of_newer)

-- Bytes are the body of rows in order, which a measure counts, and which may stand in a part of one region, and of several. Each node has
-- the rows into which those are merged that are found in both parts.
pub record IsBodyMeasured (image : Image) (older newer : Part) (measure : Measure) (bytes : List ℕ) : Type 0 where
  pub rows : List Row
  pub body : bytes ≡ body_bytes rows
  pub ordered : IsTrue (is_ordered rows)
  pub measured : measure ≡ measure_of rows
  pub fit : AllByRecursion (FitsRow mark.Two) rows × AllByRecursion (FitsRow mark.Three) rows
  pub each : (id : NodeId) → IsMergedOf image older newer id (rows_of id rows)

-- So is a body that is as long as a measure says, which says that the rows are in order: the two parts may be in the grammar or not.
abbrev pub BodyIsMeasured : Type 0
BodyIsMeasured =
    (image : Image) (older newer : Part) (region_len : ℕ) (measure : Measure) (bytes : List ℕ) → IsMeasureOf (Some image) (at_front older newer region_len) measure → measure.ordered ≡ true
    → IsJoinedBody (Some image) (at_front older newer region_len) bytes → length bytes ≡ measure.area + index_entry * measure.nodes
    → IsBodyMeasured image older newer measure bytes
