-- What writing a partition answers.
use Rattle.std.specs.Prelude.{◌≡◌, ℕ, ◌+◌, ◌*◌, ◌≤◌, min, Bool, false, List, [], ◌∷◌, ◌++◌, length, map, Option, Some, None, IsTrue, if◌then◌else◌}
use Rattle.std.specs.List.{AllByRecursion, list_any}
use Rattle.fine_model.specs.declared.NodeId.{NodeId}
use Rattle.fine_model.specs.declared.Range.{Range}
use Rattle.fine_model.specs.declared.Row.{Row}
use Rattle.fine_model.specs.declared.Mark.TheVariants as mark
use Rattle.fine_model.specs.RowBytes.{greatest, FitsRow, longest_region, index_entry}
use Rattle.fine_model.specs.Merge.{is_node_below, is_ordered, nodes_in, encoded_len}
use Rattle.fine_model.specs.Nodes.{is_node}
use Rattle.fine_model.specs.Regions.{Image, region_of, sealed_gate, header_of, partition_bytes, IsSealed}
use Rattle.node_record.specs.Keys.{AreKeysOf}
use Rattle.node_record.specs.declared.key.RowAt.{RowAt}
use Rattle.partition_index.specs.Index.{is_rising}
use Rattle.log_partition.specs.declared.encoding.Partition.{Partition}

-- a number, or the greatest of 64 bits where it is above that
abbrev pub saturated : ℕ → ℕ
saturated n = min n 18446744073709551615

-- rows name a node
abbrev pub names : NodeId → List Row → Bool
names id rows = list_any (is_node id) (map (λ row. row.node) rows)

-- the greatest node that rows name
abbrev pub IsGreatestOf : List Row → Option NodeId → Type 0
IsGreatestOf rows None = rows ≡ []
IsGreatestOf rows (Some id) = IsTrue (names id rows) × AllByRecursion (λ row. is_node_below id row.node ≡ false) rows

abbrev pub greater : Option NodeId → NodeId → Option NodeId
greater None id = Some id
greater (Some other) id = if is_node_below other id then Some id else Some other

-- the epochs of a partition
pub record FitsRange (range : Range) : Type 0 where
  pub low : 1 ≤ range.first
  pub order : range.first ≤ range.last
  pub high : range.last ≤ greatest

-- rows lie in bytes where their keys say, ascend, and fit a partition of one region
pub record AreRowsAt (region_len : ℕ) (bytes : List ℕ) (keys : List RowAt) (rows : List Row) : Type 0 where
  pub are : AreKeysOf bytes rows keys
  pub rising : IsTrue (is_rising rows)
  pub within : encoded_len rows ≤ region_len

-- behind so many bytes there is room for the index of rows that have these keys
pub record HasIndexRoom (len capacity : ℕ) (keys : List RowAt) : Type 0 where
  pub bytes : List ℕ
  pub rows : List Row
  pub at : AreRowsAt longest_region bytes keys rows
  pub room : len + index_entry * length (nodes_in rows) ≤ capacity

-- the header and the bytes of a partition of rows
pub record IsEncoded (region_len : ℕ) (range : Range) (rows : List Row) (partition : Partition) : Type 0 where
  pub header : partition.header ≡ header_of range rows
  pub bytes : partition.bytes.items ≡ partition_bytes region_len range rows

-- a node is that of the row before
abbrev pub is_last : Option NodeId → NodeId → Bool
is_last None id = false
is_last (Some other) id = is_node other id

-- behind an open gate the bytes of a partition of rows that ascend strictly are in the grammar, whatever follows them
abbrev pub EncodeLaw : Type 0
EncodeLaw =
    (region_len : ℕ) (range : Range) (rows : List Row) (image : Image) (lead : ℕ) (rest : List ℕ) → region_len ≤ longest_region → FitsRange range → AllByRecursion (FitsRow mark.Two) rows → IsTrue (is_ordered rows)
    → encoded_len rows ≤ region_len → region_of image lead ≡ (sealed_gate ∷ partition_bytes region_len range rows) ++ rest → IsSealed region_len image lead range rows
