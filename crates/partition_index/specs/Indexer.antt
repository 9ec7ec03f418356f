-- An index that is written entry by entry.
use Rattle.std.specs.Prelude.{◌≡◌, ℕ, ◌+◌, ◌*◌, ◌<◌, ◌≤◌, true, false, IsTrue, List, [], ◌∷◌, ◌++◌, length, map, flat_map, Option, Some, None}
use Rattle.std.specs.List.{AllByRecursion}
use Rattle.fine_model.specs.declared.NodeId.{NodeId}
use Rattle.fine_model.specs.declared.Row.{Row}
use Rattle.fine_model.specs.Merge.{is_node_below, nodes_in}
use Rattle.fine_model.specs.RowBytes.{row_len, rows_len, index_entry}
use Rattle.partition_index.specs.Entries.{bytes_of, entry_for}
use Rattle.partition_index.specs.Index.{is_rising}
use Rattle.partition_index.specs.declared.entries.IndexEntry.{IndexEntry}

-- the entries of rows: those that are whole, and that of the last node
pub record BuiltTo (rows : List Row) (whole : List IndexEntry) (e : IndexEntry) : Type 0 where
  pub below : List NodeId
  pub nodes : nodes_in rows ≡ below ++ e.node ∷ []
  pub ascend : AllByRecursion (λ i. is_node_below i e.node ≡ true) below
  pub upto : AllByRecursion (λ r. is_node_below e.node r.node ≡ false) rows
  pub are : whole ≡ map (entry_for rows) below
  pub is : e ≡ entry_for rows e.node
  pub front : List Row
  pub row : Row
  pub ends : rows ≡ front ++ row ∷ []
  pub of_row : row.node ≡ e.node

abbrev pub IsBuilt : List Row → List IndexEntry → Option IndexEntry → Type 0
IsBuilt rows whole None = (rows ≡ []) × (whole ≡ [])
IsBuilt rows whole (Some e) = BuiltTo rows whole e

-- what was written so far, how much there is room for, the last entry, and the offset of the next row
pub record IndexerValue : Type 0 where
  pub bytes : List ℕ
  pub capacity : ℕ
  pub last : Option IndexEntry
  pub offset : ℕ

-- these rows were fed to an indexer that began behind these bytes
pub record Indexes (before : List ℕ) (rows : List Row) (value : IndexerValue) : Type 0 where
  pub whole : List IndexEntry
  pub bytes : value.bytes ≡ before ++ flat_map bytes_of whole
  pub built : IsBuilt rows whole value.last
  pub offset : value.offset ≡ rows_len rows

-- a row may be fed behind some rows: they ascend, have fewer than 2^32 bytes, and there is room for the index
pub record HasNext (value : IndexerValue) (node : NodeId) (len : ℕ) : Type 0 where
  pub before : List ℕ
  pub rows : List Row
  pub row : Row
  pub so_far : Indexes before rows value
  pub of_node : row.node ≡ node
  pub of_len : row_len row ≡ len
  pub rising : IsTrue (is_rising (rows ++ row ∷ []))
  pub small : rows_len (rows ++ row ∷ []) < 4294967296
  pub room : length before + index_entry * length (nodes_in (rows ++ row ∷ [])) ≤ value.capacity
