-- The index of rows.
use Rattle.std.specs.Prelude.{◌≡◌, ℕ, ◌+◌, ◌≤◌, length, Bool, true, false, not, ◌&&◌, List, [], ◌∷◌, ◌++◌, map, flat_map, IsTrue, Option, Some, None, if◌then◌else◌}
use Rattle.std.specs.List.{AllByRecursion}
use Rattle.fine_model.specs.declared.NodeId.{NodeId}
use Rattle.fine_model.specs.declared.Row.{Row}
use Rattle.fine_model.specs.RowBytes.{rows_len}
use Rattle.fine_model.specs.Merge.{is_node_below, is_row_below, is_ordered, nodes_in}
use Rattle.fine_model.specs.Regions.{index_bytes}
use Rattle.fine_model.specs.Nodes.{is_node}
use Rattle.partition_index.specs.Entries.{entry_for, bytes_of}
use Rattle.partition_index.specs.declared.entries.IndexEntry.{IndexEntry}

-- rows ascend by bucket, number and version, where equal ones may follow each other
abbrev pub is_rising : List Row → Bool
is_rising [] = true
is_rising (r ∷ []) = true
is_rising (r ∷ s ∷ rows) = not (is_row_below s r) && is_rising (s ∷ rows)

-- no row's node is below this one
abbrev pub AllFrom : NodeId → List Row → Type 0
AllFrom id rows = AllByRecursion (λ r. is_node_below r.node id ≡ false) rows

-- one entry for each node, in order
unfoldable pub entries_of : List Row → List IndexEntry
entries_of rows = map (entry_for rows) (nodes_in rows)

abbrev pub first_of : NodeId → ℕ → IndexEntry
first_of id offset = record { node = id; offset = offset; rows = 1 }

-- The entries that are whole, and the last one, after a row more: a row of the last entry's node counts to it, and with any other
-- row it is whole.
abbrev pub opened : List IndexEntry → Option IndexEntry → NodeId → ℕ → List IndexEntry × IndexEntry
opened whole None id offset = (whole, first_of id offset)
opened whole (Some e) id offset = if is_node e.node id then (whole, record { node = e.node; offset = e.offset; rows = e.rows + 1 }) else (whole ++ e ∷ [], first_of id offset)

-- the entries with the last one behind them
abbrev pub closed : List IndexEntry → Option IndexEntry → List IndexEntry
closed whole None = whole
closed whole (Some e) = whole ++ e ∷ []

-- the bytes of the entries are those of the index
abbrev pub IndexLaw : Type 0
IndexLaw = (rows : List Row) → flat_map bytes_of (entries_of rows) ≡ index_bytes rows

-- rows in strict order ascend
abbrev pub RisingLaw : Type 0
RisingLaw = (rows : List Row) → IsTrue (is_ordered rows) → IsTrue (is_rising rows)

-- ---- node by node

-- the rows of a node, behind rows of lower nodes
pub record IsNextNode (rows : List Row) (id : NodeId) (own : List Row) : Type 0 where
  pub some : 1 ≤ length own
  pub all_own : AllByRecursion (λ r. r.node ≡ id) own
  pub below : AllByRecursion (λ r. is_node_below r.node id ≡ true) rows

-- nodes with their rows, in order, behind rows
abbrev pub AreNextNodes : List Row → List (NodeId × List Row) → Type 0
AreNextNodes rows [] = Unit {0}
AreNextNodes rows (piece ∷ pieces) = IsNextNode rows piece.0 piece.1 × AreNextNodes (rows ++ piece.1) pieces

abbrev pub entry_at : ℕ → NodeId → List Row → IndexEntry
entry_at offset id own = record { node = id; offset = offset; rows = length own }

-- the entries of nodes: each begins where the rows before it end
unfoldable pub entries_from : ℕ → List (NodeId × List Row) → List IndexEntry
entries_from offset [] = []
entries_from offset (piece ∷ pieces) = entry_at offset piece.0 piece.1 ∷ entries_from (offset + rows_len piece.1) pieces

abbrev pub rows_in : List (NodeId × List Row) → List Row
rows_in pieces = flat_map (λ piece. piece.1) pieces

-- with the rows of one node more the index has one entry more, and the others stay
pub record HasEntryMore (rows : List Row) (id : NodeId) (own : List Row) : Type 0 where
  pub nodes : nodes_in (rows ++ own) ≡ nodes_in rows ++ id ∷ []
  pub entries : entries_of (rows ++ own) ≡ entries_of rows ++ entry_at (rows_len rows) id own ∷ []
  pub bytes : index_bytes (rows ++ own) ≡ index_bytes rows ++ bytes_of (entry_at (rows_len rows) id own)

abbrev pub NextNodeLaw : Type 0
NextNodeLaw = (rows : List Row) (id : NodeId) (own : List Row) → IsNextNode rows id own → HasEntryMore rows id own

-- so the index of rows that stand node by node is that of their nodes, one after the other
pub record IsIndexOf (pieces : List (NodeId × List Row)) : Type 0 where
  pub nodes : nodes_in (rows_in pieces) ≡ map (λ piece. piece.0) pieces
  pub entries : entries_of (rows_in pieces) ≡ entries_from 0 pieces
  pub bytes : index_bytes (rows_in pieces) ≡ flat_map bytes_of (entries_from 0 pieces)

abbrev pub PiecesLaw : Type 0
PiecesLaw = (pieces : List (NodeId × List Row)) → AreNextNodes [] pieces → IsIndexOf pieces
