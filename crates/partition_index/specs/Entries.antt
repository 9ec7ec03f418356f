-- Index entries and spans as the definitions of the model have them, and their bytes.
use Rattle.std.specs.Prelude.{◌≡◌, ℕ, ◌<◌, ◌^◌, List, ◌++◌, length, filter}
use Rattle.std.specs.Int.{to_be_bytes, w16, w32}
use Rattle.fine_model.specs.declared.NodeId.{NodeId}
use Rattle.fine_model.specs.declared.Row.{Row}
use Rattle.fine_model.specs.Seek.{RowSpan}
use Rattle.fine_model.specs.Seek.{IndexEntry as ModelEntry, entry_of}
use Rattle.fine_model.specs.RowBytes.{rows_len}
use Rattle.fine_model.specs.Merge.{is_node_below}
use Rattle.fine_model.specs.Nodes.{rows_of}
use Rattle.partition_index.specs.declared.entries.IndexEntry.{IndexEntry}
use Rattle.partition_index.specs.declared.entries.Span.{Span}

abbrev pub model_of : IndexEntry → ModelEntry
model_of entry = record { node = entry.node; offset = entry.offset; rows = entry.rows }

abbrev pub row_span_of : Span → RowSpan
row_span_of span = record { at = span.at; end = span.end; rows = span.rows }

-- the 14 bytes of an entry
unfoldable pub bytes_of : IndexEntry → List ℕ
bytes_of entry =
    to_be_bytes w16 entry.node.bucket ++ to_be_bytes w32 entry.node.number
    ++ to_be_bytes w32 entry.offset ++ to_be_bytes w32 entry.rows

-- the entry of a node among rows: the offset of its first row and the number of its rows
abbrev pub entry_for : List Row → NodeId → IndexEntry
entry_for rows id = record {
  node = id;
  offset = rows_len (filter (λ r. is_node_below r.node id) rows);
  rows = length (rows_of id rows);
}

-- an entry's bytes are read again
abbrev pub EntryLaw : Type 0
EntryLaw =
    (entry : IndexEntry) → entry.node.bucket < 2 ^ 16 → entry.node.number < 2 ^ 32 → entry.offset < 2 ^ 32 → entry.rows < 2 ^ 32
    → entry_of (bytes_of entry) 0 ≡ model_of entry
