-- What contracts cite of the crates below, from one place. Declares nothing.
pub use Rattle.log_disk.specs.Disk.{Eye}
pub use Rattle.fine_model.specs.declared.Part.{Part}
pub use Rattle.fine_model.specs.declared.Row.{Row}
pub use Rattle.fine_model.specs.Merge.{is_node_below, merged}
pub use Rattle.fine_model.specs.Nodes.{rows_of}
pub use Rattle.fine_model.specs.Regions.{Image, body_len}
pub use Rattle.fine_model.specs.RowBytes.{FitsRec, index_entry, row_bytes, rows_len}
pub use Rattle.fine_model.specs.Seek.{entry_place}
pub use Rattle.partition_index.specs.Asking.{AsksEntry}
pub use Rattle.partition_index.specs.Entries.{bytes_of}
pub use Rattle.partition_index.specs.Index.{AllFrom}
pub use Rattle.partition_index.specs.Parts.{CountsFaults, IsSeen, LiesIn, SameEye}
pub use Rattle.partition_index.specs.Search.{IsEndOf, IsEntryAt, IsRangeAt, IsSpanAt, Searches, TellsRows, span_for}
pub use Rattle.node_fetch.specs.Fetched.{HasBadEntry, HasBadRow, IsBadRowOf, NoDamage}
