-- What contracts cite of the crates below, from one place. Declares nothing.
pub use Rattle.std.specs.List.{AllByRecursion}
pub use Rattle.log_disk.specs.Disk.{Eye}
pub use Rattle.fine_model.specs.declared.Row.{Row}
pub use Rattle.fine_model.specs.BoundLaws.{FitsNode}
pub use Rattle.fine_model.specs.Merge.{merged}
pub use Rattle.fine_model.specs.Nodes.{content, rows_of}
pub use Rattle.fine_model.specs.Regions.{body_len}
pub use Rattle.fine_model.specs.RowBytes.{greatest, most_in_log, rows_len}
pub use Rattle.fine_model.specs.Views.{TellsRows}
pub use Rattle.partition_index.specs.Parts.{CountsFaults, IsSeen, LooksAt}
pub use Rattle.partition_index.specs.Search.{Searches}
