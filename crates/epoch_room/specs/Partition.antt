-- The open epoch's rows as a partition.
use Rattle.std.specs.Prelude.{◌≡◌, ℕ, ◌≤◌, List, IsPermutation}
use Rattle.std.specs.List.Sorted.{IsSortedBy}
use Rattle.fine_model.specs.declared.Row.{Row}
use Rattle.fine_model.specs.declared.Range.{Range}
use Rattle.fine_model.specs.Merge.{is_row_below, encoded_len}
use Rattle.fine_model.specs.Regions.{header_of, partition_bytes}
use Rattle.log_partition.specs.declared.encoding.Partition.{Partition}

-- the rows in the order of node and version
pub record IsArranged (rows arranged : List Row) : Type 0 where
  pub permuted : IsPermutation rows arranged
  pub sorted : IsSortedBy is_row_below arranged

-- the header and the bytes of a partition of these rows, arranged
pub record IsPartitionOf (region_len : ℕ) (range : Range) (rows : List Row) (partition : Partition) : Type 0 where
  pub header : partition.header ≡ header_of range rows
  pub sorted : List Row
  pub is_arranged : IsArranged rows sorted
  pub within : encoded_len sorted ≤ region_len
  pub bytes : partition.bytes.items ≡ partition_bytes region_len range sorted
