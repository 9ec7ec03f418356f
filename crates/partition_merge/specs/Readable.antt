-- What reading a source asks.
use Rattle.std.specs.Prelude.{◌≡◌, ℕ}
use Rattle.log_disk.specs.Disk.{Eye}
use Rattle.partition_index.specs.Parts.{IsSeen}
use Rattle.partition_merge.specs.declared.merger.Source.{Source}
use Rattle.partition_merge.specs.Mergers.{IsKept}

-- a source of a part that an eye sees, with no more kept of it than the eye tells
pub record IsReadable (eye : Eye) (len : ℕ) (source : Source) : Type 0 where
  pub seen : IsSeen eye source.part
  pub region_len : len ≡ eye.region_len
  pub kept : IsKept eye.told source
