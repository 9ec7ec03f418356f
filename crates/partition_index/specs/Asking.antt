-- What reading an entry of an index asks.
use Rattle.std.specs.Prelude.{◌≡◌, ℕ, ◌<◌}
use Rattle.log_disk.specs.Disk.{Eye}
use Rattle.fine_model.specs.declared.Part.{Part}
use Rattle.partition_index.specs.Parts.{IsSeen}

-- an eye sees the part, its regions have this length, and the part has an entry of this number
pub record AsksEntry (eye : Eye) (part : Part) (i len : ℕ) : Type 0 where
  pub seen : IsSeen eye part
  pub region_len : len ≡ eye.region_len
  pub there : i < part.header.nodes
