-- One region of a disk in memory.
use Rattle.std.specs.Prelude.{ℕ, List, Option, Some, None}
use Rattle.log_disk.specs.declared.mem.region.Region.{Region}

-- what was kept, or else what is there
abbrev pub kept_or : {A : Type 0} → (A → List ℕ) → List ℕ → Option A → List ℕ
kept_or bytes there None = there
kept_or bytes there (Some kept) = bytes kept

-- what a read gives
abbrev pub bytes_of : Region → List ℕ
bytes_of region = region.bytes.value.items

-- what the last sync left
abbrev pub synced_of : Region → List ℕ
synced_of region = kept_or (λ kept. kept.value.items) region.bytes.value.items region.synced
