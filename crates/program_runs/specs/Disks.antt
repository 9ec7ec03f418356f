-- The disks that a run takes and leaves.
use Rattle.std.specs.Prelude.{◌≡◌, []}
use Rattle.log_disk.specs.Disk.{Disk}
use Rattle.command_words.specs.Words.{IsGeometry}

-- a disk with a geometry, of which no eye is open, as a run leaves it
abbrev pub IsLeft : Disk → Type 0
IsLeft disk = IsGeometry (disk.regions, disk.region_len) × (disk.eyes ≡ [])

-- and nothing on it is unsynced, as a run wants it
abbrev pub IsReady : Disk → Type 0
IsReady disk = IsGeometry (disk.regions, disk.region_len) × (disk.unsynced ≡ []) × (disk.eyes ≡ [])

-- its geometry stays, and no eye is open
abbrev pub KeepsGeometry : Disk → Disk → Type 0
KeepsGeometry old new = (new.regions ≡ old.regions) × (new.region_len ≡ old.region_len) × (new.eyes ≡ [])
