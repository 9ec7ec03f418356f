-- What opening a log tells of it.
use Rattle.std.specs.Prelude.{◌≡◌, List, Some, Ok}
use Rattle.log_disk.specs.Disk.{Disk, Told}
use Rattle.fine_model.specs.Damages.{IsUnsound}
use Rattle.fine_model.specs.declared.Part.{Part}
use Rattle.log_commands.specs.Found.{SeesLog}

-- a log that the disk tells is not sound
abbrev pub IsUnsoundLog : Disk → Type 0
IsUnsoundLog disk = (before : Told) → disk.told ≡ Some before → IsUnsound disk.region_len before.bytes

-- the chain of a log was found
abbrev pub IsOpenedLog : Disk → Type 0
IsOpenedLog disk = (parts : List Part) × SeesLog disk (Ok parts)
