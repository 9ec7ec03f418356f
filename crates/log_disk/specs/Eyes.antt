-- The open eyes of a disk as contracts see them.
use Rattle.std.specs.Prelude.{ℕ, List, map}
use Rattle.std.specs.List.{range_with_len}
use Rattle.log_disk.specs.declared.eyes.OpenEye.{OpenEye as Opened}
use Rattle.log_disk.specs.declared.eyes.OpenEyes.{OpenEyes}
use Rattle.log_disk.specs.Disk.{OpenEye}

abbrev pub open_of : Opened → OpenEye
open_of eye = record { number = eye.number; regions = eye.regions.value.items }

abbrev pub eyes_in : OpenEyes → List OpenEye
eyes_in eyes = map open_of eyes.open.items

-- eyes are numbered from 1
abbrev pub numbers_to : ℕ → List ℕ
numbers_to given = range_with_len 1 given
