-- An eye on a disk in memory as contracts see it.
use Rattle.std.specs.Prelude.{◌≡◌, ◌<◌, length, map, All, Some}
use Rattle.log_disk.specs.declared.mem.MemEye.TheInside.{Inside}
use Rattle.log_disk.specs.Disk.{Eye}
use Rattle.log_disk.specs.Plan.{PlannedEye}

abbrev pub eye_of : Inside → Eye
eye_of eye = record {
  number = eye.number;
  regions = eye.regions.items;
  region_len = eye.region_len;
  told = Some (map (λ shared. shared.value.items) eye.bytes.items);
  faults = eye.faults;
  taken = eye.taken;
}

abbrev pub planned_eye : Inside → PlannedEye
planned_eye eye = record { eye = eye_of eye; fails = eye.failing.items; reads = eye.reads }

-- each region that it names is there, and has its length
pub record IsEyeKeptWell (eye : Inside) : Type 0 where
  pub lengths : All (λ shared. length shared.value.items ≡ eye.region_len) eye.bytes.items
  pub named : All (λ region. region < length eye.bytes.items) eye.regions.items
