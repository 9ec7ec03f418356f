-- A disk in memory as contracts see it.
use Rattle.std.specs.Prelude.{◌≡◌, ℕ, ◌<◌, List, length, map, Some, vec_len, vec_capacity}
use Rattle.log_disk.specs.declared.mem.Written.{Written}
use Rattle.log_disk.specs.declared.mem.Present.{Present}
use Rattle.log_disk.specs.Eyes.{eyes_in, numbers_to}
use Rattle.log_disk.specs.declared.mem.MemDisk.TheInside.{Inside}
use Rattle.log_disk.specs.Disk.{Image, region_of, Span, Moment, Told, Disk, IsImageAt, AreNumbered}
use Rattle.log_disk.specs.Region.{bytes_of, synced_of}
use Rattle.log_disk.specs.Plan.{PlannedDisk}
use Rattle.log_disk.specs.Schedule.{plan_of, calls_of}

abbrev pub range_of : Written → Span
range_of written = record { region = written.region; from = written.from; end = written.end }

abbrev pub image_of : Present → Image
image_of present = map bytes_of present.regions.items

abbrev pub synced_image_of : Present → Image
synced_image_of present = map synced_of present.regions.items

abbrev pub ranges_of : Present → List Span
ranges_of present = map range_of present.unsynced.items

abbrev pub moment_of : Present → Moment
moment_of present = record { synced = synced_image_of present; unsynced = ranges_of present }

abbrev pub told_of : Inside → Told
told_of disk = record {
  bytes = image_of disk.present;
  past = map (λ kept. moment_of kept.value) disk.past.items;
  present = moment_of disk.present;
}

abbrev pub disk_of : Inside → Disk
disk_of disk = record {
  regions = length disk.present.regions.items;
  region_len = disk.region_len;
  told = Some (told_of disk);
  unsynced = map (λ span. span.region) (ranges_of disk.present);
  eyes = eyes_in disk.eyes;
  given = numbers_to disk.eyes.given;
  faults = disk.faults.all;
  own_faults = disk.faults.own;
}

abbrev pub planned_disk : Inside → PlannedDisk
planned_disk disk = record { disk = disk_of disk; plan = plan_of disk.schedule.plan; calls = calls_of disk.schedule }

-- Each region has its length, what a read gives is an image that a crash may leave, there is room for the entry of a sync
-- that finds something unsynced, and the open eyes are numbered.
pub record IsKeptWell (disk : Inside) : Type 0 where
  pub few : length disk.present.regions.items < 4294967296
  pub lengths : (region : ℕ) → region < length disk.present.regions.items → length (region_of (image_of disk.present) region) ≡ disk.region_len
  pub image : IsImageAt (moment_of disk.present) (image_of disk.present)
  pub room : 0 < vec_len disk.present.unsynced → vec_len disk.past < vec_capacity disk.past
  pub eyes : AreNumbered (eyes_in disk.eyes) (numbers_to disk.eyes.given)
