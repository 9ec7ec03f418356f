-- What the steps of a merge make of a room.
use Rattle.std.specs.Prelude.{◌≡◌, ℕ, ◌+◌, ◌-◌, ◌*◌, ◌≤◌, ◌==◌, nat_le, false, if◌then◌else◌, List, [], ◌∷◌, ◌++◌, length, find, take, drop, replicate, slice_index, Option, Some, None, option_map, Result, Ok, Err, IsErr}
use Rattle.std.specs.List.{range_with_len}
use Rattle.fine_model.specs.declared.Header.{Header}
use Rattle.fine_model.specs.declared.Job.{Job}
use Rattle.fine_model.specs.declared.Mark.TheVariants as mark
use Rattle.fine_model.specs.declared.Part.{Part}
use Rattle.fine_model.specs.declared.law.RoomState.{RoomState}
use Rattle.fine_model.specs.RowBytes.{most_regions, index_entry}
use Rattle.fine_model.specs.Merge.{fits_in}
use Rattle.fine_model.specs.Boards.{set_of}
use Rattle.fine_model.specs.Jobs.{job_left, held_for, KeepsJob}
use Rattle.partition_merge.specs.declared.merger.Measure.{Measure}
use Rattle.epoch_room.specs.BodyWrites.{lying_in}
use Rattle.epoch_room.specs.Gate.{DirtiesOnly, LeavesBehind, ReadsBehind}
use Rattle.epoch_room.specs.Value.{RoomValue}
use Rattle.log_disk.specs.Disk.{SameBeside}
use Rattle.epoch_room.specs.Steps.{Does, Shuts, WasShut}
use Rattle.epoch_room.specs.Meaning.{Keeps}
use Rattle.epoch_room.specs.declared.answers.RoomFault.{RoomFault}
use Rattle.epoch_room.specs.declared.answers.RoomFault.TheVariants as room_fault

-- the same room, but for the merge that is out and what is free; the disk was not called
abbrev pub with_job : RoomValue → Option Job → List ℕ → RoomValue
with_job value job free = record value { room = record value.room { job = job; free = free } }

-- ---- picking

-- a job of two parts that has taken no region
abbrev pub fresh_job : Part × Part → Job
fresh_job two = record { older = two.0; newer = two.1; header = None; target = 0; written = 0 }

-- the first two neighbours whose older part begins at an epoch or later
abbrev pub with_next : Part → List Part → Option (Part × Part)
with_next older [] = None
with_next older (newer ∷ parts) = Some (older, newer)

unfoldable pub neighbours_from : ℕ → List Part → Option (Part × Part)
neighbours_from from [] = None
neighbours_from from (p ∷ parts) = if nat_le from p.header.range.first then with_next p parts else neighbours_from from parts

-- none of a shut room
abbrev pub picked : RoomState → ℕ → Option Job
picked room from = if room.is_shut then None else option_map fresh_job (neighbours_from from room.parts)

-- ---- taking regions

-- how many bytes rows of a measure and their index take
abbrev pub measured_len : Measure → ℕ
measured_len measure = measure.area + index_entry * measure.nodes

-- the least number of regions, up to eight, in which so many bytes fit
abbrev pub regions_needed : ℕ → ℕ → Option ℕ
regions_needed region_len len = find (λ k. fits_in region_len k len) (range_with_len 1 most_regions)

-- a number, where no more are needed than there are
abbrev pub if_enough : ℕ → Option ℕ → Option ℕ
if_enough most None = None
if_enough most (Some k) = if nat_le k most then Some k else None

-- how many free regions merged rows of a measure take: none where they are not in order, too few are free, or no number of regions is enough
abbrev pub regions_for_job : RoomState → Measure → Option ℕ
regions_for_job room measure = if measure.ordered then if_enough (length room.free) (regions_needed room.region_len (measured_len measure)) else None

-- the header of a job's part: rows of a measure over so many regions, the lowest of those that are free
unfoldable pub header_over : Job → Measure → ℕ → List ℕ → Header
header_over job measure regions free = record {
  mark = if regions == 1 then mark.Two else mark.Three;
  range = record { first = job.older.header.range.first; last = job.newer.header.range.last };
  rows = measure.rows;
  nodes = measure.nodes;
  area = measure.area;
  regions = regions;
  more = take (regions - 1) (drop 1 free) ++ replicate (7 - (regions - 1)) 0;
}

abbrev pub taken_job : Job → Measure → ℕ → List ℕ → Job
taken_job job measure regions free = record job { header = Some (header_over job measure regions free); target = slice_index free 0 }

-- a job with its regions, or as it was
abbrev pub job_after : Job → Measure → List ℕ → Option ℕ → Job
job_after job measure free None = job
job_after job measure free (Some regions) = taken_job job measure regions free

abbrev pub free_after : List ℕ → Option ℕ → List ℕ
free_after free None = free
free_after free (Some regions) = drop regions free

-- ---- giving a job up

-- what is free once a job is given up: its regions too, but for those that a failed call was writing
abbrev pub free_dropped : RoomState → List ℕ
free_dropped room = set_of (room.free ++ job_left room)

-- ---- writing

abbrev pub written_on : Job → ℕ → Job
written_on job n = record job { written = job.written + n }

-- the regions in which bytes of a body lie that are written behind those which are there: one or two, and none without bytes
abbrev pub touched : ℕ → Job → Header → ℕ → List ℕ
touched region_len job header n = lying_in region_len job.target header job.written n

-- Bytes stand in the job's target behind those that stood there. A failure leaves the job as it was, and what was being written is lost.
abbrev pub WritesOr : List ℕ → RoomValue → RoomValue → Job → Job → Header → Result (Unit {0}) RoomFault → Type 0
WritesOr bytes old new job job' header (Ok u) =
    (job' ≡ written_on job (length bytes)) × Does (record old.room { job = Some (written_on job (length bytes)) }) old.target old new
    × (held_for new.room.image (written_on job (length bytes)) ≡ option_map (λ held. held ++ bytes) (held_for old.room.image job))
WritesOr bytes old new job job' header (Err room_fault.Disk) = (job' ≡ job) × Shuts old.room old.target (touched old.room.region_len job header (length bytes)) old new
WritesOr bytes old new job job' header (Err (room_fault.Shut epoch)) = (job' ≡ job) × WasShut epoch old new
WritesOr bytes old new job job' header (Err room_fault.NoMemory) = (job' ≡ job) × Does old.room old.target old new × KeepsJob old.room new.room

-- all that writing for a merge does
pub record WritesJob (bytes : List ℕ) (old new : RoomValue) (job job' : Job) (header : Header) (result : Result (Unit {0}) RoomFault) : Type 0 where
  pub room : WritesOr bytes old new job job' header result
  -- the job stays out
  pub out : new.room.job ≡ Some job'
  -- without bytes nothing is refused but by a shut room
  pub some : old.room.is_shut ≡ false → IsErr result → 1 ≤ length bytes
  -- no other region is touched; a crash leaves what it could leave before, torn behind the gates of these
  pub dirties : DirtiesOnly (touched old.room.region_len job header (length bytes)) old.disk new.disk
  pub read : ReadsBehind (touched old.room.region_len job header (length bytes)) old.disk new.disk
  pub leaves : LeavesBehind (touched old.room.region_len job header (length bytes)) old.disk new.disk
  pub beside : SameBeside old.disk new.disk
  pub keeps : Keeps old new
