-- What sealing a merged part asks, and what it makes of a room.
use Rattle.std.specs.Prelude.{◌≡◌, ℕ, ◌==◌, nat_lt, List, [], ◌∷◌, length, drop, if◌then◌else◌, IsTrue, None, Some, Result, Ok, Err, OnOk}
use Rattle.std.specs.List.{insert, position_or_len}
use Rattle.fine_model.specs.declared.Header.{Header}
use Rattle.fine_model.specs.declared.Job.{Job}
use Rattle.fine_model.specs.declared.Part.{Part}
use Rattle.fine_model.specs.declared.Row.{Row}
use Rattle.fine_model.specs.declared.law.RoomState.{RoomState}
use Rattle.fine_model.specs.ChainLaws.{part_of}
use Rattle.fine_model.specs.Jobs.{held_for, job_regions, KeepsJob}
use Rattle.fine_model.specs.Merge.{merged, is_ordered, nodes_in}
use Rattle.fine_model.specs.Regions.{Image, body_bytes, header_bytes}
use Rattle.fine_model.specs.RowBytes.{rows_len}
use Rattle.fine_model.specs.Views.{TellsRowsOf}
use Rattle.log_disk.specs.Disk.{SameBeside, with_bytes}
use Rattle.epoch_room.specs.Gate.{gate, DirtiesOnly, HasBytes, IsUngated, KeepsBeside, LeavesSealing}
use Rattle.epoch_room.specs.Meaning.{Keeps}
use Rattle.epoch_room.specs.Steps.{Does, Shuts, WasShut}
use Rattle.epoch_room.specs.Value.{RoomValue}
use Rattle.epoch_room.specs.declared.answers.RoomFault.{RoomFault}
use Rattle.epoch_room.specs.declared.answers.RoomFault.TheVariants as room_fault

-- ---- what is asked

-- what was written for a job is the body of the rows that two lists are merged into, which are in order, and its header counts them
pub record WritesMerged (image : Image) (job : Job) (header : Header) (older newer : List Row) : Type 0 where
  pub ordered : IsTrue (is_ordered (merged older newer))
  pub written : held_for (Some image) job ≡ Some (body_bytes (merged older newer))
  pub rows : header.rows ≡ length (merged older newer)
  pub nodes : header.nodes ≡ length (nodes_in (merged older newer))
  pub area : header.area ≡ rows_len (merged older newer)

-- So of all rows that a read of the disk tells of both parts. Nothing is asked where the disk does not tell its bytes, or a part is not in
-- the grammar.
abbrev pub IsWrittenOut : RoomState → Job → Header → Type 0
IsWrittenOut room job header =
    (older newer : List Row) (a : TellsRowsOf room.image room.region_len (job.older ∷ []) older) → TellsRowsOf room.image room.region_len (job.newer ∷ []) newer
    → WritesMerged a.image job header older newer

-- ---- what becomes of a room

-- a part in place of the one that a region leads and of the one behind it
unfoldable pub replaced : ℕ → Part → List Part → List Part
replaced lead p [] = []
replaced lead p (q ∷ parts) = if q.region == lead then p ∷ drop 1 parts else q ∷ replaced lead p parts

-- a part before the first one with a higher lead
abbrev pub retire : Part → List Part → List Part
retire p parts = insert parts (position_or_len (λ q. nat_lt p.region q.region) parts) p

-- the state behind the sealing of a job: its part stands in the chain in place of the two, which are retired
unfoldable pub merged_state : RoomState → Job → Header → RoomState
merged_state room job header = record room {
  parts = replaced job.older.region (part_of job.target header) room.parts;
  retired = retire job.newer (retire job.older room.retired);
  job = None;
}

-- All is synced, and the new part's body is what was written for the job. After a failure the job is out still, but all of its regions are
-- lost, since its gate may be open. After want of memory the job holds what it held, and nothing was begun, or all is synced with the header
-- behind the closed gate.
abbrev pub SealsJobOr : RoomValue → RoomValue → Job → Header → Result (Unit {0}) (RoomFault × Job) → Type 0
SealsJobOr old new job header (Ok u) =
    (new.disk.unsynced ≡ []) × Does (merged_state old.room job header) old.target old new × (held_for new.room.image job ≡ held_for old.room.image job)
SealsJobOr old new job header (Err e) = (e.1 ≡ job) × refuses e.0
  where
    refuses : RoomFault → Type 0
    refuses room_fault.Disk = Shuts old.room old.target (job_regions (Some job)) old new
    refuses (room_fault.Shut epoch) = WasShut epoch old new
    refuses room_fault.NoMemory = Does old.room old.target old new × KeepsJob old.room new.room × IsUngated job.target (header_bytes old.room.region_len header) old.disk new.disk

-- all that sealing a job does: it touches the lead alone, torn behind the closed gate, and then at the gate
pub record SealsJob (old new : RoomValue) (job : Job) (header : Header) (result : Result (Unit {0}) (RoomFault × Job)) : Type 0 where
  pub room : SealsJobOr old new job header result
  pub beside : SameBeside old.disk new.disk
  pub read : KeepsBeside (job.target ∷ []) old.disk new.disk
  pub dirties : DirtiesOnly (job.target ∷ []) old.disk new.disk
  pub leaves : LeavesSealing job.target (header_bytes old.room.region_len header) old.disk new.disk
  pub bytes : OnOk result (HasBytes (λ image. with_bytes (with_bytes image job.target 1 (header_bytes old.room.region_len header)) job.target 0 gate) old.disk new.disk)
  pub keeps : Keeps old new
