-- What the steps of a merge make of a room, of its view and of its job.
use Rattle.std.specs.Prelude.{◌≡◌, ◌⊎◌, ℕ, ◌+◌, ◌<◌, ◌≤◌, ◌++◌, Bool, true, false, List, length, option_map, Contains, Option, None, Some, IfSome, Result, Ok, Err, IsErrOf, ⊤}
use Rattle.fine_model.specs.declared.FetchFault.{FetchFault}
use Rattle.fine_model.specs.declared.FetchFault.TheVariants as fetch_fault
use Rattle.fine_model.specs.declared.Header.{Header}
use Rattle.fine_model.specs.declared.Job.{Job}
use Rattle.fine_model.specs.declared.Part.{Part}
use Rattle.fine_model.specs.Boards.{set_of}
use Rattle.fine_model.specs.Jobs.{KeepsJob, held_for, job_regions}
use Rattle.fine_model.specs.Merge.{cost, merged}
use Rattle.fine_model.specs.Regions.{body_len}
use Rattle.partition_index.specs.Parts.{CountsFaults}
use Rattle.partition_hold.specs.Views.{SameView, ViewValue}
use Rattle.partition_merge.specs.Blocks.{BlocksValue}
use Rattle.partition_merge.specs.Mergers.{AreKept, BlamesEntry, BlamesRow, at_front, newer_part, older_part}
use Rattle.epoch_room.specs.Meaning.{Keeps}
use Rattle.epoch_room.specs.MergeSteps.{touched}
use Rattle.epoch_room.specs.Steps.{Fails, KeepsCounts}
use Rattle.epoch_room.specs.Value.{RoomValue, on}
use Rattle.epoch_room.specs.declared.answers.RoomFault.TheVariants as room_fault
use Rattle.room_merges.specs.Merging.{CountsBody, HoldsBody, HoldsJoined, IsBetween, IsJoining, OfTold}
use Rattle.room_merges.specs.declared.body.Progress.{Progress}
use Rattle.room_merges.specs.declared.body.Progress.TheVariants as progress
use Rattle.room_merges.specs.declared.fault.MergeFault.{MergeFault}
use Rattle.room_merges.specs.declared.fault.MergeFault.TheVariants as merge_fault

-- ---- the room

-- the room is as it was, but for the job, for what is free, and for what its disk holds; no call on the disk failed
pub record StaysOpen (job : Option Job) (free : List ℕ) (old new : RoomValue) : Type 0 where
  pub room : new.room ≡ on (record old.room { job = job; free = free }) new.disk
  pub target : new.target ≡ old.target
  pub entry : new.entry ≡ old.entry
  pub counts : KeepsCounts old.disk new.disk
  pub keeps : Keeps old new

-- What a failed call was writing for a job is lost: the one or two regions in which a block of its body lies, behind the bytes that were
-- written before; or all of the job's, where its part was being sealed.
abbrev pub IsLosing : ℕ → Job → List ℕ → Header → Type 0
IsLosing region_len job lost header = ((n : ℕ) × (1 ≤ n) × (lost ≡ set_of (touched region_len job header n))) ⊎ (lost ≡ set_of (job_regions (Some job)))

-- so of the job that is out, if there is one
abbrev pub LosesFor : ℕ → Option Job → List ℕ → Type 0
LosesFor region_len None lost = ⊤
LosesFor region_len (Some job) lost = IfSome job.header (IsLosing region_len job lost)

-- the disk failed, and the room is shut: as it was, but for the job, for what is free and what is lost, and for what its disk holds
pub record FallsShut (job : Option Job) (free : List ℕ) (old new : RoomValue) : Type 0 where
  pub room : new.room ≡ on (record old.room { job = job; free = free; lost = new.room.lost; is_shut = true }) new.disk
  pub target : new.target ≡ old.target
  pub entry : new.entry ≡ old.entry
  pub fails : Fails old.disk new.disk
  pub loses : LosesFor new.room.region_len job new.room.lost
  pub keeps : Keeps old new

-- what a step that is refused makes of an open room
abbrev pub RefusesOr : Option Job → List ℕ → RoomValue → RoomValue → MergeFault → Type 0
RefusesOr job free old new (merge_fault.Fetch fault) = StaysOpen job free old new
RefusesOr job free old new (merge_fault.Room room_fault.NoMemory) = StaysOpen job free old new
RefusesOr job free old new (merge_fault.Room room_fault.Disk) = FallsShut job free old new
RefusesOr job free old new (merge_fault.Room (room_fault.Shut epoch)) = ⊥

-- what a step of an open room does
abbrev pub StepsOr : {A : Type 0} → Option Job → List ℕ → RoomValue → RoomValue → Result A MergeFault → Type 0
StepsOr job free old new (Ok answer) = StaysOpen job free old new
StepsOr job free old new (Err fault) = RefusesOr job free old new fault

-- the same job, of which more may be written
abbrev pub same_job : Job → ℕ → Job
same_job job written = record job { written = written }

-- ---- the view

-- the view is the same but for its eye's counts, and its count of faults rose exactly where a read through it failed
pub record Looks {A : Type 0} (old new : ViewValue) (result : Result A MergeFault) : Type 0 where
  pub same : SameView old new
  pub counts : CountsFaults (IsErrOf result (merge_fault.Fetch fetch_fault.Failed)) old.eye new.eye

-- A bad row or entry comes with a place of one of two parts that is bad by what was read, and not where the eye tells both in the grammar.
abbrev pub Blames : ViewValue → Part → Part → FetchFault → Type 0
Blames view older newer fetch_fault.Failed = ⊤
Blames view older newer (fetch_fault.BadRow region at) =
    BlamesRow view.eye.told (at_front older newer view.region_len) (record { region = region; at = at }) × OfTold view older newer (λ a b. ⊥)
Blames view older newer (fetch_fault.BadIndex region at) =
    BlamesEntry view.eye.told (at_front older newer view.region_len) (record { region = region; at = at }) × OfTold view older newer (λ a b. ⊥)
Blames view older newer fetch_fault.NoMemory = ⊤

abbrev pub BlamedBy : ViewValue → Part → Part → MergeFault → Type 0
BlamedBy view older newer (merge_fault.Room fault) = ⊤
BlamedBy view older newer (merge_fault.Fetch fault) = Blames view older newer fault

-- ---- blocks

-- between two blocks of the body that is written for a job
pub record IsWriting (room : RoomValue) (view : ViewValue) (blocks : BlocksValue) (job : Job) : Type 0 where
  pub older : older_part blocks.merger ≡ job.older
  pub newer : newer_part blocks.merger ≡ job.newer
  pub region_len : blocks.merger.region_len ≡ view.region_len
  pub few : blocks.most < room.room.region_len
  pub kept : AreKept view.eye.told blocks.merger
  pub between : IsBetween room view blocks job
  pub joining : IsJoining room view blocks job

-- so it is while others have turns, who leave the length of a region
abbrev pub TurnsLast : Type 0
TurnsLast =
    (view : ViewValue) (blocks : BlocksValue) (job : Job) (old new : RoomValue) → new.room.region_len ≡ old.room.region_len → old.room.job ≡ Some job → KeepsJob old.room new.room
    → IsWriting old view blocks job → IsWriting new view blocks job

-- a job of an open room has its regions, for two parts of a view, and is between two blocks of its body
pub record HasBegun (header : Header) (room : RoomValue) (view : ViewValue) (blocks : BlocksValue) (job : Job) : Type 0 where
  pub out : room.room.job ≡ Some job
  pub opened : room.room.is_shut ≡ false
  pub taken : job.header ≡ Some header
  pub older : Contains view.parts job.older
  pub newer : Contains view.parts job.newer
  pub writing : IsWriting room view blocks job
  pub within : job.written ≤ body_len header

-- a block stands in the job's target behind those before it; or the body has no room for it, and nothing was written
abbrev pub BlockOr : Header → List ℕ → RoomValue → RoomValue → Job → Job → Result Progress MergeFault → Type 0
BlockOr header block old new job job' (Ok progress.Written) =
    (job'.written ≡ job.written + length block) × (job'.written ≤ body_len header)
    × (held_for new.room.image job' ≡ option_map (λ held. held ++ block) (held_for old.room.image job))
BlockOr header block old new job job' (Ok progress.TooLong) = (body_len header < job.written + length block) × (job' ≡ job) × (new ≡ old)
BlockOr header block old new job job' (Ok progress.Ended) = ⊥
BlockOr header block old new job job' (Err (merge_fault.Room fault)) = job' ≡ job
BlockOr header block old new job job' (Err (merge_fault.Fetch fault)) = ⊥

-- what writing a block does
pub record WritesBlock (header : Header) (block : List ℕ) (old new : RoomValue) (job job' : Job) (result : Result Progress MergeFault) : Type 0 where
  pub room : StepsOr (Some job') old.room.free old new result
  pub same : job' ≡ same_job job job'.written
  pub wrote : BlockOr header block old new job job' result

-- a block more; or all of them, and the merged rows have as many bytes as were written; or merged rows that are longer than the header says
abbrev pub NextOr : Header → RoomValue → ViewValue → BlocksValue → Job → Job → Result Progress MergeFault → Type 0
NextOr header new view' blocks' job job' (Ok progress.Written) = (job.written < job'.written) × (job'.written ≤ body_len header) × IsWriting new view' blocks' job'
NextOr header new view' blocks' job job' (Ok progress.Ended) = HoldsBody new view' job' × CountsBody view' job' × HoldsJoined new view' job'
NextOr header new view' blocks' job job' (Ok progress.TooLong) = OfTold view' job'.older job'.newer (λ a b. body_len header < cost (merged a b))
NextOr header new view' blocks' job job' (Err fault) = BlamedBy view' job.older job.newer fault

-- what a turn leaves that writes no block: all of it at the end, and where a block is too long; after a refusal the job counts what it counted
abbrev pub LeftOr : RoomValue → RoomValue → Job → Job → Result Progress MergeFault → Type 0
LeftOr old new job job' (Ok progress.Written) = ⊤
LeftOr old new job job' (Ok progress.Ended) = (job' ≡ job) × (new ≡ old)
LeftOr old new job job' (Ok progress.TooLong) = (job' ≡ job) × (new ≡ old)
LeftOr old new job job' (Err fault) = job' ≡ job

-- what one turn of writing does
pub record WritesNext (header : Header) (old new : RoomValue) (view view' : ViewValue) (blocks' : BlocksValue) (job job' : Job) (result : Result Progress MergeFault) : Type 0 where
  pub room : StepsOr (Some job') old.room.free old new result
  pub looks : Looks view view' result
  pub same : job' ≡ same_job job job'.written
  pub next : NextOr header new view' blocks' job job' result
  pub left : LeftOr old new job job' result

-- the whole body, as long as the header says; or the merged rows have not as many bytes as the header says
abbrev pub AllOr : Header → RoomValue → ViewValue → Job → Job → Result Bool MergeFault → Type 0
AllOr header new view' job job' (Ok true) = HoldsBody new view' job' × (job'.written ≡ body_len header) × HoldsJoined new view' job'
AllOr header new view' job job' (Ok false) = OfTold view' job'.older job'.newer (λ a b. cost (merged a b) ≡ body_len header → ⊥)
AllOr header new view' job job' (Err fault) = BlamedBy view' job.older job.newer fault

-- what writing the body does
pub record WritesAll (header : Header) (old new : RoomValue) (view view' : ViewValue) (job job' : Job) (result : Result Bool MergeFault) : Type 0 where
  pub room : StepsOr (Some job') old.room.free old new result
  pub looks : Looks view view' result
  pub same : job' ≡ same_job job job'.written
  pub all : AllOr header new view' job job' result
