-- What merging two neighbours in one call makes of a room.
use Rattle.std.specs.Prelude.{◌≡◌, ◌⊎◌, ℕ, Bool, true, false, List, [], drop, length, Contains, None, Some, Result, Ok, Err, IsErrOf, OnOk}
use Rattle.fine_model.specs.declared.Header.{Header}
use Rattle.fine_model.specs.declared.Job.{Job}
use Rattle.fine_model.specs.declared.Part.{Part}
use Rattle.fine_model.specs.declared.law.RoomState.{RoomState}
use Rattle.fine_model.specs.Jobs.{held_for}
use Rattle.fine_model.specs.Merge.{FitsFree, cost, merged}
use Rattle.fine_model.specs.Regions.{Image, body_bytes, body_len}
use Rattle.partition_hold.specs.Views.{ViewValue}
use Rattle.partition_merge.specs.declared.merger.Measure.{Measure}
use Rattle.partition_merge.specs.Joined.{IsBodyMeasured}
use Rattle.partition_merge.specs.Mergers.{IsMeasureOf, at_front}
use Rattle.epoch_room.specs.Meaning.{Keeps}
use Rattle.epoch_room.specs.MergeSealing.{merged_state}
use Rattle.epoch_room.specs.Returns.{IsPosted}
use Rattle.epoch_room.specs.MergeSteps.{fresh_job, header_over, measured_len, neighbours_from, regions_for_job, taken_job}
use Rattle.epoch_room.specs.Steps.{Does, WasShut}
use Rattle.epoch_room.specs.Value.{RoomValue}
use Rattle.epoch_room.specs.declared.answers.RoomFault.{RoomFault}
use Rattle.epoch_room.specs.declared.answers.RoomFault.TheVariants as room_fault
use Rattle.room_merges.specs.declared.fault.MergeFault.{MergeFault}
use Rattle.room_merges.specs.declared.fault.MergeFault.TheVariants as merge_fault
use Rattle.room_merges.specs.Merging.{HoldsJoined, Measures, OfBytes, OfTold}
use Rattle.room_merges.specs.Work.{BlamedBy, FallsShut, Looks, LosesFor, RefusesOr, StaysOpen, same_job}

-- the neighbours that are tried: the first two of which the older one begins at an epoch or later, and the view has both
pub record AreTried (from : ℕ) (value : RoomValue) (view : ViewValue) (two : Part × Part) : Type 0 where
  pub first : neighbours_from from value.room.parts ≡ Some two
  pub older : Contains view.parts two.0
  pub newer : Contains view.parts two.1

-- the job of merged rows of a measure, over so many of the free regions, with all of its body written; and its header
abbrev pub header_for : Part × Part → Measure → ℕ → List ℕ → Header
header_for two measure regions free = header_over (fresh_job two) measure regions free

abbrev pub job_for : Part × Part → Measure → ℕ → List ℕ → Job
job_for two measure regions free = same_job (taken_job (fresh_job two) measure regions free) (measured_len measure)

-- the body of rows in order, which a measure counts, stands in a job's target; they were read of two parts and merged
abbrev pub HoldsMeasured : RoomValue → Job → Image → Part × Part → Measure → Type 0
HoldsMeasured value job image two measure = (bytes : List ℕ) × IsBodyMeasured image two.0 two.1 measure bytes × (held_for value.room.image job ≡ Some bytes)

-- Two neighbours are one part now, over the lowest free regions, as few as its rows need; the two are retired, and all is synced. Its rows
-- are the merged rows of both, in order, where the view's eye tells both, as it does where a read of the disk did.
pub record Merges (from : ℕ) (old new : RoomValue) (view : ViewValue) : Type 0 where
  pub two : Part × Part
  pub tried : AreTried from old view two
  pub measure : Measure
  pub regions : ℕ
  pub read : IsMeasureOf view.eye.told (at_front two.0 two.1 view.region_len) measure
  pub taken : regions_for_job old.room measure ≡ Some regions
  pub ordered : measure.ordered ≡ true
  pub measured : Measures view two.0 two.1 measure
  pub synced : new.disk.unsynced ≡ []
  pub room : Does (merged_state (record old.room { free = drop regions old.room.free }) (job_for two measure regions old.room.free) (header_for two measure regions old.room.free)) old.target old new
  pub body : OfTold view two.0 two.1 (λ a b. held_for new.room.image (job_for two measure regions old.room.free) ≡ Some (body_bytes (merged a b)))
  -- of any two, in the grammar or not: the body is that of rows in order, which were measured, of each node those that are found in both, merged
  pub joined : OfBytes view (λ image. HoldsMeasured new (job_for two measure regions old.room.free) image two measure)
  pub keeps : Keeps old new

-- the room was open, and is as it was but for what its disk holds
pub record StaysAsIs (old new : RoomValue) : Type 0 where
  pub opened : old.room.is_shut ≡ false
  pub stays : StaysOpen None old.room.free old new

-- Why no regions stay taken for two parts of which a measure was read: none are taken for rows of this measure, which are out of order, or
-- need more than are free; or what was read again was not as long as it was measured, as never where the view's eye tells both.
abbrev pub IsRefused : RoomState → ViewValue → Part → Part → Measure → Type 0
IsRefused room view p q measure = (regions_for_job room measure ≡ None) ⊎ OfTold view p q (λ a b. ⊥)

-- two parts were passed over: a measure of them was read
abbrev pub IsPassedOver : RoomValue → ViewValue → Part → Part → Type 0
IsPassedOver value view p q = (measure : Measure) × IsMeasureOf view.eye.told (at_front p q view.region_len) measure × IsRefused value.room view p q measure

-- Nothing was merged: where the view has the two that would be tried, their measure was read, and where the view's eye tells both, as it
-- does where a read of the disk did, they do not fit.
pub record MergesNone (from : ℕ) (old new : RoomValue) (view : ViewValue) : Type 0 where
  pub room : StaysAsIs old new
  pub read : (two : Part × Part) → AreTried from old view two → IsPassedOver old view two.0 two.1
  pub none : (two : Part × Part) → AreTried from old view two → OfTold view two.0 two.1 (λ a b. FitsFree old.room.region_len (length old.room.free) a b → ⊥)

-- a read through the view was refused; a bad row or entry is one of the two that were tried
pub record IsFetchRefused (from : ℕ) (old new : RoomValue) (view view' : ViewValue) (fault : MergeFault) : Type 0 where
  pub room : StaysAsIs old new
  pub two : Part × Part
  pub tried : AreTried from old view two
  pub blames : BlamedBy view' two.0 two.1 fault

-- a job that took regions for rows of a measure of two parts, of which some may be written
pub record IsTakenFor (room : RoomState) (measure : Measure) (two : Part × Part) (job : Job) : Type 0 where
  pub regions : ℕ
  pub taken : regions_for_job room measure ≡ Some regions
  pub same : job ≡ same_job (taken_job (fresh_job two) measure regions room.free) job.written

-- The disk failed while the part of two neighbours was written or sealed: of the lowest free regions, which were taken for it, those are
-- lost that the failed call was writing.
pub record LosesPart (from : ℕ) (old new : RoomValue) (view : ViewValue) : Type 0 where
  pub two : Part × Part
  pub tried : AreTried from old view two
  pub measure : Measure
  pub read : IsMeasureOf view.eye.told (at_front two.0 two.1 view.region_len) measure
  pub job : Job
  pub taken : IsTakenFor old.room measure two job
  pub lost : LosesFor old.room.region_len (Some job) new.room.lost

-- what a merge of two neighbours does, by its answer
abbrev pub PairOr : ℕ → RoomValue → RoomValue → ViewValue → ViewValue → Result Bool MergeFault → Type 0
PairOr from old new view view' (Ok true) = Merges from old new view
PairOr from old new view view' (Ok false) = MergesNone from old new view
PairOr from old new view view' (Err (merge_fault.Fetch fault)) = IsFetchRefused from old new view view' (merge_fault.Fetch fault)
PairOr from old new view view' (Err (merge_fault.Room room_fault.NoMemory)) = StaysAsIs old new
PairOr from old new view view' (Err (merge_fault.Room room_fault.Disk)) = (old.room.is_shut ≡ false) × FallsShut None new.room.free old new × LosesPart from old new view
PairOr from old new view view' (Err (merge_fault.Room (room_fault.Shut epoch))) = WasShut epoch old new

-- what a merge of two neighbours does
pub record MergesPair (from : ℕ) (old new : RoomValue) (view view' : ViewValue) (result : Result Bool MergeFault) : Type 0 where
  pub room : PairOr from old new view view' result
  pub looks : Looks view view' result

-- ---- the steps of it

-- what a header counts, of rows in order
abbrev pub measure_in : Header → Measure
measure_in header = record { rows = header.rows; nodes = header.nodes; area = header.area; ordered = true }

-- no merge is out, and a view of the room is
pub record IsIdle (value : RoomValue) (view : ViewValue) : Type 0 where
  pub no_job : value.room.job ≡ None
  pub posted : IsPosted value.room view
  pub region_len : view.region_len ≡ value.room.region_len

-- a job that was picked, with no regions yet, is out of an open room, for two parts of a view that is out
pub record IsFresh (value : RoomValue) (view : ViewValue) (job : Job) : Type 0 where
  pub out : value.room.job ≡ Some job
  pub opened : value.room.is_shut ≡ false
  pub is : job ≡ fresh_job (job.older, job.newer)
  pub older : Contains view.parts job.older
  pub newer : Contains view.parts job.newer
  pub posted : IsPosted value.room view
  pub region_len : view.region_len ≡ value.room.region_len

-- a job that took its regions by a measure, and has written nothing, is out of an open room, for two parts of a view that is out
pub record IsReady (header : Header) (value : RoomValue) (view : ViewValue) (job : Job) : Type 0 where
  pub out : value.room.job ≡ Some job
  pub opened : value.room.is_shut ≡ false
  pub taken : job.header ≡ Some header
  pub none : job.written ≡ 0
  pub older : Contains view.parts job.older
  pub newer : Contains view.parts job.newer
  pub posted : IsPosted value.room view
  pub region_len : view.region_len ≡ value.room.region_len
  pub measured : Measures view job.older job.newer (measure_in header)

-- the part of a job stands in the chain, and all is synced; its body is that of the merged rows
pub record IsPartSealed (header : Header) (old new : RoomValue) (view' : ViewValue) (job : Job) : Type 0 where
  pub synced : new.disk.unsynced ≡ []
  pub room : Does (merged_state old.room (same_job job (body_len header)) header) old.target old new
  pub body : OfTold view' job.older job.newer (λ a b. held_for new.room.image (same_job job (body_len header)) ≡ Some (body_bytes (merged a b)))
  pub joined : HoldsJoined new view' (same_job job (body_len header))
  pub keeps : Keeps old new

-- what sealing a job whose body is written does
abbrev pub SealsPart : Header → RoomValue → RoomValue → ViewValue → Job → Result (Unit {0}) RoomFault → Type 0
SealsPart header old new view job (Ok u) = IsPartSealed header old new view job
SealsPart header old new view job (Err fault) = RefusesOr (Some job) old.room.free old new (merge_fault.Room fault)

abbrev pub PartOr : Header → RoomValue → RoomValue → ViewValue → Job → Job → Result Bool MergeFault → Type 0
PartOr header old new view' job job' (Ok true) = IsPartSealed header old new view' job
PartOr header old new view' job job' (Ok false) = StaysOpen (Some job') old.room.free old new × OfTold view' job.older job.newer (λ a b. cost (merged a b) ≡ body_len header → ⊥)
PartOr header old new view' job job' (Err fault) = RefusesOr (Some job') old.room.free old new fault × BlamedBy view' job.older job.newer fault

-- what writing and sealing the part of a job does
pub record WritesPart (header : Header) (old new : RoomValue) (view view' : ViewValue) (job job' : Job) (result : Result Bool MergeFault) : Type 0 where
  pub part : PartOr header old new view' job job' result
  pub same : job' ≡ same_job job job'.written
  pub looks : Looks view view' result

-- a job of two parts took regions for merged rows of a measure, and what that made of the room
pub record IsJobMerged (measure : Measure) (old new : RoomValue) (view' : ViewValue) (two : Part × Part) : Type 0 where
  pub regions : ℕ
  pub taken : regions_for_job old.room measure ≡ Some regions
  pub ordered : measure.ordered ≡ true
  pub synced : new.disk.unsynced ≡ []
  pub room : Does (merged_state (record old.room { free = drop regions old.room.free }) (job_for two measure regions old.room.free) (header_for two measure regions old.room.free)) old.target old new
  pub body : OfTold view' two.0 two.1 (λ a b. held_for new.room.image (job_for two measure regions old.room.free) ≡ Some (body_bytes (merged a b)))
  pub joined : HoldsJoined new view' (job_for two measure regions old.room.free)
  pub keeps : Keeps old new

abbrev pub JobOr : Measure → RoomValue → RoomValue → ViewValue → Part × Part → Job → Result Bool MergeFault → Type 0
JobOr measure old new view' two job' (Ok true) = IsJobMerged measure old new view' two
JobOr measure old new view' two job' (Ok false) =
    StaysOpen (Some job') new.room.free old new × OfTold view' two.0 two.1 (λ a b. FitsFree old.room.region_len (length old.room.free) a b → ⊥) × IsRefused old.room view' two.0 two.1 measure
JobOr measure old new view' two job' (Err fault) =
    RefusesOr (Some job') new.room.free old new fault × BlamedBy view' two.0 two.1 fault × (fault ≡ merge_fault.Room room_fault.Disk → IsTakenFor old.room measure two job')

-- what a job of two parts that was measured does
pub record MergesMeasured (measure : Measure) (old new : RoomValue) (view view' : ViewValue) (two : Part × Part) (job' : Job) (result : Result Bool MergeFault) : Type 0 where
  pub job : JobOr measure old new view' two job' result
  pub looks : Looks view view' result

-- what a job of two parts does
pub record MergesJob (old new : RoomValue) (view view' : ViewValue) (two : Part × Part) (job' : Job) (result : Result Bool MergeFault) : Type 0 where
  pub measure : Measure
  pub read : OnOk result (IsMeasureOf view.eye.told (at_front two.0 two.1 view.region_len) measure)
  pub measured : OnOk result (Measures view two.0 two.1 measure)
  -- nothing is written before the measure is read
  pub read_before : IsErrOf result (merge_fault.Room room_fault.Disk) → IsMeasureOf view.eye.told (at_front two.0 two.1 view.region_len) measure
  pub job : JobOr measure old new view' two job' result
  pub looks : Looks view view' result
