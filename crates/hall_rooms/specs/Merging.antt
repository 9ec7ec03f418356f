-- A turn of a pass in which the first neighbours that fit are merged.
use Rattle.std.specs.Prelude.{◌≡◌, ◌⊎◌, ℕ, ◌≤◌, Bool, true, false, List, drop, None, Some, Result, Ok, Err, ⊤}
use Rattle.fine_model.specs.declared.FetchFault.TheVariants as fetch_fault
use Rattle.fine_model.specs.declared.Part.{Part}
use Rattle.fine_model.specs.declared.Row.{Row}
use Rattle.fine_model.specs.declared.law.RoomState.{RoomState}
use Rattle.fine_model.specs.Buckets.{Began}
use Rattle.fine_model.specs.ChainLaws.{part_of}
use Rattle.fine_model.specs.History.{Commit}
use Rattle.fine_model.specs.Jobs.{KeepsJob}
use Rattle.partition_hold.specs.Views.{ViewValue}
use Rattle.partition_merge.specs.declared.merger.Measure.{Measure}
use Rattle.epoch_room.specs.Meaning.{Keeps, Stands, origin_of}
use Rattle.epoch_room.specs.MergeSealing.{replaced, retire}
use Rattle.epoch_room.specs.MergeSteps.{neighbours_from, regions_for_job}
use Rattle.epoch_room.specs.Value.{RoomValue}
use Rattle.epoch_room.specs.declared.answers.RoomFault.{RoomFault}
use Rattle.epoch_room.specs.declared.answers.RoomFault.TheVariants as room_fault
use Rattle.room_merges.specs.declared.fault.MergeFault.{MergeFault}
use Rattle.room_merges.specs.declared.fault.MergeFault.TheVariants as merge_fault
use Rattle.room_merges.specs.Near.{NoneFitNow, TriesAll}
use Rattle.room_merges.specs.Pairs.{header_for, job_for}
use Rattle.fine_hall.specs.declared.law.Beginning.{Beginning}
use Rattle.fine_hall.specs.Passes.{known}
use Rattle.hall_rooms.specs.Rooms.{RoomPass}
use Rattle.hall_rooms.specs.Boards.{TakesBackAll}
use Rattle.hall_rooms.specs.Views.{MakesView, MakesViewOr}
use Rattle.hall_rooms.specs.Steps.{Rises, SameEpochs}
use Rattle.hall_rooms.specs.Turning.{MeetsNone, MeetsSome, NotBegan, StaysIdle, TakesTurn}

-- ---- the step

-- A view of all live parts was made for the seat 1, neighbours were tried through it, and it was taken back.
pub record TriesThrough (from : ℕ) (old new : RoomValue) (r : Result Bool MergeFault) : Type 0 where
  pub made : RoomValue
  pub view : ViewValue
  pub makes : MakesView old made 1 view
  pub tried : RoomValue
  pub seen : ViewValue
  pub tries : TriesAll from made tried view seen r
  pub back : TakesBackAll seen.eye.faults tried new

-- no view could be made
pub record LacksOwnView (old new : RoomValue) (r : Result Bool MergeFault) : Type 0 where
  pub fault : RoomFault
  pub is : r ≡ Err (merge_fault.Room fault)
  pub why : MakesViewOr old new 1 (Err fault)

-- Two neighbours, the first of which the older one begins at some epoch or later, are one part, of a measure of their merged rows, over the
-- lowest free regions, as few as it needs; the two are retired.
pub record MergesNext (old new : RoomState) : Type 0 where
  pub two : Part × Part
  pub at : ℕ
  pub first : neighbours_from at old.parts ≡ Some two
  pub measure : Measure
  pub ordered : measure.ordered ≡ true
  pub regions : ℕ
  pub taken : regions_for_job old measure ≡ Some regions
  pub parts : new.parts ≡ replaced two.0.region (part_of (job_for two measure regions old.free).target (header_for two measure regions old.free)) old.parts
  pub retired : new.retired ≡ retire two.1 (retire two.0 old.retired)
  pub free : new.free ≡ drop regions old.free

-- the chain is as it was, and so is what is retired, free and lost
pub record SameChain (old new : RoomState) : Type 0 where
  pub parts : new.parts ≡ old.parts
  pub retired : new.retired ≡ old.retired
  pub free : (new.free ≡ old.free) × (new.lost ≡ old.lost)

-- the room was open, and is
abbrev pub StaysUnshut : RoomState → RoomState → Type 0
StaysUnshut old new = (old.is_shut ≡ false) × (new.is_shut ≡ false)

-- What merging the first neighbours that fit does to a room, by its answer. False: no two fit what is free, by what a read of the disk gives.
abbrev pub MergesNextOr : RoomValue → RoomValue → Result Bool MergeFault → Type 0
MergesNextOr old new (Ok true) = StaysUnshut old.room new.room × MergesNext old.room new.room
MergesNextOr old new (Ok false) = StaysUnshut old.room new.room × SameChain old.room new.room × NoneFitNow new
MergesNextOr old new (Err (merge_fault.Fetch fault)) = StaysUnshut old.room new.room × SameChain old.room new.room
MergesNextOr old new (Err (merge_fault.Room room_fault.NoMemory)) = StaysUnshut old.room new.room × SameChain old.room new.room
MergesNextOr old new (Err (merge_fault.Room room_fault.Disk)) = (old.room.is_shut ≡ false) × (new.room.is_shut ≡ true) × (new.room.parts ≡ old.room.parts) × (new.room.retired ≡ old.room.retired)
MergesNextOr old new (Err (merge_fault.Room (room_fault.Shut epoch))) = (old.room.is_shut ≡ true) × (epoch ≡ old.room.sealed) × (new ≡ old)

-- the faults with which a call of the disk failed, or a read
abbrev pub FailedCall : MergeFault → Type 0 → Type 0 → Type 0
FailedCall (merge_fault.Fetch fetch_fault.Failed) failed none = failed
FailedCall (merge_fault.Fetch (fetch_fault.BadRow region at)) failed none = none
FailedCall (merge_fault.Fetch (fetch_fault.BadIndex region at)) failed none = none
FailedCall (merge_fault.Fetch fetch_fault.NoMemory) failed none = none
FailedCall (merge_fault.Room room_fault.Disk) failed none = failed
FailedCall (merge_fault.Room room_fault.NoMemory) failed none = none
FailedCall (merge_fault.Room (room_fault.Shut epoch)) failed none = none

-- and so of answers
abbrev pub Failing : {A : Type 0} → Result A MergeFault → Type 0 → Type 0 → Type 0
Failing (Ok done) failed none = none
Failing (Err fault) failed none = FailedCall fault failed none

-- the faults that name a bad place
abbrev pub NamesPlace : MergeFault → Type 0 → Type 0
NamesPlace (merge_fault.Fetch (fetch_fault.BadRow region at)) P = P
NamesPlace (merge_fault.Fetch (fetch_fault.BadIndex region at)) P = P
NamesPlace _ P = ⊤

-- and so of answers
abbrev pub OnDamage : {A : Type 0} → Result A MergeFault → Type 0 → Type 0
OnDamage (Ok done) P = ⊤
OnDamage (Err fault) P = NamesPlace fault P

-- the log at entry was not told or not sound, or the room stands for no history of it
abbrev pub StandsForNone : RoomValue → Type 0
StandsForNone value = (e : ℕ) (first : List Row) (history : List Commit) → Began (origin_of value.entry) e first → Stands value first e history → ⊥

-- what every answer leaves: no merge is out, no view comes or goes, and the epochs are as they were
pub record LeavesBoard (old new : RoomValue) : Type 0 where
  pub entry : new.entry ≡ old.entry
  pub keeps : Keeps old new
  pub no_job : new.room.job ≡ None
  pub places : new.room.places ≡ old.room.places
  pub board : new.room.board ≡ old.room.board
  pub epochs : SameEpochs old.room new.room

-- what merging neighbours through a view of its own does
pub record MergesThroughOr (from : ℕ) (old new : RoomValue) (r : Result Bool MergeFault) : Type 0 where
  pub leaves : LeavesBoard old new
  pub how : TriesThrough from old new r ⊎ LacksOwnView old new r
  pub merges : MergesNextOr old new r
  pub damage : OnDamage r (StandsForNone old)
  pub counted : Failing r (Rises old.room new.room) (new.room.faults ≤ old.room.faults)

-- ---- the turn

-- One turn without an entry, in which the first neighbours that fit are merged: tried are those of which the older one begins at an epoch or later, in
-- chain order, and then those before it.
pub record MergesInTurn (x : Beginning) (from : ℕ) (p p' : RoomPass) (r : Result Bool MergeFault) : Type 0 where
  pub found : RoomValue
  pub room : RoomValue
  pub turn : TakesTurn x found.room None 0 room.room p p'
  pub same_held : (known p').held ≡ (known p).held
  pub job : KeepsJob found.room room.room
  pub how : TriesThrough from found room r ⊎ LacksOwnView found room r
  pub leaves : LeavesBoard found room
  pub merges : MergesNextOr found room r
  pub damage : OnDamage r (NotBegan x)
  pub meets : Failing r (MeetsSome x p p') (MeetsNone x p p')

-- A pass that holds nothing and has no merge out is such a pass after a turn that merges.
abbrev pub MergesIdle : Type 0
MergesIdle = (from : ℕ) (r : Result Bool MergeFault) → StaysIdle (λ x p p'. MergesInTurn x from p p' r)
