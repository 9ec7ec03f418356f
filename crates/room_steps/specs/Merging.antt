-- The steps of what is done between transactions.
use Rattle.std.specs.Prelude.{◌≡◌, ◌⊎◌, ℕ, ◌+◌, ◌<◌, ◌≤◌, Bool, true, false, [], length, Option, Some, None, Result, Ok, Err, OnOk}
use Rattle.fine_model.specs.declared.FetchFault.{FetchFault}
use Rattle.fine_model.specs.declared.FetchFault.TheVariants as fetch_fault
use Rattle.fine_model.specs.declared.Damage.TheVariants as damage
use Rattle.fine_model.specs.declared.RunFault.{RunFault}
use Rattle.fine_model.specs.declared.RunFault.TheVariants as run_fault
use Rattle.fine_model.specs.declared.Why.{Why}
use Rattle.fine_model.specs.declared.Why.TheVariants as why
use Rattle.epoch_room.specs.Fitting.{fit_of}
use Rattle.epoch_room.specs.declared.answers.Fit.{Fit}
use Rattle.epoch_room.specs.declared.answers.Fit.TheVariants as fit
use Rattle.epoch_room.specs.declared.answers.RoomFault.{RoomFault}
use Rattle.epoch_room.specs.declared.answers.RoomFault.TheVariants as room_fault
use Rattle.room_merges.specs.declared.fault.MergeFault.{MergeFault}
use Rattle.room_merges.specs.declared.fault.MergeFault.TheVariants as merge_fault
use Rattle.room_shelf.specs.Shelves.{Rests, ShelfValue}
use Rattle.run_laws.specs.Needs.{HasNoRegion, IsSealed, Unsealed}
use Rattle.merge_policy.specs.Young.{young_run}
use Rattle.room_steps.specs.Steps.{FaultOf, IsFull, IsNamed, IsWell, Leaves, NoneMerge, TidyOr, space_of}

-- the view was taken back, if one was out, and else nothing was done
pub record TakesView (old new : ShelfValue) : Type 0 where
  pub none : new.view ≡ None
  pub rests : Rests old.room old.view new.room
  pub same : old.view ≡ None → new ≡ old

-- the fault that a run tells
abbrev pub of_fetch : FetchFault → RunFault
of_fetch fetch_fault.Failed = run_fault.Disk
of_fetch (fetch_fault.BadRow region at) = run_fault.Damaged (damage.Region region at)
of_fetch (fetch_fault.BadIndex region at) = run_fault.Damaged (damage.Region region at)
of_fetch fetch_fault.NoMemory = run_fault.Memory

abbrev pub of_room : RoomFault → RunFault
of_room room_fault.Disk = run_fault.Disk
of_room (room_fault.Shut epoch) = run_fault.Disk
of_room room_fault.NoMemory = run_fault.Memory

abbrev pub of_merge : MergeFault → RunFault
of_merge (merge_fault.Room fault) = of_room fault
of_merge (merge_fault.Fetch fault) = of_fetch fault

-- neighbours were merged, or none fit
abbrev pub MergeOr : ShelfValue → ShelfValue → Result Bool RunFault → Type 0
MergeOr old new (Ok true) = IsWell old new × (length new.room.room.parts + 1 ≡ length old.room.room.parts) × (new.room.room.retired ≡ [])
MergeOr old new (Ok false) = IsWell old new × NoneMerge new.room
MergeOr old new (Err fault) = FaultOf old new fault

-- what one merge does with no view out
pub record MergesOne (old new : ShelfValue) (result : Result Bool RunFault) : Type 0 where
  pub leaves : Leaves old new
  pub unsealed : Unsealed old.room.room new.room.room
  pub merge : MergeOr old new result

-- As long as merging goes well: nothing was done yet, or no call failed and the room is open.
pub record IsMerging (old new : ShelfValue) : Type 0 where
  pub leaves : Leaves old new
  pub unsealed : Unsealed old.room.room new.room.room
  pub so_far : (new ≡ old) ⊎ IsWell old new

-- so as the policy names the neighbours
pub record IsTidying (old new : ShelfValue) : Type 0 where
  pub merging : IsMerging old new
  pub erased : (new ≡ old) ⊎ (new.room.room.retired ≡ [])
  pub called : (new ≡ old) ⊎ ((from : ℕ) × IsNamed old.room.room (Some from))

-- merging as long as the policy names neighbours, by the answer; nothing is changed where it names none
pub record MergesNamed (old new : ShelfValue) (result : Result (Unit {0}) RunFault) : Type 0 where
  pub leaves : Leaves old new
  pub unsealed : Unsealed old.room.room new.room.room
  pub called : (new ≡ old) ⊎ ((from : ℕ) × IsNamed old.room.room (Some from))
  pub tidy : TidyOr old new result
  pub erased : OnOk result ((new ≡ old) ⊎ (new.room.room.retired ≡ []))

-- parts were gathered, or left as they are, and nothing is retired
abbrev pub GatherOr : ShelfValue → ShelfValue → Result (Unit {0}) RunFault → Type 0
GatherOr old new (Ok u) = IsWell old new × (new.room.room.retired ≡ [])
GatherOr old new (Err fault) = FaultOf old new fault

-- what gathering does, and erasing what is retired then
pub record GathersFrom (old new : ShelfValue) (result : Result (Unit {0}) RunFault) : Type 0 where
  pub leaves : Leaves old new
  pub unsealed : Unsealed old.room.room new.room.room
  pub gather : GatherOr old new result

-- so where the policy names parts to gather; else nothing is done
abbrev pub GathersNamed : ShelfValue → ShelfValue → Result (Unit {0}) RunFault → Type 0
GathersNamed old new result = ((new ≡ old) × (result ≡ Ok tt) × (young_run (space_of old.room.room) old.room.room.parts ≡ None)) ⊎ (((from : ℕ) × (young_run (space_of old.room.room) old.room.room.parts ≡ Some from)) × GathersFrom old new result)

-- a region is free for a new epoch, or none can be made free
abbrev pub FreeOr : ShelfValue → ShelfValue → Result Bool RunFault → Type 0
FreeOr old new (Ok true) = IsWell old new × (2 ≤ length new.room.room.free)
FreeOr old new (Ok false) = IsWell old new × (length new.room.room.free < 2) × NoneMerge new.room
FreeOr old new (Err fault) = FaultOf old new fault

pub record Frees (old new : ShelfValue) (result : Result Bool RunFault) : Type 0 where
  pub leaves : Leaves old new
  pub unsealed : Unsealed old.room.room new.room.room
  pub free : FreeOr old new result

-- a seal, and then the merges that the policy names
abbrev pub SealsAndTidiesOr : ShelfValue → ShelfValue → Result (Unit {0}) RunFault → Type 0
SealsAndTidiesOr old new (Ok u) = IsWell old new × IsSealed old.room.room new.room.room
SealsAndTidiesOr old new (Err fault) = FaultOf old new fault × (Unsealed old.room.room new.room.room ⊎ IsSealed old.room.room new.room.room)

pub record SealsAndTidies (old new : ShelfValue) (result : Result (Unit {0}) RunFault) : Type 0 where
  pub leaves : Leaves old new
  pub seals : SealsAndTidiesOr old new result

-- what waits is sealed where the rows do not fit its region any more
abbrev pub is_epoch_full : Fit → Bool
is_epoch_full fit.Fits = false
is_epoch_full (fit.Shut epoch) = false
is_epoch_full (fit.Number epoch place) = false
is_epoch_full (fit.TooLarge need room) = false
is_epoch_full (fit.Full free live retired) = false
is_epoch_full (fit.EpochFull need room) = true

-- What waits was sealed where it alone was why the rows did not fit; else nothing was done.
abbrev pub SealsIfFullOr : ℕ → ShelfValue → ShelfValue → Result (Unit {0}) RunFault → Type 0
SealsIfFullOr cost old new (Ok u) =
    ((new ≡ old) × (is_epoch_full (fit_of old.room.room cost) ≡ false)) ⊎ ((is_epoch_full (fit_of old.room.room cost) ≡ true) × IsWell old new × IsSealed old.room.room new.room.room)
SealsIfFullOr cost old new (Err fault) = (is_epoch_full (fit_of old.room.room cost) ≡ true) × FaultOf old new fault × (Unsealed old.room.room new.room.room ⊎ IsSealed old.room.room new.room.room)

pub record SealsIfFull (cost : ℕ) (old new : ShelfValue) (result : Result (Unit {0}) RunFault) : Type 0 where
  pub leaves : Leaves old new
  pub seals : SealsIfFullOr cost old new result

-- a region for an epoch in which nothing waits, or the refusal
abbrev pub RegionOr : ShelfValue → ShelfValue → Bool → Bool → Result (Option Why) RunFault → Type 0
RegionOr old new full full' (Ok None) = IsWell old new × (2 ≤ length new.room.room.free) × (full' ≡ full)
RegionOr old new full full' (Ok (Some why.Full)) = IsWell old new × HasNoRegion new.room.room × ((full ≡ true) ⊎ IsFull new.room) × (full' ≡ true)
RegionOr old new full full' (Ok (Some why.Large)) = ⊥
RegionOr old new full full' (Ok (Some why.Bucket)) = ⊥
RegionOr old new full full' (Ok (Some why.Number)) = ⊥
RegionOr old new full full' (Err fault) = FaultOf old new fault × (full' ≡ full)

pub record FindsRegion (old new : ShelfValue) (full full' : Bool) (result : Result (Option Why) RunFault) : Type 0 where
  pub leaves : Leaves old new
  pub unsealed : Unsealed old.room.room new.room.room
  pub at_once : full ≡ true → (new ≡ old) × (result ≡ Ok (Some why.Full))
  pub region : RegionOr old new full full' result
