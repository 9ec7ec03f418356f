-- What one thread does with a room between transactions.
use Rattle.std.specs.Prelude.{◌≡◌, ◌⊎◌, ℕ, ◌+◌, ◌<◌, ◌≤◌, Bool, true, false, List, [], length, Option, Some, None, Result, Ok, Err, OnOk}
use Rattle.fine_model.specs.declared.Damage.{Damage}
use Rattle.fine_model.specs.declared.Damage.TheVariants as damage
use Rattle.fine_model.specs.declared.FetchFault.{FetchFault}
use Rattle.fine_model.specs.declared.FetchFault.TheVariants as fetch_fault
use Rattle.fine_model.specs.declared.RunFault.{RunFault}
use Rattle.fine_model.specs.declared.RunFault.TheVariants as run_fault
use Rattle.fine_model.specs.declared.Why.{Why}
use Rattle.fine_model.specs.declared.Why.TheVariants as why
use Rattle.fine_model.specs.declared.law.RoomState.{RoomState}
use Rattle.fine_model.specs.Becomes.{Becomes, IsStuck}
use Rattle.fine_model.specs.Faults.{HasRisen}
use Rattle.fine_model.specs.History.{Commit}
use Rattle.fine_model.specs.RowBytes.{greatest, short_header}
use Rattle.epoch_room.specs.Fitting.{fit_of, is_pressed}
use Rattle.epoch_room.specs.Value.{RoomValue}
use Rattle.epoch_room.specs.Whole.{IsWhole}
use Rattle.epoch_room.specs.declared.answers.Fit.{Fit}
use Rattle.epoch_room.specs.declared.answers.Fit.TheVariants as fit
use Rattle.merge_policy.specs.declared.figures.Space.{Space}
use Rattle.merge_policy.specs.Choices.{Picks, aims_of, neighbours, question}
use Rattle.merge_policy.specs.Young.{young_run}
use Rattle.room_merges.specs.Near.{BlamedFirst, IsReadRefused, NoneFitNow}
use Rattle.room_shelf.specs.Shelves.{IsCountOf, IsShelf, ShelfValue, total}
use Rattle.run_laws.specs.Needs.{HasNoRegion, IsSealed, Unsealed}
use Rattle.run_laws.specs.Runs.{OfSound}
use Rattle.run_laws.specs.SoFar.{GoesOn}
use Rattle.room_steps.specs.Made.{MadeOn}

-- ---- what each step leaves, whatever it answers

-- At most the view is out, and no merge is. No entry was added, and the run goes on with all that was committed. The live parts are made of those that were, and of the epochs that were sealed.
pub record Leaves (old new : ShelfValue) : Type 0 where
  pub shelf : IsShelf new.room.room new.view
  pub whole : IsWhole new.room
  pub no_job : new.room.room.job ≡ None
  pub entry : new.room.entry ≡ old.room.entry
  pub places : new.room.room.places ≡ old.room.room.places
  pub most : new.room.room.sealed ≤ greatest
  pub becomes : Becomes old.room.room new.room.room
  pub goes_on : (entry : RoomValue) (history : List Commit) → GoesOn entry old.room history → GoesOn entry new.room history
  pub made : MadeOn old.room new.room

-- ---- faults

-- no call failed: the count of all faults is as it was, or stands still at its last value, and the room is as open as it was
pub record NoneFailed (old new : ShelfValue) : Type 0 where
  pub count : IsCountOf (total old) (total new)
  pub own : new.room.disk.own_faults ≡ old.room.disk.own_faults
  pub shut : new.room.room.is_shut ≡ old.room.room.is_shut

-- an earlier call had failed, and nothing is changed
pub record WasShut (old new : ShelfValue) : Type 0 where
  pub shut : old.room.room.is_shut ≡ true
  pub same : new ≡ old

-- a call failed: the count of all faults rose, from what it was as the view was taken back
pub record HasFailed (old new : ShelfValue) : Type 0 where
  pub rested : ℕ
  pub count : IsCountOf (total old) rested
  pub rises : HasRisen rested (total new)
  pub no_lower : (rested ≤ total new) × (old.room.disk.own_faults ≤ new.room.disk.own_faults)

-- no call failed, and the room is open
pub record IsWell (old new : ShelfValue) : Type 0 where
  pub none_failed : NoneFailed old new
  pub opened : new.room.room.is_shut ≡ false

-- A fetch names a row or an index entry as damage, by the place where it is bad.
pub record NamesRead (what : Damage) : Type 0 where
  pub region : ℕ
  pub at : ℕ
  pub is : what ≡ damage.Region region at
  pub fault : FetchFault
  pub of_read : (fault ≡ fetch_fault.BadRow region at) ⊎ (fault ≡ fetch_fault.BadIndex region at)

-- A place of the log is bad: a row or an index entry of two neighbours of the chain, by what was read through a view that told what a read of the disk does.
-- So no sound log was told at entry. Those two are the first that were not tried in vain, through a view of the chain, from an epoch on.
pub record NamesPlace (new : RoomValue) (what : Damage) : Type 0 where
  pub read : NamesRead what
  pub open read use *
  pub before : RoomValue
  pub refused : IsReadRefused before new fault
  pub from : ℕ
  pub blamed : BlamedFirst from new fault
  pub unsound : (entry : RoomValue) (history : List Commit) → GoesOn entry new history → OfSound entry (λ first e. ⊥)

-- how a fault came
abbrev pub FaultOf : ShelfValue → ShelfValue → RunFault → Type 0
FaultOf old new run_fault.Disk = WasShut old new ⊎ HasFailed old new
FaultOf old new run_fault.Memory = IsWell old new
FaultOf old new (run_fault.Damaged what) = IsWell old new × NamesPlace new.room what

-- ---- sealing

-- by the answer; a failed seal shuts the room, and what waited still waits in it
abbrev pub SealsOr : ShelfValue → ShelfValue → Result ℕ RunFault → Type 0
SealsOr old new (Ok epoch) = IsWell old new × IsSealed old.room.room new.room.room × (epoch ≡ new.room.room.sealed)
SealsOr old new (Err run_fault.Disk) = FaultOf old new run_fault.Disk × Unsealed old.room.room new.room.room × (new.room.room.is_shut ≡ true)
SealsOr old new (Err run_fault.Memory) = FaultOf old new run_fault.Memory × Unsealed old.room.room new.room.room
SealsOr old new (Err (run_fault.Damaged what)) = ⊥

-- the view was taken back, whatever the answer
pub record SealsWaiting (old new : ShelfValue) (result : Result ℕ RunFault) : Type 0 where
  pub leaves : Leaves old new
  pub rested : new.view ≡ None
  pub seals : SealsOr old new result

-- ---- merging behind a seal

-- as many free regions are spared as a new epoch asks for
abbrev pub space_of : RoomState → Space
space_of room = record { region_len = room.region_len; free = length room.free; is_pressed = is_pressed room; spare = 2; sealed = room.sealed }

-- which neighbours the policy merges next, where none were measured: those at an epoch, or none
abbrev pub IsNamed : RoomState → Option ℕ → Type 0
IsNamed room answer = Picks (question (space_of room) []) (neighbours room.parts) (aims_of (space_of room) room.parts) answer

-- nothing is retired, and no two neighbours fit what is free
pub record NoneMerge (room : RoomValue) : Type 0 where
  pub none_retired : room.room.retired ≡ []
  pub none_fit : NoneFitNow room

-- the policy names parts to gather, or neighbours
abbrev pub NamesSome : RoomState → Type 0
NamesSome room = (from : ℕ) × ((young_run (space_of room) room.parts ≡ Some from) ⊎ IsNamed room (Some from))

-- it goes on as long as the policy names neighbours and some fit
abbrev pub TidyOr : ShelfValue → ShelfValue → Result (Unit {0}) RunFault → Type 0
TidyOr old new (Ok u) = NoneFailed old new × (IsNamed new.room.room None ⊎ NoneMerge new.room)
TidyOr old new (Err fault) = FaultOf old new fault

-- nothing is changed, and the view stays out, unless the policy named some parts
pub record Tidies (old new : ShelfValue) (result : Result (Unit {0}) RunFault) : Type 0 where
  pub leaves : Leaves old new
  pub unsealed : Unsealed old.room.room new.room.room
  pub called : (new ≡ old) ⊎ NamesSome old.room.room
  pub tidy : TidyOr old new result
  -- where anything was done, what was retired is erased
  pub erased : OnOk result ((new ≡ old) ⊎ (new.room.room.retired ≡ []))

-- ---- room for rows

-- no number is left: of epochs, or of places
abbrev pub IsSpent : RoomState → Type 0
IsSpent room = (room.sealed ≡ greatest) ⊎ (room.places ≡ greatest)

-- Besides, nothing can be merged. Where a sound log was told at entry, it is stuck: it takes nothing any more.
pub record IsFull (room : RoomValue) : Type 0 where
  pub none_merge : NoneMerge room
  pub stuck : (entry : RoomValue) (history : List Commit) → GoesOn entry room history → OfSound entry (λ first e. IsStuck room.room)

-- By the answer. The flag that the log is full is set by a refusal that was not made by it.
abbrev pub MakesOr : ℕ → ShelfValue → ShelfValue → Bool → Bool → Result (Option Why) RunFault → Type 0
MakesOr cost old new full full' (Ok None) = IsWell old new × (fit_of new.room.room cost ≡ fit.Fits) × (full' ≡ full)
MakesOr cost old new full full' (Ok (Some why.Large)) = (new ≡ old) × (old.room.room.region_len < short_header + cost) × (full' ≡ full)
MakesOr cost old new full full' (Ok (Some why.Number)) = IsWell old new × IsSpent new.room.room × (full' ≡ full)
MakesOr cost old new full full' (Ok (Some why.Full)) = IsWell old new × HasNoRegion new.room.room × ((full ≡ true) ⊎ IsFull new.room) × (full' ≡ true)
MakesOr cost old new full full' (Ok (Some why.Bucket)) = ⊥
MakesOr cost old new full full' (Err fault) = FaultOf old new fault × (full' ≡ full)

-- By how the rows fit before: what fits, and what is refused at once, changes nothing. What waits is sealed only where it leaves too little of its region.
abbrev pub ByFit : Bool → ShelfValue → ShelfValue → Result (Option Why) RunFault → Fit → Type 0
ByFit full old new result fit.Fits = (new ≡ old) × (result ≡ Ok None)
ByFit full old new result (fit.Shut epoch) = (new ≡ old) × (result ≡ Err run_fault.Disk)
ByFit full old new result (fit.Number epoch place) = (new ≡ old) × (result ≡ Ok (Some why.Number))
ByFit full old new result (fit.TooLarge need room) = (new ≡ old) × (result ≡ Ok (Some why.Large))
ByFit full old new result (fit.Full free live retired) = Unsealed old.room.room new.room.room × (full ≡ true → (new ≡ old) × (result ≡ Ok (Some why.Full)))
ByFit full old new result (fit.EpochFull need room) = (Unsealed old.room.room new.room.room ⊎ IsSealed old.room.room new.room.room) × OnOk result (IsSealed old.room.room new.room.room)

pub record MakesRoom (cost : ℕ) (old new : ShelfValue) (full full' : Bool) (result : Result (Option Why) RunFault) : Type 0 where
  pub leaves : Leaves old new
  pub by_fit : ByFit full old new result (fit_of old.room.room cost)
  pub makes : MakesOr cost old new full full' result
