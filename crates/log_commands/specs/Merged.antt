-- What merging neighbours until none fit leaves.
use Rattle.std.specs.Prelude.{◌≡◌, ◌⊎◌, ℕ, ◌+◌, ◌≤◌, Bool, true, false, List, [], length, count_by, Option, Some, Result, Ok, Err, option_map}
use Rattle.std.specs.List.{list_all}
use Rattle.log_disk.specs.Disk.{Disk, HasRisen, Told, IsImageSince, clock_of}
use Rattle.log_disk.specs.Moments.{ContinuesOn}
use Rattle.fine_model.specs.declared.Damage.{Damage}
use Rattle.fine_model.specs.declared.Part.{Part}
use Rattle.fine_model.specs.declared.Row.{Row}
use Rattle.fine_model.specs.declared.RunFault.{RunFault}
use Rattle.fine_model.specs.declared.RunFault.TheVariants as run_fault
use Rattle.fine_model.specs.Boards.{is_empty}
use Rattle.fine_model.specs.Causes.{NoNeighboursFit}
use Rattle.fine_model.specs.Chain.{Shows, chain, chain_end}
use Rattle.fine_model.specs.Damages.{IsBadOf}
use Rattle.fine_model.specs.Nodes.{Agrees}
use Rattle.fine_model.specs.Regions.{Image, is_sealed}
use Rattle.fine_model.specs.Views.{SameSeen, TellsRowsOf}
use Rattle.damage_laws.specs.Made.{AreMadeOf}
use Rattle.epoch_room.specs.Steps.{KeepsCounts}
use Rattle.epoch_room.specs.Value.{RoomValue}
use Rattle.epoch_room.specs.Whole.{IsWhole}
use Rattle.room_merges.specs.Near.{AllInVain, BlamedFirst, KeepsRest, NoneFitNow}
use Rattle.room_steps.specs.Made.{MakesWith}
use Rattle.room_steps.specs.Steps.{NamesRead}
use Rattle.script_text.specs.Streams.{Puts}
use Rattle.log_commands.specs.Ends.{status_of, text_of}
use Rattle.log_commands.specs.Found.{IsUntouched, SeesLog}
use Rattle.log_commands.specs.Origins.{AreFrom}

-- ---- a room

-- What each merge leaves, whatever it answers: nothing is out, nothing was added or sealed, the room stands for what it stood for, and its live parts
-- come from those that it had.
pub record GoesOn (old new : RoomValue) : Type 0 where
  pub whole : IsWhole new
  pub none_out : list_all is_empty new.room.board ≡ true
  pub rest : KeepsRest old new
  pub open rest use *
  pub region_len : new.room.region_len ≡ old.room.region_len
  pub told : SameSeen [] old.room.image new.room.image
  pub from : AreFrom old.room.region_len old.room.image new.room.image old.room.parts new.room.parts
  pub makes : MakesWith [] old new

-- no call failed, and the room is open
pub record IsWell (old new : RoomValue) : Type 0 where
  pub counts : KeepsCounts old.disk new.disk
  pub opened : new.room.is_shut ≡ false

-- a call failed: the count of all faults rose, and the disk's own did not fall
pub record HasFailed (old new : Disk) : Type 0 where
  pub rises : HasRisen old.faults new.faults
  pub no_lower : (old.faults ≤ new.faults) × (old.own_faults ≤ new.own_faults)

-- nothing is retired, and no two neighbours fit what is free: all were tried in vain, by what was read of them
pub record NoneMerge (room : RoomValue) : Type 0 where
  pub none_retired : room.room.retired ≡ []
  pub none_fit : NoneFitNow room
  pub in_vain : AllInVain room

-- A place of the log is bad: a row or an index entry of the first two neighbours of the chain that were not tried in vain, by what was read through a view
-- that told what a read of the disk does; and a read tells no rows of the live parts.
pub record NamesPlace (room : RoomValue) (what : Damage) : Type 0 where
  pub read : NamesRead what
  pub open read use *
  pub blamed : BlamedFirst 1 room fault
  pub none_told : (rows : List Row) → TellsRowsOf room.room.image room.room.region_len room.room.parts rows → ⊥

-- how a fault came
abbrev pub FaultOf : RoomValue → RoomValue → RunFault → Type 0
FaultOf old new run_fault.Memory = KeepsCounts old.disk new.disk
FaultOf old new run_fault.Disk = HasFailed old.disk new.disk
FaultOf old new (run_fault.Damaged what) = IsWell old new × NamesPlace new what

-- two neighbours were merged, or none fit
abbrev pub OnceOr : RoomValue → RoomValue → Result Bool RunFault → Type 0
OnceOr old new (Ok true) = IsWell old new × (length new.room.parts + 1 ≡ length old.room.parts)
OnceOr old new (Ok false) = IsWell old new × NoneMerge new
OnceOr old new (Err fault) = FaultOf old new fault

pub record MergesOnce (old new : RoomValue) (result : Result Bool RunFault) : Type 0 where
  pub goes_on : GoesOn old new
  pub once : OnceOr old new result

-- as long as merging goes well
pub record IsMerging (old new : RoomValue) : Type 0 where
  pub goes_on : GoesOn old new
  pub well : IsWell old new

-- as many neighbours were merged as fit
abbrev pub AllOr : RoomValue → RoomValue → Result (Unit {0}) RunFault → Type 0
AllOr old new (Ok u) = IsWell old new × NoneMerge new
AllOr old new (Err fault) = FaultOf old new fault

pub record MergesAll (old new : RoomValue) (result : Result (Unit {0}) RunFault) : Type 0 where
  pub goes_on : GoesOn old new
  pub all : AllOr old new result

-- ---- a disk

-- What merging leaves of the disk, however it ended: the geometry, no eye that is open, and moments that went on. Where no chain was found, nothing was done.
-- Each image that a crash could have left since entry shows the log that the disk told then.
pub record KeepsLog (old new : Disk) : Type 0 where
  pub regions : new.regions ≡ old.regions
  pub region_len : new.region_len ≡ old.region_len
  pub no_eyes : new.eyes ≡ []
  pub time : ContinuesOn old new
  pub begun : ((parts : List Part) × SeesLog old (Ok parts)) ⊎ IsUntouched old new
  pub every_image : (before after : Told) (e : ℕ) (rows : List Row) → old.told ≡ Some before → new.told ≡ Some after → Shows old.region_len before.bytes e rows
      → (image : Image) → IsImageSince (clock_of before) after image → (shown : List Row) × Shows old.region_len image e shown × Agrees shown rows

-- On a disk that tells its bytes: they have this chain, nothing that was merged is left beside it, and no two neighbours fit.
pub record IsMergedLog (region_len : ℕ) (image : Image) (parts : List Part) : Type 0 where
  pub is_chain : chain region_len image ≡ Ok parts
  pub all_live : count_by is_sealed image ≡ length parts
  pub no_more : NoNeighboursFit region_len image parts

-- what a read of a disk gives
abbrev pub image_of : Disk → Option Image
image_of disk = option_map (λ (t : Told). t.bytes) disk.told

-- The chain was found, and as many of its neighbours were merged as fit, by what was read: this is the chain now, which ends where it did, and whose parts come from those
-- that were. No call failed.
pub record IsMerged (old new : Disk) (parts : List Part) : Type 0 where
  pub before : List Part
  pub was : SeesLog old (Ok before)
  pub ends : chain_end parts ≡ chain_end before
  pub from : AreFrom old.region_len (image_of old) (image_of new) before parts
  -- of each node a look finds in them the rows into which those are merged that one finds in the parts at entry
  pub made : (first last : Told) → old.told ≡ Some first → new.told ≡ Some last → AreMadeOf old.region_len first.bytes last.bytes before [] parts
  pub room : RoomValue
  pub whole : IsWhole room
  pub of_disk : room.disk ≡ new
  pub of_room : room.room.parts ≡ parts
  pub none_merge : NoneMerge room
  pub counts : KeepsCounts old new
  pub told : (after : Told) → new.told ≡ Some after → IsMergedLog new.region_len after.bytes parts

-- no log that shows rows is told
abbrev pub ShowsNone : Disk → Type 0
ShowsNone disk = (before : Told) (e : ℕ) (rows : List Row) → disk.told ≡ Some before → Shows disk.region_len before.bytes e rows → ⊥

-- Merging named a bad place: one of two neighbours of the chain on return, as read. No log that shows rows was told at entry, and where the disk tells its bytes the place is bad by
-- those at entry: a part that merging made is good.
pub record IsBadPlace (old new : Disk) (what : Damage) : Type 0 where
  pub before : List Part
  pub was : SeesLog old (Ok before)
  pub room : RoomValue
  pub of_disk : room.disk ≡ new
  pub names : NamesPlace room what
  pub shows_none : ShowsNone old
  pub told : (first last : Told) → old.told ≡ Some first → new.told ≡ Some last → IsBadOf old.region_len first.bytes before what

-- the chain is damaged, and the disk is as it was; or the chain was found, and a bad place of its parts
abbrev pub IsDamaged : Disk → Disk → Damage → Type 0
IsDamaged old new what = ((new ≡ old) × SeesLog old (Err what)) ⊎ IsBadPlace old new what

abbrev pub MergesOr : Disk → Disk → Result (List Part) RunFault → Type 0
MergesOr old new (Ok parts) = IsMerged old new parts
MergesOr old new (Err run_fault.Memory) = KeepsCounts old new
MergesOr old new (Err run_fault.Disk) = HasFailed old new
MergesOr old new (Err (run_fault.Damaged what)) = KeepsCounts old new × IsDamaged old new what

-- what merging a log leaves, by what is printed
pub record MergesLog (old new : Disk) (found : Result (List Part) RunFault) : Type 0 where
  pub keeps : KeepsLog old new
  pub merges : MergesOr old new found

-- ---- the steps of the call

-- what was printed of a room behind merging, by how that ended
abbrev pub found_in : RoomValue → Result (Unit {0}) RunFault → Result (List Part) RunFault
found_in room (Ok u) = Ok room.room.parts
found_in room (Err fault) = Err fault

pub record PrintsMerged (room : RoomValue) (merged : Result (Unit {0}) RunFault) (status : ℕ) (was now : Option (List ℕ)) : Type 0 where
  pub status_is : (status ≡ 5) ⊎ (status ≡ status_of (found_in room merged))
  pub printed : Puts (text_of (found_in room merged)) (status ≡ 5) was now

-- all neighbours of a room that fit were merged, and what is to be printed was
pub record EndsRoom (old : RoomValue) (disk : Disk) (status : ℕ) (was now : Option (List ℕ)) : Type 0 where
  pub new : RoomValue
  pub of_disk : disk ≡ new.disk
  pub merged : Result (Unit {0}) RunFault
  pub merges : MergesAll old new merged
  pub prints : PrintsMerged new merged status was now
