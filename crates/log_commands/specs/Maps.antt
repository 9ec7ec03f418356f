-- Reading the map of a room.
use Rattle.std.specs.Prelude.{◌≡◌, ◌⊎◌, true, false, List, Any, None, Result, Ok, Err}
use Rattle.std.specs.List.{AllByRecursion, list_all}
use Rattle.fine_model.specs.declared.Damage.{Damage}
use Rattle.fine_model.specs.declared.Damage.TheVariants as damage
use Rattle.fine_model.specs.declared.NodeId.{NodeId}
use Rattle.fine_model.specs.declared.Row.{Row}
use Rattle.fine_model.specs.declared.RunFault.{RunFault}
use Rattle.fine_model.specs.declared.RunFault.TheVariants as run_fault
use Rattle.fine_model.specs.declared.law.RoomState.{RoomState}
use Rattle.fine_model.specs.Boards.{is_empty}
use Rattle.fine_model.specs.Map.{Pair}
use Rattle.fine_model.specs.Trees.{IsSound, map_of}
use Rattle.log_disk.specs.Disk.{Eye, HasRisen}
use Rattle.node_cache.specs.Given.{Finds}
use Rattle.btree_nodes.specs.declared.fault.TreeFault.{TreeFault}
use Rattle.btree_nodes.specs.declared.fault.TreeFault.TheVariants.{Source, Unfit}
use Rattle.node_fetch.specs.Fetched.{HasBadEntry, HasBadRow, IsReplayOf}
use Rattle.partition_index.specs.Parts.{IsSeen}
use Rattle.epoch_room.specs.Value.{RoomValue}
use Rattle.room_steps.specs.Merging.{of_fetch}
use Rattle.room_shelf.specs.Shelves.{IsCountOf, IsLater, SeesLive, shelf, tells_log}
use Rattle.log_commands.specs.Reading.{FindsAll, MeetsUnfit}

-- the rows that the live parts of a room have, by what a read of its disk gives
abbrev pub tells_room : RoomValue → List Row → Type 0
tells_room room rows = tells_log (shelf room None) rows

-- an eye through which the live parts of a room are read: it tells what a read of the disk gives there
pub record LooksOn (room : RoomState) (eye : Eye) : Type 0 where
  pub sees : SeesLive room eye
  pub seen : AllByRecursion (IsSeen eye) room.parts

-- the contents that such an eye may find in a node
abbrev pub finds_by : RoomState → Eye → Finds
finds_by room eye id found = IsReplayOf eye room.parts id found

-- the pairs of all trees were found, in a room that is open
pub record FindsMap (room : RoomValue) (pairs : List Pair) : Type 0 where
  pub opened : room.room.is_shut ≡ false
  pub eye : Eye
  pub looks : LooksOn room.room eye
  pub found : FindsAll (tells_room room) (finds_by room.room eye) pairs

-- What is named as damaged, by what was read: a row or an index entry of a live part, or a node that is unfit.
abbrev pub IsNamed : RoomValue → Damage → Type 0
IsNamed room (damage.Region region at) =
    (eye : Eye) × LooksOn room.room eye × (((id : NodeId) × Any (λ p. HasBadRow eye.told room.room.region_len p id (record { region = region; at = at })) room.room.parts)
    ⊎ Any (λ p. HasBadEntry eye.told room.room.region_len p (record { region = region; at = at })) room.room.parts)
IsNamed room (damage.Node id) = (eye : Eye) × LooksOn room.room eye × MeetsUnfit (tells_room room) (finds_by room.room eye) id
IsNamed room _ = ⊥

-- the live parts tell no sound rows
abbrev pub TellsNoneSound : RoomValue → Type 0
TellsNoneSound room = (rows : List Row) → tells_room room rows → IsSound rows → ⊥

-- no call failed: the counts are what they were, or stand still at their last value
pub record IsWell (old new : RoomValue) : Type 0 where
  pub faults : IsCountOf old.disk.faults new.disk.faults
  pub own_faults : new.disk.own_faults ≡ old.disk.own_faults
  pub shut : new.room.is_shut ≡ old.room.is_shut

-- The map, or the fault that came: a failed disk where the count rose or the room was shut before, and damage only where the live parts tell no sound rows. Want of memory
-- is free.
abbrev pub AnswersMap : RoomValue → RoomValue → Result (List Pair) RunFault → Type 0
AnswersMap old new (Ok pairs) = IsWell old new × FindsMap old pairs
AnswersMap old new (Err run_fault.Memory) = Unit {0}
AnswersMap old new (Err run_fault.Disk) = HasRisen old.disk.faults new.disk.faults ⊎ (old.room.is_shut ≡ true)
AnswersMap old new (Err (run_fault.Damaged what)) = IsWell old new × TellsNoneSound old × IsNamed old what

-- The map was read, or not: no view is out, and the log is as it was.
pub record ReadsMap (old new : RoomValue) (result : Result (List Pair) RunFault) : Type 0 where
  pub board : list_all is_empty new.room.board ≡ true
  pub later : IsLater (shelf old None) (shelf new None)
  pub answer : AnswersMap old new result

-- ---- faults

-- the fault that reading tells; a scan changes no tree, so that no limit is met
abbrev pub of_tree : TreeFault → RunFault
of_tree (Source fault) = of_fetch fault
of_tree (Unfit id) = run_fault.Damaged (damage.Node id)
of_tree _ = run_fault.Memory

-- what is answered of what was read
abbrev pub told_as : Result (List Pair) TreeFault → Result (List Pair) RunFault
told_as (Ok pairs) = Ok pairs
told_as (Err fault) = Err (of_tree fault)

-- what is answered of these rows
abbrev pub AnswersRows : List Row → Result (List Pair) RunFault → Type 0
AnswersRows rows (Ok pairs) = pairs ≡ map_of rows
AnswersRows rows (Err (run_fault.Damaged what)) = IsSound rows → ⊥
AnswersRows rows (Err _) = Unit {0}
