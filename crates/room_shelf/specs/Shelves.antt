-- A room with the view that is out for loading, or none.
use Rattle.std.specs.Prelude.{◌≡◌, ◌⊎◌, ℕ, ◌+◌, ◌≤◌, min, false, true, List, [], ◌++◌, Option, Some, None, slice_set, Any, Contains, Result, Ok, Err}
use Rattle.std.specs.List.{AllByRecursion, list_all}
use Rattle.fine_model.specs.declared.FetchFault.{FetchFault}
use Rattle.fine_model.specs.declared.FetchFault.TheVariants as fetch_fault
use Rattle.fine_model.specs.declared.NodeId.{NodeId}
use Rattle.fine_model.specs.declared.Row.{Row}
use Rattle.fine_model.specs.declared.law.RoomState.{RoomState}
use Rattle.fine_model.specs.Becomes.{Becomes}
use Rattle.fine_model.specs.Boards.{buffer_at, is_empty}
use Rattle.fine_model.specs.Chain.{regions_of}
use Rattle.fine_model.specs.Faults.{HasRisen, last_count}
use Rattle.fine_model.specs.History.{Commit, all_rows, upto}
use Rattle.fine_model.specs.Nodes.{Agrees}
use Rattle.fine_model.specs.Views.{SameSeen, TellsRowsOf}
use Rattle.log_disk.specs.Disk.{Eye, Told}
use Rattle.node_fetch.specs.Fetched.{HasBadEntry, HasBadRow}
use Rattle.partition_hold.specs.Sources as source
use Rattle.partition_hold.specs.Sources.{tells_rows}
use Rattle.partition_hold.specs.Views.{ViewValue}
use Rattle.epoch_room.specs.Meaning.{GoesOnStanding, Stands}
use Rattle.epoch_room.specs.Returns.{IsPosted}
use Rattle.epoch_room.specs.Value.{RoomValue}
use Rattle.epoch_room.specs.Whole.{IsWhole}

-- a room, and the view that is out
pub record ShelfValue : Type 0 where
  pub room : RoomValue
  pub view : Option ViewValue

-- The view shows all that is sealed, through an eye that alone stands on the board. The room is open: each call that may shut it is made with no view out,
-- or makes the view.
pub record IsOut (room : RoomState) (view : ViewValue) : Type 0 where
  pub seat : view.seat ≡ 1
  pub upto : view.upto ≡ room.sealed
  pub parts : view.parts ≡ room.parts
  pub region_len : view.region_len ≡ room.region_len
  pub opened : room.is_shut ≡ false
  pub posted : IsPosted room view
  pub alone : list_all is_empty (slice_set room.board (buffer_at view.seat view.buffer) None) ≡ true

-- nothing is out but the view
abbrev pub IsShelf : RoomState → Option ViewValue → Type 0
IsShelf room None = list_all is_empty room.board ≡ true
IsShelf room (Some view) = IsOut room view

-- ---- what it tells

-- the rows that the live parts have, by what a read of the disk gives
abbrev pub tells_log : ShelfValue → List Row → Type 0
tells_log s rows = TellsRowsOf s.room.room.image s.room.room.region_len s.room.room.parts rows

-- an eye that names all live parts tells what a read of the disk gives there
pub record SeesLive (room : RoomState) (eye : Eye) : Type 0 where
  pub regions : List ℕ
  pub same : SameSeen regions room.image eye.told
  pub named : AllByRecursion (λ p. AllByRecursion (Contains regions) (regions_of p)) room.parts
  pub region_len : eye.region_len ≡ room.region_len

-- A view shows all that is sealed of an open room, by an eye that sees the live parts.
pub record ShowsLog (room : RoomState) (view : ViewValue) : Type 0 where
  pub upto : view.upto ≡ room.sealed
  pub parts : view.parts ≡ room.parts
  pub region_len : view.region_len ≡ room.region_len
  pub opened : room.is_shut ≡ false
  pub sees : SeesLive room view.eye

-- what a view of a room would show, by an eye of which nothing is known but what it tells and the length of its regions
abbrev pub sight : RoomValue → ViewValue
sight room = record {
  eye = record { number = 0; regions = []; region_len = room.room.region_len; told = room.room.image; faults = 0; taken = 0 };
  parts = room.room.parts;
  upto = room.room.sealed;
  seat = 0;
  buffer = 0;
  region_len = room.room.region_len;
}

-- ---- what loads change

-- the count of all faults, that of the view that is out included, which is added to the disk's as the view is taken back
abbrev pub count_of : Option ViewValue → ℕ
count_of None = 0
count_of (Some view) = view.eye.faults

abbrev pub total : ShelfValue → ℕ
total s = s.room.disk.faults + count_of s.view

-- the board, the eyes and the counts of another state, and whether it was shut
abbrev pub seen_as : RoomState → RoomState → RoomState
seen_as room other = record room { board = other.board; is_shut = other.is_shut; lost = other.lost; eyes = other.eyes; given = other.given; faults = other.faults; own_faults = other.own_faults }

-- A room some loads later: the log, the open epoch and the merge that is out are as they were, and so is what the disk tells.
pub record IsRoomLater (old new : RoomValue) : Type 0 where
  pub room : new.room ≡ seen_as old.room new.room
  pub target : new.target ≡ old.target
  pub entry : new.entry ≡ old.entry
  pub told : new.disk.told ≡ old.disk.told
  pub regions : new.disk.regions ≡ old.disk.regions
  pub region_len : new.disk.region_len ≡ old.disk.region_len
  pub stands : GoesOnStanding old new
  pub becomes : Becomes old.room new.room

-- so is its shelf then, whatever view is out
abbrev pub IsLater : ShelfValue → ShelfValue → Type 0
IsLater old new = IsRoomLater old.room new.room

-- and none of these loads failed
pub record IsClean (old new : ShelfValue) : Type 0 where
  pub count : total new ≡ total old
  pub own : new.room.disk.own_faults ≡ old.room.disk.own_faults
  pub shut : new.room.room.is_shut ≡ old.room.room.is_shut

-- what the live parts tell is not in the grammar
abbrev pub TellsNone : ShelfValue → Type 0
TellsNone s = (rows : List Row) → tells_log s rows → ⊥

-- What a fault of a load says: a failure that the count of all faults rose, or that the room is shut; damage that a place of a live part is bad by
-- what was read, and that the live parts tell no rows.
abbrev pub Fails : ShelfValue → FetchFault → ShelfValue → Type 0
Fails old fetch_fault.Failed new = HasRisen (total old) (total new) ⊎ (new.room.room.is_shut ≡ true)
Fails old (fetch_fault.BadRow region at) new =
    TellsNone old × ((eye : Eye) × SeesLive old.room.room eye × ((node : NodeId) × Any (λ p. HasBadRow eye.told old.room.room.region_len p node (record { region = region; at = at })) old.room.room.parts))
Fails old (fetch_fault.BadIndex region at) new =
    TellsNone old × ((eye : Eye) × SeesLive old.room.room eye × Any (λ p. HasBadEntry eye.told old.room.room.region_len p (record { region = region; at = at })) old.room.room.parts)
Fails old fetch_fault.NoMemory new = Unit {0}

-- ---- the view

abbrev pub shelf : RoomValue → Option ViewValue → ShelfValue
shelf room view = record { room = room; view = view }

-- a view is out, whose eye sees the live parts, and nothing failed
pub record HasView (old : RoomValue) (out : Option ViewValue) (new : RoomValue) (view : ViewValue) : Type 0 where
  pub is_out : IsOut new.room view
  pub sees : SeesLive new.room view.eye
  pub later : IsLater (shelf old out) (shelf new (Some view))
  pub clean : IsClean (shelf old out) (shelf new (Some view))

-- why no view could be made: the room is shut, or memory ran out in an open room, which is as it was
abbrev pub WhyNone : FetchFault → RoomValue → RoomValue → Type 0
WhyNone fetch_fault.Failed old new = new.room.is_shut ≡ true
WhyNone fetch_fault.NoMemory old new = (old.room.is_shut ≡ false) × (new ≡ old)
WhyNone _ old new = ⊥

-- no view was out, and none could be made
pub record LacksView (old : RoomValue) (out : Option ViewValue) (new : RoomValue) (fault : FetchFault) : Type 0 where
  pub none : out ≡ None
  pub board : list_all is_empty new.room.board ≡ true
  pub later : IsLater (shelf old out) (shelf new None)
  pub why : WhyNone fault old new
  pub no_lower : total (shelf old out) ≤ total (shelf new None)

abbrev pub ViewOr : RoomValue → Option ViewValue → RoomValue → Result ViewValue FetchFault → Type 0
ViewOr old out new (Ok view) = HasView old out new view
ViewOr old out new (Err fault) = LacksView old out new fault

-- a count as it is, or as it stands still at its last value
abbrev pub IsCountOf : ℕ → ℕ → Type 0
IsCountOf count now = (now ≡ count) ⊎ (now ≡ min count last_count)

-- the view was taken back, if one was out, which changes nothing else
pub record Rests (old : RoomValue) (out : Option ViewValue) (new : RoomValue) : Type 0 where
  pub board : list_all is_empty new.room.board ≡ true
  pub later : IsLater (shelf old out) (shelf new None)
  pub count : IsCountOf (total (shelf old out)) new.disk.faults
  pub own : new.disk.own_faults ≡ old.disk.own_faults
  pub shut : new.room.is_shut ≡ old.room.is_shut

-- ---- laws

-- loads through a view that is out are loads of the shelf: the view is out, its rows are those of the live parts, and what its fault says is said of both
pub record ReadsOn (old : RoomValue) (out : Option ViewValue) (new : RoomValue) (view read : ViewValue) : Type 0 where
  pub has : source.IsClean view read → HasView old out new read
  pub is_out : IsOut new.room read
  pub sees : SeesLive new.room read.eye
  pub later : IsLater (shelf old out) (shelf new (Some read))
  pub no_lower : total (shelf old out) ≤ total (shelf new (Some read))
  pub own : new.disk.own_faults ≡ old.disk.own_faults
  pub shut : new.room.is_shut ≡ old.room.is_shut
  pub fails : (fault : FetchFault) → source.Fails view fault read → Fails (shelf old out) fault (shelf new (Some read))

abbrev pub ReadsLaw : Type 0
ReadsLaw = (old : RoomValue) (out : Option ViewValue) (new : RoomValue) (view read : ViewValue) → HasView old out new view → source.IsLater view read → ReadsOn old out new view read

-- a view that shows it tells the rows of the live parts
abbrev pub TellsLaw : Type 0
TellsLaw = (room : RoomValue) (out : Option ViewValue) (view : ViewValue) (rows : List Row) → ShowsLog room.room view → tells_log (shelf room out) rows → tells_rows view rows

-- where a whole room is open and stands for a history, and its disk tells its bytes, the live parts tell rows that agree with what is sealed
abbrev pub LogLaw : Type 0
LogLaw =
    (room : RoomValue) (out : Option ViewValue) (before told : Told) (first : List Row) (e : ℕ) (history : List Commit) → IsWhole room → room.room.is_shut ≡ false → room.entry.told ≡ Some before → room.disk.told ≡ Some told → Stands room first e history
    → (rows : List Row) × tells_log (shelf room out) rows × Agrees rows (first ++ all_rows (upto history room.room.sealed))
