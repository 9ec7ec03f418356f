-- The steps within a turn of the room.
use Rattle.std.specs.Prelude.{◌≡◌, ◌⊎◌, ℕ, ◌+◌, ◌-◌, ◌<◌, ◌≤◌, ◌==◌, if◌then◌else◌, true, false, List, [], ◌∷◌, ◌++◌, Contains, Some, None, Result, Ok, Err, slice_get, slice_index}
use Rattle.fine_model.specs.declared.Row.{Row}
use Rattle.fine_model.specs.declared.law.RoomState.{RoomState}
use Rattle.fine_model.specs.declared.law.ViewState.{ViewState}
use Rattle.fine_model.specs.Becomes.{Becomes}
use Rattle.fine_model.specs.Boards.{buffer_at, set_of}
use Rattle.fine_model.specs.Faults.{last_count}
use Rattle.fine_model.specs.Jobs.{KeepsJob}
use Rattle.epoch_room.specs.Meaning.{Keeps, Stands, StandsForMore}
use Rattle.epoch_room.specs.Steps.{appended}
use Rattle.epoch_room.specs.Value.{RoomValue, all_regions}
use Rattle.epoch_room.specs.declared.answers.RoomFault.{RoomFault}
use Rattle.epoch_room.specs.declared.answers.RoomFault.TheVariants as room_fault
use Rattle.epoch_room.specs.declared.answers.Stamp.{Stamp}
use Rattle.node_cache.specs.Cache.{Cache}
use Rattle.partition_hold.specs.Views.{ViewValue, state_of}
use Rattle.fine_places.specs.History as places
use Rattle.fine_boxes.specs.declared.model.TurnNote.{TurnNote}
use Rattle.fine_boxes.specs.Telling.{posting}
use Rattle.fine_hall.specs.declared.law.Beginning.{Beginning}
use Rattle.fine_hall.specs.Passes.{known, turns, own_turns, published, given_up, last_room, HasPlace, LacksPlace, IsHolder}
use Rattle.fine_hall.specs.Laws.{IsRoomFor}
use Rattle.fine_hall.specs.Halls.{HallOf, MayGiveRoom, Posts, TakesRoom}
use Rattle.hall_rooms.specs.Rooms.{IsRoomPass, RoomPass, room_state, room_log}
use Rattle.hall_rooms.specs.Turning.{AddsEpoch, ErasesFirst, ErasesUnheld, LosesFirst, LosesTarget, RenewsSeats, SealedAndPosted, StillWaits, StopsPosting}
use Rattle.hall_rooms.specs.Views.{with_faults}
use Rattle.hall_rooms.specs.Posting.{PostsAll, PostsFirst, with_posted}

-- ---- an entry

-- The rows of an entry were appended to the open epoch, under this place and epoch.
pub record Appends (rows : List Row) (old new : RoomValue) (given : Stamp) : Type 0 where
  pub stamp : given ≡ record { place = old.room.places + 1; epoch = old.room.sealed + 1 }
  pub room : new ≡ appended old rows
  pub stands : StandsForMore old new rows
  pub becomes : Becomes old.room new.room
  pub job : KeepsJob old.room new.room

-- ---- a turn

-- in a turn of the pass, the room may be given back as it is
pub record InTurn (x : Beginning) (room : RoomValue) (p : RoomPass) (t : TurnNote) : Type 0 where
  pub held : HasPlace p places.room
  pub is_turn : IsHolder x p t
  pub may : MayGiveRoom room_state room_log Stands x room None 0 t p

-- no call of the turn failed
abbrev pub NoneFailed : Beginning → RoomValue → RoomPass → TurnNote → Type 0
NoneFailed x room p t = room.room.faults ≤ (last_room x p).faults + t.in_hand

-- some call of the turn failed
abbrev pub SomeFailed : Beginning → RoomValue → RoomPass → TurnNote → Type 0
SomeFailed x room p t = ((last_room x p).faults + t.in_hand < room.room.faults) ⊎ (last_count ≤ room.room.faults)

pub record IsCleanTurn (x : Beginning) (room : RoomValue) (p : RoomPass) : Type 0 where
  pub note : TurnNote
  pub turn : InTurn x room p note
  pub none_failed : NoneFailed x room p note

pub record IsFailedTurn (x : Beginning) (room : RoomValue) (p : RoomPass) : Type 0 where
  pub note : TurnNote
  pub turn : InTurn x room p note
  pub some_failed : SomeFailed x room p note

-- A turn of the pass begins: the room was taken, and stands for what the pass then saw.
pub record BeginsTurn (x : Beginning) (p p' : RoomPass) (room : RoomValue) : Type 0 where
  pub number : p'.number ≡ p.number
  pub free : LacksPlace p places.room
  pub takes : TakesRoom state_of x room.room p p'
  pub is_room : IsRoomFor room_state room_log Stands x (published p') room (turns p')
  pub clean : IsCleanTurn x room p'

-- what a pass saw and holds stays, and so do its front and what it gave up
pub record Stays (p p' : RoomPass) : Type 0 where
  pub held : (known p').held ≡ (known p).held
  pub turns : turns p' ≡ turns p
  pub own : own_turns p' ≡ own_turns p
  pub no_earlier : published p ≤ published p'
  pub front : (p'.front ≡ p.front) × (p'.buffer ≡ p.buffer)
  pub given_up : given_up p' ≡ given_up p

-- it is a pass of the hall still, of the same seat
pub record StaysPass {Q : Type 0} (hall : HallOf RoomValue Cache ViewValue Q) (p p' : RoomPass) : Type 0 where
  pub pass : IsRoomPass hall p' × (p'.number ≡ p.number)
  pub stays : Stays p p'

-- ---- sealing

-- what every step leaves that posts no view
pub record LeavesViews (old new : RoomValue) : Type 0 where
  pub entry : new.entry ≡ old.entry
  pub keeps : Keeps old new
  pub job : KeepsJob old.room new.room
  pub places : new.room.places ≡ old.room.places
  pub board : new.room.board ≡ old.room.board
  pub given : new.room.given ≡ old.room.given

-- the count of all faults has risen, or stands at its last value
abbrev pub Rises : RoomState → RoomState → Type 0
Rises old new = (old.faults < new.faults) ⊎ (last_count ≤ new.faults)

-- what waited is sealed
pub record IsSealed (old new : RoomState) : Type 0 where
  pub none_waits : new.waiting ≡ 0
  pub none_open : (new.open_rows ≡ []) × (new.used ≡ 0)
  pub sealed : new.sealed ≡ (if old.waiting == 0 then old.sealed else old.sealed + 1)
  pub epoch : (old.waiting ≡ 0 → ⊥) → AddsEpoch old new
  pub is_shut : new.is_shut ≡ old.is_shut
  pub retired : new.retired ≡ old.retired
  pub free : (new.free ≡ old.free) × (new.lost ≡ old.lost)
  pub faults : new.faults ≡ old.faults

-- the epoch is open as it was
abbrev pub SameEpochs : RoomState → RoomState → Type 0
SameEpochs old new = (new.sealed ≡ old.sealed) × (new.waiting ≡ old.waiting)

abbrev pub SealsWaitingOr : RoomValue → RoomValue → Result (Unit {0}) RoomFault → Type 0
SealsWaitingOr old new (Ok done) = LeavesViews old new × IsSealed old.room new.room × (old.room.waiting ≡ 0 → new ≡ old) × ((old.room.waiting ≡ 0 → ⊥) → old.room.is_shut ≡ false)
SealsWaitingOr old new (Err room_fault.Disk) = LeavesViews old new × SameEpochs old.room new.room × (old.room.is_shut ≡ false) × (new.room.is_shut ≡ true) × Rises old.room new.room × LosesTarget old.room new.room
SealsWaitingOr old new (Err (room_fault.Shut epoch)) = (old.room.is_shut ≡ true) × (epoch ≡ old.room.sealed) × (new ≡ old)
SealsWaitingOr old new (Err room_fault.NoMemory) = LeavesViews old new × SameEpochs old.room new.room × (new.room.is_shut ≡ false) × (new.room.faults ≡ old.room.faults) × StillWaits old.room new.room

-- ---- posting

-- a new view was posted to a seat, and the old middle was taken back
pub record PostsTo (x : Beginning) (seat : ℕ) (t : TurnNote) (old new : RoomValue) (p p' : RoomPass) : Type 0 where
  pub view : ViewState
  pub back : ViewState
  pub within : view.buffer < 3
  pub was_empty : slice_get old.room.board (buffer_at seat view.buffer) ≡ Some None
  pub upto : view.upto ≡ new.room.sealed
  pub of_parts : view.eye.regions ≡ set_of (all_regions old.room.parts)
  pub is_new : Contains old.room.given view.eye.number → ⊥
  pub posts : Posts x seat t view back p p'
  pub turn : InTurn x new p' (posting t (seat - 1) view.buffer view back)
  pub room : new.room ≡ with_posted old.room new.room
  pub given : new.room.given ≡ old.room.given ++ view.eye.number ∷ []
  pub counted : new.room.faults ≤ old.room.faults + back.faults

-- no view could be made for it
abbrev pub LacksView : RoomValue → RoomValue → RoomFault → Type 0
LacksView old new room_fault.Disk = (old.room.is_shut ≡ false) × (new.room.is_shut ≡ true) × Rises old.room new.room × KeepsJob old.room new.room × (new.room.board ≡ old.room.board) × (new.room ≡ with_faults old.room new.room)
LacksView old new (room_fault.Shut epoch) = (old.room.is_shut ≡ true) × (epoch ≡ old.room.sealed) × (new ≡ old)
LacksView old new room_fault.NoMemory = (old.room.is_shut ≡ false) × (new ≡ old)

abbrev pub PostsOr : Beginning → ℕ → TurnNote → RoomValue → RoomValue → RoomPass → RoomPass → Result (Unit {0}) RoomFault → Type 0
PostsOr x seat t old new p p' (Ok done) = PostsTo x seat t old new p p' × (old.room.is_shut ≡ false)
PostsOr x seat t old new p p' (Err fault) = (p' ≡ p) × InTurn x new p t × LacksView old new fault

-- In a turn of the pass in which no call failed, a view of all live parts was posted to each of the first seats, so many.
pub record PostedBelow (x : Beginning) (seats : ℕ) (found : RoomState) (room : RoomValue) (p : RoomPass) : Type 0 where
  pub note : TurnNote
  pub turn : InTurn x room p note
  pub none_failed : NoneFailed x room p note
  pub same : room.room ≡ with_posted found room.room
  pub given : (more : List ℕ) × (room.room.given ≡ found.given ++ more)
  pub upto : (i : ℕ) → i < seats → room.room.sealed ≤ slice_index note.posted i
  pub board : RenewsSeats seats found.given room.room.parts found.board room.room.board

-- how a loop over the seats ends
abbrev pub PostsEachOr : Beginning → RoomValue → RoomValue → RoomPass → Result (Unit {0}) RoomFault → Type 0
PostsEachOr x old new p' (Ok done) = PostedBelow x x.seats old.room new p' × (new.room.is_shut ≡ false)
PostsEachOr x old new p' (Err room_fault.Disk) = IsFailedTurn x new p' × (old.room.is_shut ≡ false) × (new.room.is_shut ≡ true) × PostsFirst x.seats old.room new.room
PostsEachOr x old new p' (Err (room_fault.Shut epoch)) = IsCleanTurn x new p' × (old.room.is_shut ≡ true) × (epoch ≡ old.room.sealed) × (new ≡ old)
PostsEachOr x old new p' (Err room_fault.NoMemory) = IsCleanTurn x new p' × (old.room.is_shut ≡ false) × (new.room.is_shut ≡ false) × PostsFirst x.seats old.room new.room

-- views are posted to all seats, and the sealed epoch is published
abbrev pub PublishesOr : Beginning → RoomValue → RoomValue → RoomPass → Result ℕ RoomFault → Type 0
PublishesOr x old new p' (Ok epoch) = IsCleanTurn x new p' × (old.room.is_shut ≡ false) × (epoch ≡ new.room.sealed) × (published p' ≡ epoch) × PostsAll old.room new.room x.seats
PublishesOr x old new p' (Err room_fault.Disk) = IsFailedTurn x new p' × (old.room.is_shut ≡ false) × (new.room.is_shut ≡ true) × PostsFirst x.seats old.room new.room
PublishesOr x old new p' (Err (room_fault.Shut epoch)) = IsCleanTurn x new p' × (old.room.is_shut ≡ true) × (epoch ≡ old.room.sealed) × (new ≡ old)
PublishesOr x old new p' (Err room_fault.NoMemory) = IsCleanTurn x new p' × (old.room.is_shut ≡ false) × (new.room.is_shut ≡ false) × PostsFirst x.seats old.room new.room

-- ---- sealing, posting and publishing

abbrev pub ShowsOr : Beginning → RoomValue → RoomValue → RoomPass → Result ℕ RoomFault → Type 0
ShowsOr x old new p' (Ok epoch) = IsCleanTurn x new p' × (epoch ≡ new.room.sealed) × (published p' ≡ epoch) × (new.room.is_shut ≡ false) × SealedAndPosted old.room new.room x.seats
ShowsOr x old new p' (Err room_fault.Disk) = IsFailedTurn x new p' × (old.room.is_shut ≡ false) × (new.room.is_shut ≡ true) × (LosesTarget old.room new.room ⊎ StopsPosting old.room new.room x.seats)
ShowsOr x old new p' (Err (room_fault.Shut epoch)) = IsCleanTurn x new p' × (old.room.is_shut ≡ true) × (epoch ≡ old.room.sealed) × (new ≡ old)
ShowsOr x old new p' (Err room_fault.NoMemory) = IsCleanTurn x new p' × (new.room.is_shut ≡ false) × (StillWaits old.room new.room ⊎ StopsPosting old.room new.room x.seats)

-- ---- erasing

-- what every answer leaves: the epochs are as they were, and no view comes or goes
abbrev pub ErasesOr : RoomValue → RoomValue → Result ℕ RoomFault → Type 0
ErasesOr old new (Ok erased) = LeavesViews old new × SameEpochs old.room new.room × (old.room.is_shut ≡ false) × (new.room.is_shut ≡ false) × ErasesUnheld old.room new.room erased × (new.room.faults ≡ old.room.faults)
ErasesOr old new (Err room_fault.Disk) = LeavesViews old new × SameEpochs old.room new.room × (old.room.is_shut ≡ false) × (new.room.is_shut ≡ true) × Rises old.room new.room × LosesFirst old.room new.room
ErasesOr old new (Err (room_fault.Shut epoch)) = (old.room.is_shut ≡ true) × (epoch ≡ old.room.sealed) × (new ≡ old)
ErasesOr old new (Err room_fault.NoMemory) = LeavesViews old new × SameEpochs old.room new.room × (new.room.is_shut ≡ false) × (new.room.faults ≡ old.room.faults) × ErasesFirst old.room new.room
