-- What a turn of a pass does to the room.
use Rattle.std.specs.Prelude.{◌≡◌, ◌≢◌, ◌⊎◌, ℕ, ◌+◌, ◌<◌, ◌≤◌, ◌==◌, nat_eq, if◌then◌else◌, true, false, List, [], ◌∷◌, ◌++◌, length, Contains, Option, Some, None, Result, Ok, Err, slice_get}
use Rattle.std.specs.List.{list_any}
use Rattle.fine_model.specs.declared.Entry.{Entry}
use Rattle.fine_model.specs.declared.Part.{Part}
use Rattle.fine_model.specs.declared.Row.{Row}
use Rattle.fine_model.specs.declared.law.OpenedEye.{OpenedEye}
use Rattle.fine_model.specs.declared.law.RoomState.{RoomState}
use Rattle.fine_model.specs.Boards.{Buffer, buffer_at, set_of}
use Rattle.fine_model.specs.Buckets.{Began}
use Rattle.fine_model.specs.Faults.{last_count}
use Rattle.fine_model.specs.Jobs.{KeepsJob}
use Rattle.partition_hold.specs.Views.{state_of}
use Rattle.epoch_room.specs.Value.{all_regions}
use Rattle.epoch_room.specs.Erasing.{held, led_by, left_state, unheld, without}
use Rattle.epoch_room.specs.Steps.{shut_state}
use Rattle.epoch_room.specs.declared.answers.RoomFault.{RoomFault}
use Rattle.epoch_room.specs.declared.answers.RoomFault.TheVariants as room_fault
use Rattle.fine_places.specs.History as places
use Rattle.fine_places.specs.History.{by_seat}
use Rattle.fine_places.specs.declared.model.Placed.{Placed}
use Rattle.fine_hall.specs.declared.law.Beginning.{Beginning}
use Rattle.fine_hall.specs.declared.turn.Turn.{Turn}
use Rattle.fine_hall.specs.Turns.{commits, in_bucket, room_after}
use Rattle.fine_hall.specs.Passes.{turns, own_turns, seen, known, published, given_up, troubles, last_room, HasPlace, HoldsNothing, LacksJob}
use Rattle.fine_hall.specs.Halls.{turn_of}
use Rattle.hall_rooms.specs.Rooms.{RoomPass}

-- One turn: the pass saw the turns of others since, of which none is in a bucket that it holds, and then its own, which found the room so, and
-- gave it back so.
pub record OneTurn (x : Beginning) (found : RoomState) (entry : Option Entry) (epoch : ℕ) (room : RoomState) (p p' : RoomPass) : Type 0 where
  pub others : List (Placed Turn)
  pub not_own : by_seat p.number others ≡ []
  pub kept : (j : ℕ) → j < places.room → HasPlace p j → in_bucket j (seen p) ≡ in_bucket j (commits (turns p ++ others))
  pub found_is : found ≡ room_after x.room (turns p ++ others)
  -- the merge of the seat 1 is left by the turns of others
  pub found_job : p.number ≡ 1 → KeepsJob (last_room x p) found
  pub returned : ℕ
  pub turns_more : turns p' ≡ (turns p ++ others) ++ record { seat = p.number; item = turn_of entry epoch room returned } ∷ []
  pub own_more : own_turns p' ≡ own_turns p ++ record { seat = p.number; item = turn_of entry epoch room returned } ∷ []
  pub no_earlier : published p ≤ published p'

-- Such a turn, in which the pass kept its front.
pub record TakesTurn (x : Beginning) (found : RoomState) (entry : Option Entry) (epoch : ℕ) (room : RoomState) (p p' : RoomPass) : Type 0 where
  pub one : OneTurn x found entry epoch room p p'
  pub open one use *
  pub front : (p'.front ≡ p.front) × (p'.buffer ≡ p.buffer)
  pub given_same : given_up p' ≡ given_up p

-- the pass met no fault, or one more at least, unless the count of the room stands at its last value
abbrev pub MeetsNone : Beginning → RoomPass → RoomPass → Type 0
MeetsNone x p p' = troubles state_of x p' ≡ troubles state_of x p

abbrev pub MeetsSome : Beginning → RoomPass → RoomPass → Type 0
MeetsSome x p p' = (troubles state_of x p < troubles state_of x p') ⊎ (last_count ≤ (last_room x p').faults)

-- the log at entry was not told, or not sound
abbrev pub NotBegan : Beginning → Type 0
NotBegan x = (e : ℕ) (first : List Row) → Began x.log e first → ⊥

-- One turn without an entry, which did so to the room. The pass holds what it held, and the merge of the seat 1 stays as it was found.
pub record DidInTurn (x : Beginning) (p p' : RoomPass) (does : RoomState → RoomState → Type 0) : Type 0 where
  pub found : RoomState
  pub room : RoomState
  pub turn : TakesTurn x found None 0 room p p'
  pub same_held : (known p').held ≡ (known p).held
  pub job : KeepsJob found room
  pub did : does found room

-- ---- sealing and posting

-- the board names a view of all these parts in a buffer of the seat, whose eye has none of these numbers
pub record NewView (given : List ℕ) (parts : List Part) (board : List Buffer) (seat : ℕ) : Type 0 where
  pub buffer : ℕ
  pub within : buffer < 3
  pub eye : OpenedEye
  pub on_board : slice_get board (buffer_at seat buffer) ≡ Some (Some eye)
  pub of_parts : eye.regions ≡ set_of (all_regions parts)
  pub is_new : Contains given eye.number → ⊥

-- A seat got a new view, in a buffer that was empty; the view of another buffer came back, and the third buffer is as it was.
pub record RenewsSeat (given : List ℕ) (parts : List Part) (old new : List Buffer) (seat : ℕ) : Type 0 where
  pub view : NewView given parts new seat
  pub was_empty : slice_get old (buffer_at seat view.buffer) ≡ Some None
  pub back : ℕ
  pub within : (back < 3) × (back ≢ view.buffer)
  pub came_back : (eye : OpenedEye) × (slice_get old (buffer_at seat back) ≡ Some (Some eye))
  pub emptied : slice_get new (buffer_at seat back) ≡ Some None
  pub third : (b : ℕ) → b < 3 → b ≢ view.buffer → b ≢ back → slice_get new (buffer_at seat b) ≡ slice_get old (buffer_at seat b)

-- So it is of each of the first seats, so many; the buffers of the others are as they were.
pub record RenewsSeats (seats : ℕ) (given : List ℕ) (parts : List Part) (old new : List Buffer) : Type 0 where
  pub renewed : (seat : ℕ) → 1 ≤ seat → seat ≤ seats → RenewsSeat given parts old new seat
  pub others : (seat b : ℕ) → seats < seat → b < 3 → slice_get new (buffer_at seat b) ≡ slice_get old (buffer_at seat b)

-- the chain has one part more, of the epoch behind the last sealed one
abbrev pub AddsEpoch : RoomState → RoomState → Type 0
AddsEpoch old new = (p : Part) × (new.parts ≡ old.parts ++ p ∷ []) × (p.header.range ≡ record { first = old.sealed + 1; last = old.sealed + 1 })

-- What waited is sealed, as one epoch more, and each of the first seats, so many, has a new view of all live parts. What is retired, free or lost is
-- as it was, and so are the chain and what a read gives where nothing waited.
pub record SealedAndPosted (found room : RoomState) (seats : ℕ) : Type 0 where
  pub opened : found.is_shut ≡ false
  pub parts : found.waiting ≡ 0 → (room.parts ≡ found.parts) × (room.image ≡ found.image)
  pub epoch : (found.waiting ≡ 0 → ⊥) → AddsEpoch found room
  pub none_waits : room.waiting ≡ 0
  pub none_open : (room.open_rows ≡ []) × (room.used ≡ 0)
  pub sealed : room.sealed ≡ (if found.waiting == 0 then found.sealed else found.sealed + 1)
  pub places : room.places ≡ found.places
  pub retired : room.retired ≡ found.retired
  pub free : (room.free ≡ found.free) × (room.lost ≡ found.lost)
  pub board : RenewsSeats seats found.given room.parts found.board room.board

-- So it is of some first seats, and not of all: no view could be made for the next one.
abbrev pub StopsPosting : RoomState → RoomState → ℕ → Type 0
StopsPosting found room seats = (upto : ℕ) × (upto < seats) × SealedAndPosted found room upto

-- Memory ran out as what waits was to be sealed: nothing changed but what a read gives.
pub record StillWaits (found room : RoomState) : Type 0 where
  pub waits : found.waiting ≡ 0 → ⊥
  pub same : room ≡ record found { image = room.image }

-- The disk failed as what waits was sealed: it waits still, and the region that it was to take, which was not free, is lost, as none was before.
-- Nothing else changed but what a read gives, the counts of faults, and that the room is shut.
pub record LosesTarget (found room : RoomState) : Type 0 where
  pub waits : found.waiting ≡ 0 → ⊥
  pub region : ℕ
  pub not_free : list_any (nat_eq region) found.free ≡ false
  pub none_lost : found.lost ≡ []
  pub same : room ≡ record (shut_state found (region ∷ [])) { image = room.image; faults = room.faults; own_faults = room.own_faults }

-- What waits was sealed, posted and published, or it came so far; the pass met a fault after `Disk` alone.
abbrev pub SealsTurn : Beginning → RoomState → RoomState → RoomPass → RoomPass → Result ℕ RoomFault → Type 0
SealsTurn x found room p p' (Ok epoch) = (epoch ≡ room.sealed) × (published p' ≡ epoch) × (room.is_shut ≡ false) × SealedAndPosted found room x.seats × MeetsNone x p p'
SealsTurn x found room p p' (Err room_fault.Disk) = (found.is_shut ≡ false) × (room.is_shut ≡ true) × (LosesTarget found room ⊎ StopsPosting found room x.seats) × MeetsSome x p p'
SealsTurn x found room p p' (Err (room_fault.Shut epoch)) = (found.is_shut ≡ true) × (epoch ≡ found.sealed) × (room ≡ found) × MeetsNone x p p'
SealsTurn x found room p p' (Err room_fault.NoMemory) = (room.is_shut ≡ false) × (StillWaits found room ⊎ StopsPosting found room x.seats) × MeetsNone x p p'

-- one turn without an entry, in which what waits is sealed, posted and published
abbrev pub SealsAndPosts : Beginning → RoomPass → RoomPass → Result ℕ RoomFault → Type 0
SealsAndPosts x p p' r = DidInTurn x p p' (λ found room. SealsTurn x found room p p' r)

-- ---- erasing

-- The parts that some regions lead were erased, and their regions are free; nothing else changed but what a read gives.
pub record ErasesThese (leads : List ℕ) (found room : RoomState) : Type 0 where
  pub none : leads ≡ [] → room ≡ found
  pub retired : leads ≢ [] → room.retired ≡ without leads found.retired
  pub freed : leads ≢ [] → room.free ≡ set_of (found.free ++ all_regions (led_by leads found.retired))
  pub same : room ≡ record found { retired = room.retired; free = room.free; image = room.image }

-- The retired parts that no view names were erased, so many.
pub record ErasesUnheld (found room : RoomState) (erased : ℕ) : Type 0 where
  pub count : erased ≡ length (unheld found)
  pub left : room.retired ≡ held found
  pub erases : ErasesThese (unheld found) found room
  pub open erases use *

-- Memory ran out: none of them was erased, or the first ones, but not all.
pub record ErasesFirst (found room : RoomState) : Type 0 where
  pub begun : List ℕ
  pub more : List ℕ
  pub are : unheld found ≡ begun ++ more
  pub not_all : begun ≢ [] → more ≢ []
  pub erases : ErasesThese begun found room

-- The disk failed: the first of them are retired no more, and their regions are lost, as none was before. Nothing else changed but what a read
-- gives, the counts of faults, and that the room is shut.
pub record LosesFirst (found room : RoomState) : Type 0 where
  pub begun : List ℕ
  pub more : List ℕ
  pub are : unheld found ≡ begun ++ more
  pub some : begun ≢ []
  pub none_lost : found.lost ≡ []
  pub same : room ≡ record (shut_state (left_state found begun) (all_regions (led_by begun found.retired))) { image = room.image; faults = room.faults; own_faults = room.own_faults }

-- All that no view names was erased, or it came so far; the pass met a fault after `Disk` alone.
abbrev pub SettlesTurn : Beginning → RoomState → RoomState → RoomPass → RoomPass → Result ℕ RoomFault → Type 0
SettlesTurn x found room p p' (Ok erased) = (room.is_shut ≡ false) × ErasesUnheld found room erased × MeetsNone x p p'
SettlesTurn x found room p p' (Err room_fault.Disk) = (found.is_shut ≡ false) × (room.is_shut ≡ true) × LosesFirst found room × MeetsSome x p p'
SettlesTurn x found room p p' (Err (room_fault.Shut epoch)) = (found.is_shut ≡ true) × (epoch ≡ found.sealed) × (room ≡ found) × MeetsNone x p p'
SettlesTurn x found room p p' (Err room_fault.NoMemory) = (room.is_shut ≡ false) × ErasesFirst found room × MeetsNone x p p'

-- one turn without an entry, in which each retired part is erased that no view names
abbrev pub SettlesViews : Beginning → RoomPass → RoomPass → Result ℕ RoomFault → Type 0
SettlesViews x p p' r = DidInTurn x p p' (λ found room. SettlesTurn x found room p p' r)

-- ---- laws

-- A pass that holds nothing and has no merge out is such a pass after a turn that seals, and after one that erases.
abbrev pub StaysIdle : (Beginning → RoomPass → RoomPass → Type 0) → Type 0
StaysIdle did = (x : Beginning) (p p' : RoomPass) → p'.number ≡ p.number → did x p p' → HoldsNothing p → LacksJob x p → HoldsNothing p' × LacksJob x p'

abbrev pub SealsIdle : Type 0
SealsIdle = (r : Result ℕ RoomFault) → StaysIdle (λ x p p'. SealsAndPosts x p p' r)

abbrev pub SettlesIdle : Type 0
SettlesIdle = (r : Result ℕ RoomFault) → StaysIdle (λ x p p'. SettlesViews x p p' r)
