-- The turns of the room, in order: the history that they make, and the faults that were counted in them.
use Rattle.std.specs.Prelude.{ℕ, ◌+◌, ◌-◌, ◌≤◌, ◌≡◌, ◌≢◌, ◌⊎◌, ◌==◌, Bool, true, false, ◌||◌, if◌then◌else◌, List, [], ◌∷◌, filter, flat_map, Option, Some, None, option_map, option_to_list, ⊤}
use Rattle.std.specs.List.{list_any}
use Rattle.fine_model.specs.declared.Entry.{Entry}
use Rattle.fine_model.specs.declared.Call.{Call}
use Rattle.fine_model.specs.declared.Call.TheVariants as call
use Rattle.fine_model.specs.Trees.{bucket_of}
use Rattle.fine_model.specs.Pushed.{key_of}
use Rattle.fine_model.specs.History.{Commit}
use Rattle.fine_model.specs.Faults.{last_count}
use Rattle.fine_model.specs.declared.law.RoomState.{RoomState}
use Rattle.fine_model.specs.Becomes.{Becomes}
use Rattle.fine_model.specs.Jobs.{KeepsJob}
use Rattle.fine_hall.specs.declared.turn.Turn.{Turn}
use Rattle.fine_places.specs.declared.model.Placed.{Placed}

-- ---- one turn

abbrev pub committed : Entry → ℕ → Commit
committed entry epoch = record { entry = entry; epoch = epoch }

-- what a turn adds to the history
abbrev pub added : Option Entry → ℕ → List Commit
added entry epoch = option_to_list (option_map (λ e. committed e epoch) entry)

-- ---- buckets

-- a call is in the bucket of its key; a scan is in all of them
abbrev pub is_call_in : ℕ → Call → Bool
is_call_in bucket (call.Scan low high limit) = true
is_call_in bucket c = bucket_of (key_of c) == bucket

-- an entry has a call or a row in a bucket
unfoldable pub is_in : ℕ → Entry → Bool
is_in bucket entry = list_any (is_call_in bucket) entry.calls || list_any (λ row. row.node.bucket == bucket) entry.rows

-- a turn has an entry with a call or a row in a bucket
abbrev pub is_some_in : ℕ → Option Entry → Bool
is_some_in bucket None = false
is_some_in bucket (Some entry) = is_in bucket entry

abbrev pub touches_bucket : ℕ → Turn → Bool
touches_bucket bucket turn = is_some_in bucket turn.entry

-- what of a history is in a bucket
abbrev pub in_bucket : ℕ → List Commit → List Commit
in_bucket bucket history = filter (λ c. is_in bucket c.entry) history

-- ---- turns in order

-- the history that turns make
unfoldable pub commits : List (Placed Turn) → List Commit
commits turns = flat_map (λ t. added t.item.entry t.item.epoch) turns

-- the room after these turns
abbrev pub room_after : RoomState → List (Placed Turn) → RoomState
room_after before [] = before
room_after before (t ∷ turns) = room_after t.item.room turns

-- how often a call on the disk failed in a turn: what the count rose beyond the counts of the views that were given back
abbrev pub failed_in : RoomState → Turn → ℕ
failed_in before t = t.room.faults - (before.faults + t.returned)

-- how often calls failed in the turns of one seat
abbrev pub failed_of : ℕ → RoomState → List (Placed Turn) → ℕ
failed_of seat before [] = 0
failed_of seat before (t ∷ turns) = (if t.seat == seat then failed_in before t.item else 0) + failed_of seat t.item.room turns

-- a count of places more with an entry, and none without
abbrev pub places_more : ℕ → Option Entry → ℕ
places_more places None = places
places_more places (Some entry) = places + 1

-- an entry of a turn is of the epoch behind the sealed one
abbrev pub IsOfOpenEpoch : Turn → Option Entry → Type 0
IsOfOpenEpoch t None = ⊤
IsOfOpenEpoch t (Some entry) = t.epoch ≡ t.room.sealed + 1

-- What each turn keeps: the room became what it was given back as, the merge job and what its target holds are those of before but in turns of seat 1, and the count
-- of faults rose by no less than the counts of the views that were given back, unless it stands at its last value.
pub record IsTurnFrom (before : RoomState) (t : Placed Turn) : Type 0 where
  pub becomes : Becomes before t.item.room
  pub job : t.seat ≢ 1 → KeepsJob before t.item.room
  pub counted : (before.faults + t.item.returned ≤ t.item.room.faults) ⊎ (last_count ≤ t.item.room.faults)
  pub places : t.item.room.places ≡ places_more before.places t.item.entry
  pub open_epoch : IsOfOpenEpoch t.item t.item.entry

abbrev pub RoomsGoOn : RoomState → List (Placed Turn) → Type 0
RoomsGoOn before [] = ⊤
RoomsGoOn before (t ∷ turns) = IsTurnFrom before t × RoomsGoOn t.item.room turns
