-- Turns that add and seal nothing.
use Rattle.std.specs.Prelude.{◌≡◌, ◌≢◌, ℕ, ◌<◌, ◌≤◌, List, [], ◌∷◌, ◌++◌, None, ⊤, All}
use Rattle.fine_model.specs.declared.law.RoomState.{RoomState}
use Rattle.fine_places.specs.declared.model.Placed.{Placed}
use Rattle.fine_places.specs.History.{by_seat}
use Rattle.fine_hall.specs.declared.turn.Turn.{Turn}
use Rattle.fine_hall.specs.Turns.{room_after}

-- the open epoch is as it was
pub record IsQuiet (before : RoomState) (t : Turn) : Type 0 where
  pub no_entry : t.entry ≡ None
  pub sealed : t.room.sealed ≡ before.sealed
  pub waiting : t.room.waiting ≡ before.waiting
  pub used : t.room.used ≡ before.used

-- so it is of each turn of a seat
abbrev pub QuietOf : ℕ → RoomState → List (Placed Turn) → Type 0
QuietOf seat before [] = ⊤
QuietOf seat before (t ∷ turns) = (t.seat ≡ seat → IsQuiet before t.item) × QuietOf seat t.item.room turns

-- and of each turn of all other seats
abbrev pub QuietBut : ℕ → RoomState → List (Placed Turn) → Type 0
QuietBut seat before [] = ⊤
QuietBut seat before (t ∷ turns) = (t.seat ≢ seat → IsQuiet before t.item) × QuietBut seat t.item.room turns

-- each turn of a seat leaves the room as open as it found it
abbrev pub OpenOf : ℕ → RoomState → List (Placed Turn) → Type 0
OpenOf seat before [] = ⊤
OpenOf seat before (t ∷ turns) = (t.seat ≡ seat → t.item.room.is_shut ≡ before.is_shut) × OpenOf seat t.item.room turns

-- ---- laws

-- a seat's turns stay so after turns of others
abbrev pub OpenStays : Type 0
OpenStays = (seat : ℕ) (before : RoomState) (turns more : List (Placed Turn)) → by_seat seat more ≡ [] → OpenOf seat before turns → OpenOf seat before (turns ++ more)

-- a seat's turns stay quiet after turns of others
abbrev pub QuietStays : Type 0
QuietStays = (seat : ℕ) (before : RoomState) (turns more : List (Placed Turn)) → by_seat seat more ≡ [] → QuietOf seat before turns → QuietOf seat before (turns ++ more)

-- the first of some turns are quiet where all are
abbrev pub QuietFirst : Type 0
QuietFirst = (seat : ℕ) (before : RoomState) (turns more : List (Placed Turn)) → QuietBut seat before (turns ++ more) → QuietBut seat before turns

-- where those of each seat but one are quiet, and no turn is of another seat, they are quiet but for that seat's
abbrev pub QuietTogether : Type 0
QuietTogether =
    (seat seats : ℕ) (before : RoomState) (turns : List (Placed Turn)) → All (λ t. (0 < t.seat) × (t.seat ≤ seats)) turns
    → ((other : ℕ) → 0 < other → other ≤ seats → other ≢ seat → QuietOf other before turns) → QuietBut seat before turns

-- where each seat's turns leave the room as open as they found it, and no turn is of another seat, the room of the last turn is as open as the first one was
abbrev pub OpenTogether : Type 0
OpenTogether =
    (seats : ℕ) (before : RoomState) (turns : List (Placed Turn)) → All (λ t. (0 < t.seat) × (t.seat ≤ seats)) turns
    → ((seat : ℕ) → 0 < seat → seat ≤ seats → OpenOf seat before turns) → (room_after before turns).is_shut ≡ before.is_shut
