-- The commits of one seat, with their places in the history that all turns make.
use Rattle.std.specs.Prelude.{◌≡◌, ℕ, ◌+◌, ◌-◌, ◌<◌, ◌==◌, Bool, if◌then◌else◌, List, [], ◌∷◌, ◌++◌, length, map, slice_get, Some, Contains}
use Rattle.fine_model.specs.History.{Commit}
use Rattle.fine_places.specs.declared.model.Placed.{Placed}
use Rattle.fine_places.specs.History.{by_seat}
use Rattle.fine_hall.specs.declared.turn.Turn.{Turn}
use Rattle.fine_hall.specs.Turns.{added, commits}

-- what a turn adds, at the place after so many commits, where it is of the seat
abbrev pub placed_if : Bool → ℕ → List Commit → List (ℕ × Commit)
placed_if own before more = if own then map (λ c. (before + 1, c)) more else []

-- so of turns, after so many commits
abbrev pub placed_by : ℕ → ℕ → List (Placed Turn) → List (ℕ × Commit)
placed_by seat before [] = []
placed_by seat before (t ∷ turns) = placed_if (t.seat == seat) before (added t.item.entry t.item.epoch) ++ placed_by seat (before + length (added t.item.entry t.item.epoch)) turns

-- ---- laws

-- turns after others
abbrev pub PlacedOn : Type 0
PlacedOn = (seat before : ℕ) (turns more : List (Placed Turn)) → placed_by seat before (turns ++ more) ≡ placed_by seat before turns ++ placed_by seat (before + length (commits turns)) more

-- turns of others add none
abbrev pub PlacedByOthers : Type 0
PlacedByOthers = (seat before : ℕ) (turns : List (Placed Turn)) → by_seat seat turns ≡ [] → placed_by seat before turns ≡ []

-- so what a seat committed, with its places, is the same by all turns that come after, where none of these is its own
abbrev pub PlacedStays : Type 0
PlacedStays = (seat : ℕ) (turns more : List (Placed Turn)) → by_seat seat more ≡ [] → placed_by seat 0 (turns ++ more) ≡ placed_by seat 0 turns

-- each stands at its place
abbrev pub PlacedAt : Type 0
PlacedAt = (seat place : ℕ) (c : Commit) (turns : List (Placed Turn)) → Contains (placed_by seat 0 turns) (place, c) → (before : ℕ) × (place ≡ before + 1) × (slice_get (commits turns) before ≡ Some c)

-- and each place is that of some seat's commit
abbrev pub PlacedOnly : Type 0
PlacedOnly = (place : ℕ) (c : Commit) (turns : List (Placed Turn)) → slice_get (commits turns) place ≡ Some c → (t : Placed Turn) × Contains turns t × Contains (placed_by t.seat 0 turns) (place + 1, c)

-- places rise
abbrev pub PlacedRise : Type 0
PlacedRise =
    (seat i j a b : ℕ) (c d : Commit) (turns : List (Placed Turn)) → i < j → slice_get (placed_by seat 0 turns) i ≡ Some (a, c) → slice_get (placed_by seat 0 turns) j ≡ Some (b, d) → a < b

-- without their places they are what the seat's own turns add
abbrev pub PlacedCommits : Type 0
PlacedCommits = (seat before : ℕ) (turns : List (Placed Turn)) → map (λ e. e.1) (placed_by seat before turns) ≡ commits (by_seat seat turns)
