-- The one history, and the parts of it that a place and a seat have.
use Rattle.std.specs.Prelude.{◌≡◌, ℕ, List, [], ◌∷◌, ◌++◌, ◌⊎◌, ◌||◌, Bool, filter, ◌==◌, nat_lt, length, if◌then◌else◌}
use Rattle.fine_places.specs.declared.model.Placed.{Placed}
use Rattle.fine_places.specs.declared.model.Share.{Share}

-- the place of the room; those below it are the buckets
unfoldable pub room : ℕ
room = 256

-- how many seats a table may have
unfoldable pub most_seats : ℕ
most_seats = 18

-- whether an item touches a place, where it is known which buckets it touches; each touches the room
abbrev pub touches_place : {N : Type 0} → (ℕ → N → Bool) → ℕ → Placed N → Bool
touches_place touches k e = (k == room) || touches k e.item

-- the items that touch a place
abbrev pub touching : {N : Type 0} → (ℕ → N → Bool) → ℕ → List (Placed N) → List (Placed N)
touching touches k log = filter (touches_place touches k) log

-- the items that a seat added
abbrev pub by_seat : {N : Type 0} → ℕ → List (Placed N) → List (Placed N)
by_seat n log = filter (λ e. e.seat == n) log

abbrev pub StartsWith : {N : Type 0} → List (Placed N) → List (Placed N) → Type 0
StartsWith {N} log seen = (more : List (Placed N)) × (log ≡ seen ++ more)

-- the longer of two histories
unfoldable pub longer : {N : Type 0} → List (Placed N) → List (Placed N) → List (Placed N)
longer a b = if nat_lt (length a) (length b) then b else a

-- one of the shares is that of the seat n
abbrev pub Owns : {N : Type 0} → List (Share N) → ℕ → List (Placed N) → Type 0
Owns [] n ms = ⊥
Owns (p ∷ ps) n ms = ((p.seat ≡ n) × (p.mine ≡ ms)) ⊎ Owns ps n ms

abbrev pub Owned : {N : Type 0} → List (Share N) → ℕ → Type 0
Owned {N} ps n = (ms : List (Placed N)) × Owns ps n ms
