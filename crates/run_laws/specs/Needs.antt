-- What an epoch is sealed for.
use Rattle.std.specs.Prelude.{◌≡◌, ◌⊎◌, ℕ, ◌+◌, ◌<◌, ◌≤◌, ◌==◌, Bool, true, List, length, count_by, find, Option, None, Some}
use Rattle.fine_model.specs.declared.RunFault.{RunFault}
use Rattle.fine_model.specs.declared.law.RoomState.{RoomState}
use Rattle.fine_model.specs.Causes.{used_in}
use Rattle.fine_model.specs.History.{Commit}
use Rattle.fine_model.specs.Merge.{cost}
use Rattle.fine_model.specs.RowBytes.{greatest, short_header}
use Rattle.epoch_room.specs.Value.{RoomValue}
use Rattle.run_laws.specs.Lanes.{fault_of}

-- ---- a history

-- an epoch has a group of entries, or the rows of the next entry did not fit it any more
abbrev pub HadNeed : ℕ → ℕ → List Commit → ℕ → Commit → Type 0
HadNeed region_len group history e next = (group ≤ count_by (λ c. c.epoch == e) history) ⊎ (region_len < short_header + used_in e history + cost next.entry.rows)

-- so it is of each epoch above one, which another one follows; this one begins with `next`
abbrev pub AreSealedInNeed : ℕ → ℕ → ℕ → List Commit → Type 0
AreSealedInNeed region_len group above history = (e : ℕ) (next : Commit) → above < e → find (λ c. c.epoch == e + 1) history ≡ Some next → HadNeed region_len group history e next

-- ---- steps of a room

-- nothing was sealed, and what waits is as it was
pub record Unsealed (old new : RoomState) : Type 0 where
  pub sealed : new.sealed ≡ old.sealed
  pub waiting : new.waiting ≡ old.waiting
  pub used : new.used ≡ old.used

-- what waited is sealed as the next epoch, and nothing waits
pub record IsSealed (old new : RoomState) : Type 0 where
  pub some : 1 ≤ old.waiting
  pub sealed : new.sealed ≡ old.sealed + 1
  pub waiting : new.waiting ≡ 0

-- nothing waits, and a new epoch would take the last free region
pub record HasNoRegion (room : RoomState) : Type 0 where
  pub none_waits : room.waiting ≡ 0
  pub few_free : length room.free < 2

-- ---- the body on one thread, as one lane runs

-- All epochs so far that another one follows were sealed in need, what waits takes the bytes that its rows cost, and a log that is known to be full has no
-- region for more.
pub record IsInNeed (group : ℕ) (entry room : RoomValue) (full : Bool) (history : List Commit) : Type 0 where
  pub each : AreSealedInNeed entry.room.region_len group entry.room.sealed history
  pub used : room.room.used ≡ used_in (room.room.sealed + 1) history
  pub no_region : full ≡ true → HasNoRegion room.room

-- where nothing waits, the last epoch has a group of entries, or none can follow
abbrev pub EndsInNeed : ℕ → RoomValue → RoomValue → Bool → List Commit → Type 0
EndsInNeed group entry room full history =
    room.room.waiting ≡ 0 → entry.room.sealed < room.room.sealed → (group ≤ count_by (λ c. c.epoch == room.room.sealed) history) ⊎ (full ≡ true) ⊎ (room.room.sealed ≡ greatest)

-- both, as long as the lane goes on
pub record RunsInNeed (group lane : ℕ) (entry room : RoomValue) (full : Bool) (ended : List (Option RunFault)) (history : List Commit) : Type 0 where
  pub so_far : IsInNeed group entry room full history
  pub ends : fault_of ended lane ≡ None → EndsInNeed group entry room full history
