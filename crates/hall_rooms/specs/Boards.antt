-- Views that are out, by the board that names them, and what taking them back leaves.
use Rattle.std.specs.Prelude.{◌≡◌, ◌⊎◌, ℕ, ◌+◌, ◌≤◌, true, List, [], ◌∷◌, Some, None, slice_get, slice_set, sum_by}
use Rattle.std.specs.List.{list_all}
use Rattle.fine_model.specs.declared.law.RoomState.{RoomState}
use Rattle.fine_model.specs.Boards.{Buffer, buffer_at, is_empty}
use Rattle.fine_model.specs.Faults.{last_count}
use Rattle.partition_hold.specs.Views.{ViewValue, opened}
use Rattle.epoch_room.specs.Meaning.{Keeps}
use Rattle.epoch_room.specs.Value.{RoomValue}

-- A board names these views, each once, and no others. Once the first one is taken back it names the rest.
abbrev pub Names : List Buffer → List ViewValue → Type 0
Names board [] = list_all is_empty board ≡ true
Names board (v ∷ views) = (slice_get board (buffer_at v.seat v.buffer) ≡ Some (Some (opened v.eye))) × Names (slice_set board (buffer_at v.seat v.buffer) None) views

-- how often reads through some views failed
abbrev pub faults_of : List ViewValue → ℕ
faults_of views = sum_by (λ v. v.eye.faults) views

-- a state with the board, the eyes and the count of all faults of another
abbrev pub with_views : RoomState → RoomState → RoomState
with_views room other = record room { board = other.board; eyes = other.eyes; faults = other.faults }

-- Views whose faults are so many were taken back: they are out no more, and their faults were counted, unless the count stands at its last value.
pub record TakesBackAll (faults : ℕ) (old new : RoomValue) : Type 0 where
  pub room : new.room ≡ with_views old.room new.room
  pub target : new.target ≡ old.target
  pub entry : new.entry ≡ old.entry
  pub keeps : Keeps old new
  pub high : new.room.faults ≤ old.room.faults + faults
  pub low : (old.room.faults + faults ≤ new.room.faults) ⊎ (last_count ≤ new.room.faults)
