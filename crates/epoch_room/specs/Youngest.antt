-- What sealing the gathered rows of the youngest parts asks, and what it does.
use Rattle.std.specs.Prelude.{◌≡◌, ℕ, ◌+◌, ◌≤◌, Bool, false, drop, length, slice_get, None, Some, Result}
use Rattle.row_gathering.specs.Gathering.{GathersRows}
use Rattle.row_gathering.specs.declared.gathering.Gathered.{Gathered}
use Rattle.epoch_room.specs.Gathering.{GathersYoung, young_at}
use Rattle.epoch_room.specs.Value.{RoomValue}
use Rattle.epoch_room.specs.declared.answers.RoomFault.{RoomFault}

-- the parts from a place on are two or more, their rows were gathered, and this is the lowest free region
pub record CanSealYoung (old : RoomValue) (at region : ℕ) (gathered : Gathered) : Type 0 where
  pub open_room : old.room.is_shut ≡ false
  pub no_job : old.room.job ≡ None
  pub several : at + 2 ≤ length old.room.parts
  pub lowest : slice_get old.room.free 0 ≡ Some region
  pub gathers : GathersRows old.disk (drop at old.room.parts) gathered

-- the parts from a place on are gathered, where these are the youngest
abbrev pub SealsYoung : ℕ → RoomValue → RoomValue → Result Bool RoomFault → Type 0
SealsYoung at old new result = (from : ℕ) → at ≡ young_at from old.room.parts → GathersYoung from old new result
