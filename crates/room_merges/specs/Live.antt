-- What a read of the disk gives of the live parts, from before calls to behind them.
use Rattle.std.specs.Prelude.{[], Contains}
use Rattle.fine_model.specs.declared.Part.{Part}
use Rattle.fine_model.specs.Chain.{regions_of}
use Rattle.fine_model.specs.Views.{SameSeen}
use Rattle.epoch_room.specs.Value.{RoomValue}

-- A part that is live before and behind has the bytes that it had, in the grammar or not. A disk tells as many regions as it did, or told none and tells none.
pub record KeepsLive (old new : RoomValue) : Type 0 where
  pub told : SameSeen [] old.room.image new.room.image
  pub each : (p : Part) → Contains old.room.parts p → Contains new.room.parts p → SameSeen (regions_of p) old.room.image new.room.image
