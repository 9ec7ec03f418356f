-- When a room can take nothing any more.
use Rattle.std.specs.Prelude.{◌≡◌, ◌<◌, List, [], length, None, Some}
use Rattle.fine_model.specs.declared.Row.{Row}
use Rattle.fine_model.specs.declared.law.RoomState.{RoomState}
use Rattle.fine_model.specs.Becomes.{IsStuck}
use Rattle.fine_model.specs.Causes.{NoneFit}
use Rattle.fine_model.specs.Chain.{AreRowsOf}
use Rattle.fine_model.specs.Regions.{Image}
use Rattle.epoch_room.specs.Value.{RoomValue}
use Rattle.epoch_room.specs.Whole.{IsWhole}

-- no failed call was writing, nothing waits or is retired, no merge is out, fewer than two regions are free, and no two neighbours fit these
pub record TakesNothing (room : RoomState) (image : Image) (rows : List Row) : Type 0 where
  pub none_lost : room.lost ≡ []
  pub told : room.image ≡ Some image
  pub are_rows : AreRowsOf room.region_len image room.parts rows
  pub none_waits : room.waiting ≡ 0
  pub none_retired : room.retired ≡ []
  pub no_job : room.job ≡ None
  pub few_free : length room.free < 2
  pub no_merge : NoneFit room.region_len image room.parts (length room.free)

-- such a room is stuck: what is free in it is what is free in its image, and every sealed region leads a live part
abbrev pub StuckLaw : Type 0
StuckLaw = (value : RoomValue) (image : Image) (rows : List Row) → IsWhole value → TakesNothing value.room image rows → IsStuck value.room
