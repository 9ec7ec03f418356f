-- A room in which nothing waits, is retired or is lost, and of which no neighbours fit, is a log that is merged.
use Rattle.std.proofs.Common.{◌≡◌, length, Some, sym, subst}
use Rattle.fine_model.specs.Causes.{NoNeighboursFit, NoneFit}
use Rattle.fine_model.specs.Regions.{Image}
use Rattle.epoch_room.specs.Value.{RoomValue}
use Rattle.epoch_room.specs.Whole.{IsWhole}
use Rattle.epoch_room.proofs.RegionSets.Clear.{IsClear, all_live, free_is, now, same_len}
use Rattle.log_commands.specs.Merged.{IsMergedLog}

pub merged_log : (value : RoomValue) (image : Image) → IsWhole value → IsClear value image → ((seen : Image) → value.room.image ≡ Some seen → NoneFit value.room.region_len seen value.room.parts (length value.room.free))
    → IsMergedLog value.disk.region_len image value.room.parts
merged_log value image whole clear none = record {
  is_chain = (now value image whole clear).1.is_chain;
  all_live = all_live value image whole clear;
  no_more = subst (λ n. NoNeighboursFit n image value.room.parts) (same_len value image whole clear) (subst (NoneFit value.room.region_len image value.room.parts) (sym (free_is value image whole clear)) (none image clear.told));
}
