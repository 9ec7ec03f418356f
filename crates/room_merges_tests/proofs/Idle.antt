-- What an epoch that is sealed, and a crash, leave of a room and of its disk.
use Rattle.std.proofs.Common.{◌≡◌, ℕ, false, List, Ok, sym, ap, subst, ◌∙◌}
use Rattle.log_disk.specs.Crash.{IsCrashOf}
use Rattle.log_disk.specs.Disk.{Disk}
use Rattle.fine_model.specs.declared.law.RoomState.{RoomState}
use Rattle.epoch_room.specs.Value.{RoomValue}
use Rattle.epoch_room.specs.Whole.{HasGeometry, IsIdle, IsWhole}
use Rattle.epoch_room.specs.Steps.{SealsOr, sealed_state}

-- sealing leaves the room open, where it answers an epoch
pub sealed_open : (old new : RoomValue) (epoch : ℕ) → SealsOr old new (Ok epoch) → new.room.is_shut ≡ false
unfolding sealed_state
sealed_open old new epoch is = ap (λ (r : RoomState). r.is_shut) is.2.1.room ∙ is.2.0

-- a room may be made on what a crash leaves
pub idle_again : (value : RoomValue) (picks : List ℕ) (left : Disk) → IsWhole value → IsCrashOf value.disk picks left → IsIdle left
idle_again value picks left whole crash = record {
  geometry = subst HasGeometry (sym crash.now)
      (record { regions_low = whole.geometry.regions_low; regions_high = whole.geometry.regions_high; len_low = whole.geometry.len_low; len_high = whole.geometry.len_high; whole = whole.geometry.whole });
  synced = ap (λ (d : Disk). d.unsynced) crash.now;
  no_eyes = ap (λ (d : Disk). d.eyes) crash.now;
}
