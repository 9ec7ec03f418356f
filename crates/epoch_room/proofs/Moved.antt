-- What of a room stays as its disk goes on: its open epoch, and what is told of each step.
use Rattle.std.proofs.Common.{◌≡◌, ℕ, ◌+◌, ◌≤◌, true, false, true≢false, [], Some, None, refl, sym, ◌∙◌, inl, inr, arith}
use Rattle.std.specs.Prelude.{Option, is_some, option_map}
use Rattle.fine_model.specs.Becomes.{Becomes, IsStuck, StaysShut, StaysStuck}
use Rattle.fine_model.specs.RowBytes.{greatest}
use Rattle.fine_model.specs.declared.law.RoomState.{RoomState}
use Rattle.log_disk.specs.Disk.{CountsOwn, Disk, HasRisen, SameBeside, Told}
use Rattle.log_disk.specs.Moments.{ContinuesOn}
use Rattle.epoch_room.specs.Steps.{Does, Fails, Steps}
use Rattle.epoch_room.specs.Value.{Kept, RoomValue, on, value_of}
use Rattle.epoch_room.specs.Whole.{IsOpenEpoch}

-- a room with the same open epoch
pub epoch_stays : (old new : RoomValue) → IsOpenEpoch old → new.room.region_len ≡ old.room.region_len → (old.room.waiting ≡ 0 → (new.target ≡ None) × (old.room.open_rows ≡ []) × (old.room.used ≡ 0))
    → (new.room.lost ≡ [] → 1 ≤ old.room.waiting → (region : ℕ) × (new.target ≡ Some region)) → (1 ≤ old.room.waiting → new.room.sealed + 1 ≤ greatest)
    → IsOpenEpoch (record new { room = record new.room { open_rows = old.room.open_rows; waiting = old.room.waiting; used = old.room.used; places = old.room.places } })
epoch_stays old new epoch len none some last = record { none = none; some = some; fits = epoch.fits; costs = epoch.costs; within = omega (arith, epoch.within, len); entries = epoch.entries; places = epoch.places; epoch = last }

-- a step of an open room
step : {state : RoomState} {target : Option ℕ} (old new : RoomValue) → new.room ≡ on state new.disk → new.target ≡ target → new.entry ≡ old.entry → SameBeside old.disk new.disk → ContinuesOn old.disk new.disk → Steps state target old new
step old new room target entry same time = record { room = room; target = target; entry = entry; regions = same.regions; region_len = same.region_len; time = time }

-- the disk did not fail
pub does : {state : RoomState} {target : Option ℕ} {failed : Type 0} (old new : RoomValue) → old.room.is_shut ≡ false → new.room ≡ on state new.disk → new.target ≡ target → new.entry ≡ old.entry
    → SameBeside old.disk new.disk → ContinuesOn old.disk new.disk → CountsOwn failed old.disk new.disk → (failed → ⊥) → Does state target old new
does old new open_room room target entry same time counts fine = (open_room, step old new room target entry same time, record { faults = (counts.else_same fine).0; own_faults = (counts.else_same fine).1 })

-- it failed, and this is the state of a room that is shut
pub shuts : {state : RoomState} {target : Option ℕ} {failed : Type 0} (old new : RoomValue) → old.room.is_shut ≡ false → new.room ≡ on state new.disk → new.target ≡ target → new.entry ≡ old.entry
    → SameBeside old.disk new.disk → ContinuesOn old.disk new.disk → CountsOwn failed old.disk new.disk → failed → (old.room.is_shut ≡ false) × Steps state target old new × Fails old.disk new.disk
shuts old new open_room room target entry same time counts f = (open_room, step old new room target entry same time, record { faults = counts.faults f; own_faults = counts.own_faults f; no_lower = counts.no_lower })

-- what becomes of an open room on a disk that went on
pub becomes_open : (old new : Disk) (kept kept' : Kept) → SameBeside old new → (old.faults ≤ new.faults) × (old.own_faults ≤ new.own_faults) → is_some (option_map (λ (t : Told). t.bytes) new.told) ≡ is_some (option_map (λ (t : Told). t.bytes) old.told) → kept.is_shut ≡ false
    → kept.sealed ≤ kept'.sealed → kept.places ≡ kept'.places → (kept'.is_shut ≡ true → HasRisen old.own_faults new.own_faults × HasRisen old.faults new.faults)
    → (IsStuck (value_of old old kept).room → StaysStuck (value_of old old kept).room (value_of new new kept').room) → Becomes (value_of old old kept).room (value_of new new kept').room
becomes_open old new kept kept' same lower told open_room sealed places risen stuck = record {
  region_len = same.region_len;
  regions = same.regions;
  told = told;
  sealed = sealed;
  places = omega (arith, places);
  faults = lower.0;
  own_faults = lower.1;
  shut = λ h. absurd (true≢false (sym h ∙ open_room));
  shut_by = λ h. inr (risen h);
  stuck = stuck;
}

-- the disk was not called
pub becomes_still : (room state : RoomState) → room.sealed ≤ state.sealed → room.places ≤ state.places → let new : RoomState = record state { region_len = room.region_len; regions = room.regions; image = room.image; faults = room.faults; own_faults = room.own_faults; is_shut = room.is_shut } in
    (room.is_shut ≡ true → StaysShut room new) → (IsStuck room → StaysStuck room new) → Becomes room new
becomes_still room state sealed places shut stuck = record { region_len = refl; regions = refl; told = refl; sealed = sealed; places = places; faults = omega arith; own_faults = omega arith; shut = shut; shut_by = λ h. inl h; stuck = stuck }
