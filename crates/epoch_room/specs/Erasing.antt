-- What erasing parts makes of a room.
use Rattle.std.specs.Prelude.{◌≡◌, ◌≢◌, ℕ, nat_eq, false, not, List, [], ◌∷◌, ◌++◌, filter, map, length, is_none, is_some, None, Some, OnOk, Result, Ok, Err, IsErrOf}
use Rattle.std.specs.List.{list_any}
use Rattle.fine_model.specs.declared.Part.{Part}
use Rattle.fine_model.specs.declared.law.RoomState.{RoomState}
use Rattle.fine_model.specs.Boards.{Buffer, naming_of, set_of}
use Rattle.fine_model.specs.Jobs.{KeepsJob}
use Rattle.log_disk.specs.Disk.{SameBeside}
use Rattle.log_disk.specs.declared.refusal.DiskRefusal.{DiskRefusal}
use Rattle.log_disk.specs.declared.refusal.DiskRefusal.TheVariants as refusal
use Rattle.epoch_room.specs.Closing.{LeavesClosing, ReadsButGates}
use Rattle.epoch_room.specs.Value.{RoomValue, all_regions}
use Rattle.epoch_room.specs.Steps.{Does, Shuts, WasShut}
use Rattle.epoch_room.specs.Meaning.{Keeps}
use Rattle.epoch_room.specs.declared.answers.EraseFault.{EraseFault}
use Rattle.epoch_room.specs.declared.answers.EraseFault.TheVariants as erase_fault
use Rattle.epoch_room.specs.declared.answers.RoomFault.{RoomFault}
use Rattle.epoch_room.specs.declared.answers.RoomFault.TheVariants as room_fault

-- the parts that some regions lead, and the others
abbrev pub led_by : List ℕ → List Part → List Part
led_by leads parts = filter (λ p. list_any (nat_eq p.region) leads) parts

abbrev pub without : List ℕ → List Part → List Part
without leads parts = filter (λ p. not (list_any (nat_eq p.region) leads)) parts

-- the state without the retired parts that some regions lead; once they are erased, all their regions are free
abbrev pub left_state : RoomState → List ℕ → RoomState
left_state room leads = record room { retired = without leads room.retired }

abbrev pub erased_state : RoomState → List ℕ → RoomState
erased_state room leads = record (left_state room leads) { free = set_of (room.free ++ all_regions (led_by leads room.retired)) }

-- a part's gate is closed, and its regions are free; a view that names one of them names the lead
abbrev pub ErasesOr : ℕ → RoomValue → RoomValue → Result (Unit {0}) EraseFault → Type 0
ErasesOr region old new (Ok u) = (naming_of old.room.board region ≡ None) × (new.disk.unsynced ≡ []) × Does (erased_state old.room (region ∷ [])) old.target old new
ErasesOr region old new (Err (erase_fault.Held seat buffer)) = (old.room.is_shut ≡ false) × (naming_of old.room.board region ≡ Some (seat, buffer)) × (new ≡ old)
ErasesOr region old new (Err erase_fault.Disk) =
    (naming_of old.room.board region ≡ None) × (new.disk.unsynced ≡ old.disk.unsynced ++ region ∷ [])
    × Shuts (left_state old.room (region ∷ [])) old.target (all_regions (led_by (region ∷ []) old.room.retired)) old new
ErasesOr region old new (Err (erase_fault.Shut epoch)) = WasShut epoch old new
ErasesOr region old new (Err erase_fault.NoMemory) = (old.room.is_shut ≡ false) × (naming_of old.room.board region ≡ None) × (new ≡ old)

-- the leads of the parts that no view names, in their order
abbrev pub unheld_of : List Buffer → List Part → List ℕ
unheld_of board parts = filter (λ region. is_none (naming_of board region)) (map (λ p. p.region) parts)

abbrev pub unheld : RoomState → List ℕ
unheld room = unheld_of room.board room.retired

-- The gates of the first of these leads were begun: where none failed they are closed and durable, and the regions of their parts are
-- free; else the regions of their parts are lost, and the room is shut.
pub record ErasesLed (leads : List ℕ) (old new : RoomValue) (result : Result (Unit {0}) DiskRefusal) : Type 0 where
  pub begun : List ℕ
  pub more : List ℕ
  pub are : leads ≡ begun ++ more
  pub all : result ≡ Ok tt → more ≡ []
  pub some : IsErrOf result refusal.Failed → begun ≢ []
  pub wanted : IsErrOf result refusal.NoMemory → more ≢ []
  pub none : begun ≡ [] → new ≡ old
  pub synced : (IsErrOf result refusal.Failed → ⊥) → begun ≢ [] → new.disk.unsynced ≡ []
  pub does : (IsErrOf result refusal.Failed → ⊥) → begun ≢ [] → Does (erased_state old.room begun) old.target old new
  pub unsynced : IsErrOf result refusal.Failed → new.disk.unsynced ≡ old.disk.unsynced ++ begun
  pub shuts : IsErrOf result refusal.Failed → Shuts (left_state old.room begun) old.target (all_regions (led_by begun old.room.retired)) old new
  pub read : ReadsButGates begun old.disk new.disk
  pub leaves : LeavesClosing begun old.disk new.disk
  pub beside : SameBeside old.disk new.disk
  pub keeps : Keeps old new
  pub job : KeepsJob old.room new.room

-- all that erasing one part does
pub record Erases (region : ℕ) (old new : RoomValue) (result : Result (Unit {0}) EraseFault) : Type 0 where
  pub room : ErasesOr region old new result
  pub read : ReadsButGates (region ∷ []) old.disk new.disk
  pub leaves : LeavesClosing (region ∷ []) old.disk new.disk
  pub beside : SameBeside old.disk new.disk
  pub keeps : Keeps old new
  pub job : KeepsJob old.room new.room

-- the parts that these regions lead are erased; where there are none, nothing was done
abbrev pub FreesThese : List ℕ → RoomValue → RoomValue → Type 0
FreesThese leads old new = (leads ≡ [] → new ≡ old) × (leads ≢ [] → (new.disk.unsynced ≡ []) × Does (erased_state old.room leads) old.target old new)

-- the retired parts that some view names
abbrev pub held : RoomState → List Part
held room = filter (λ p. is_some (naming_of room.board p.region)) room.retired

-- All gates are written, and then one sync frees all. Where memory runs out, the first ones were erased, but
-- not all of them; where the disk fails, the regions
-- of the parts whose gates were begun are lost, and these gates alone are unsynced that were not.
abbrev pub ErasesAllOr : RoomValue → RoomValue → Result ℕ RoomFault → Type 0
ErasesAllOr old new (Ok erased) = (old.room.is_shut ≡ false) × (erased ≡ length (unheld old.room)) × FreesThese (unheld old.room) old new
ErasesAllOr old new (Err room_fault.Disk) =
    (begun : List ℕ) × (more : List ℕ) × (unheld old.room ≡ begun ++ more) × (begun ≢ []) × (new.disk.unsynced ≡ old.disk.unsynced ++ begun)
    × Shuts (left_state old.room begun) old.target (all_regions (led_by begun old.room.retired)) old new
ErasesAllOr old new (Err (room_fault.Shut epoch)) = WasShut epoch old new
ErasesAllOr old new (Err room_fault.NoMemory) =
    (old.room.is_shut ≡ false) × ((begun : List ℕ) × (more : List ℕ) × (unheld old.room ≡ begun ++ more) × (begun ≢ [] → more ≢ []) × FreesThese begun old new)

-- all that erasing every part does that no view names
pub record ErasesAll (old new : RoomValue) (result : Result ℕ RoomFault) : Type 0 where
  pub room : ErasesAllOr old new result
  pub left : OnOk result (new.room.retired ≡ held old.room)
  pub read : ReadsButGates (unheld old.room) old.disk new.disk
  pub leaves : LeavesClosing (unheld old.room) old.disk new.disk
  pub beside : SameBeside old.disk new.disk
  pub keeps : Keeps old new
  pub job : KeepsJob old.room new.room
