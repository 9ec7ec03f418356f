-- A new disk has no parts.
use Rattle.std.proofs.Common.{◌≡◌, ◌≤◌, ℕ, ◌%◌, [], None, Some, Ok, Err, Result, refl, ap}
use Rattle.std.specs.Prelude.{IfSome, Option}
use Rattle.fine_model.specs.RowBytes.{longest_region, most_in_log}
use Rattle.fine_model.specs.Trees.{is_distinct}
use Rattle.fine_model.proofs.Chain.EmptyLog.{no_chain, zero_region}
use Rattle.log_disk.specs.Disk.{Told, zeros, told_anew, new_disk}
use Rattle.fine_model.specs.declared.law.RoomState.{RoomState}
use Rattle.epoch_room.specs.Value.{RoomValue}
use Rattle.epoch_room.specs.Whole.{AreParts, HoldsParts, IsIdle}
use Rattle.epoch_room.specs.Steps.{SealsOr, sealed_state}
use Rattle.epoch_room.specs.declared.answers.RoomFault.{RoomFault}
use Rattle.epoch_room.specs.declared.answers.RoomFault.TheVariants as room_fault

any_parts : (regions len : ℕ) (told : Option Told) → IfSome told (λ t. HoldsParts len t.bytes [] []) → AreParts (new_disk regions len told) [] []
unfolding is_distinct
any_parts regions len told held = record { in_chain = record { follow = tt }; apart = record { distinct = refl; below = tt }; lie = tt; rising = tt; told = held }

pub new_parts : (regions len : ℕ) → AreParts (new_disk regions len (Some (told_anew (zeros regions len)))) [] []
new_parts regions len = any_parts regions len _ (record { is_chain = no_chain len regions len; leads = λ r h. zero_region regions len r; headers = tt })

-- nor has one that tells no bytes
pub untold_parts : (regions len : ℕ) → AreParts (new_disk regions len None) [] []
untold_parts regions len = any_parts regions len None tt

-- and a room may be made on it, where it has the geometry of a log
pub new_idle : (regions len : ℕ) (told : Option Told) → (4 ≤ regions) × (regions ≤ most_in_log) → (4096 ≤ len) × (len ≤ longest_region) → len % 1024 ≡ 0 → IsIdle (new_disk regions len told)
new_idle regions len told few long whole = record {
  geometry = record { regions_low = few.0; regions_high = few.1; len_low = long.0; len_high = long.1; whole = whole };
  synced = refl;
  no_eyes = refl;
}

-- sealing leaves the board
pub still_boards : (old new : RoomValue) (result : Result ℕ RoomFault) → SealsOr old new result → new.room.board ≡ old.room.board
unfolding sealed_state
still_boards old new (Ok epoch) is = ap (λ (r : RoomState). r.board) is.2.1.room
still_boards old new (Err room_fault.Disk) is = ap (λ (r : RoomState). r.board) is.1.room
still_boards old new (Err (room_fault.Shut epoch)) is = ap (λ (v : RoomValue). v.room.board) is.2
still_boards old new (Err room_fault.NoMemory) is = ap (λ (r : RoomState). r.board) is.1.room

-- where nothing was sealed, the entries still wait
pub still_waits : (old new : RoomValue) (fault : RoomFault) → SealsOr old new (Err fault) → new.room.waiting ≡ old.room.waiting
still_waits old new room_fault.Disk is = ap (λ (r : RoomState). r.waiting) is.1.room
still_waits old new (room_fault.Shut epoch) is = ap (λ (v : RoomValue). v.room.waiting) is.2
still_waits old new room_fault.NoMemory is = ap (λ (r : RoomState). r.waiting) is.1.room
