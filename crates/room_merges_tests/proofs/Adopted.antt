-- Taking rows in touches no view and no job.
use Rattle.std.proofs.Common.{◌≡◌, List, Result, Ok, Err, ap}
use Rattle.fine_model.specs.declared.Range.{Range}
use Rattle.fine_model.specs.declared.Row.{Row}
use Rattle.fine_model.specs.declared.law.RoomState.{RoomState}
use Rattle.epoch_room.specs.Adopting.{AdoptsOr, adopted_state}
use Rattle.epoch_room.specs.Value.{RoomValue}
use Rattle.epoch_room.specs.declared.answers.AdoptFault.{AdoptFault}
use Rattle.epoch_room.specs.declared.answers.AdoptFault.TheVariants as adopt_fault
use Rattle.epoch_room.specs.declared.answers.RoomFault.TheVariants as room_fault

pub record KeepsOut (old new : RoomValue) : Type 0 where
  pub board : new.room.board ≡ old.room.board
  pub job : new.room.job ≡ old.room.job

same_out : (old new : RoomValue) → new ≡ old → KeepsOut old new
same_out old new e = record { board = ap (λ (r : RoomValue). r.room.board) e; job = ap (λ (r : RoomValue). r.room.job) e }

pub keeps_out : (range : Range) (rows : List Row) (old new : RoomValue) (result : Result (Unit {0}) AdoptFault) → AdoptsOr range rows old new result → KeepsOut old new
unfolding adopted_state
keeps_out range rows old new (Ok u) a = record { board = ap (λ (room : RoomState). room.board) a.room; job = ap (λ (room : RoomState). room.job) a.room }
keeps_out range rows old new (Err (adopt_fault.TooLarge need room)) a = same_out old new a.4
keeps_out range rows old new (Err (adopt_fault.Full free need)) a = same_out old new a.4
keeps_out range rows old new (Err (adopt_fault.Room room_fault.Disk)) a = record { board = ap (λ (room : RoomState). room.board) a.3.1.room; job = ap (λ (room : RoomState). room.job) a.3.1.room }
keeps_out range rows old new (Err (adopt_fault.Room (room_fault.Shut epoch))) a = same_out old new a.2
keeps_out range rows old new (Err (adopt_fault.Room room_fault.NoMemory)) a = record { board = ap (λ (room : RoomState). room.board) a.1.room; job = ap (λ (room : RoomState). room.job) a.1.room }
