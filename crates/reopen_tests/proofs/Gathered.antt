-- What gathering leaves of a room as it was.
use Rattle.std.proofs.Common.{◌≡◌, ℕ, Bool, true, false, List, Result, Ok, Err, inl, inr, refl, ap, ◌∙◌}
use Rattle.fine_model.specs.declared.Part.{Part}
use Rattle.fine_model.specs.declared.law.RoomState.{RoomState}
use Rattle.epoch_room.specs.Gathering.{GathersOr, gathered_state}
use Rattle.epoch_room.specs.Value.{RoomValue}
use Rattle.epoch_room.specs.declared.answers.RoomFault.{RoomFault}
use Rattle.epoch_room.specs.declared.answers.RoomFault.TheVariants as room_fault

-- a room has the board and the job of another
abbrev pub SameOut : RoomState → RoomState → Type 0
SameOut old new = (new.board ≡ old.board) × (new.job ≡ old.job)

out_of : (old new : RoomState) → new ≡ old → SameOut old new
out_of old new e = (ap (λ (r : RoomState). r.board) e, ap (λ (r : RoomState). r.job) e)

gathered_out : (room : RoomState) (before : List Part) (oldest : Part) (newer : List Part) (p : Part) → SameOut room (gathered_state room before oldest newer p)
unfolding gathered_state
gathered_out room before oldest newer p = (refl, refl)

-- views and merges that are out stay so, whatever gathering answers
pub same_out : (from : ℕ) (old new : RoomValue) (result : Result Bool RoomFault) → GathersOr from old new result → SameOut old.room new.room
same_out from old new (Ok true) g =
    let same = gathered_out old.room g.before g.oldest g.newer _ in let e = g.room.1.room in
    (ap (λ (r : RoomState). r.board) e ∙ same.0, ap (λ (r : RoomState). r.job) e ∙ same.1)
same_out from old new (Ok false) g = out_of old.room new.room (ap (λ (v : RoomValue). v.room) g.1)
same_out from old new (Err room_fault.Disk) (inl g) = (ap (λ (r : RoomState). r.board) g.0.1.room, ap (λ (r : RoomState). r.job) g.0.1.room)
same_out from old new (Err room_fault.Disk) (inr g) = (ap (λ (r : RoomState). r.board) g.0.1.room, ap (λ (r : RoomState). r.job) g.0.1.room)
same_out from old new (Err (room_fault.Shut epoch)) g = out_of old.room new.room (ap (λ (v : RoomValue). v.room) g.2)
same_out from old new (Err room_fault.NoMemory) g = (ap (λ (r : RoomState). r.board) g.1.room, ap (λ (r : RoomState). r.job) g.1.room)
