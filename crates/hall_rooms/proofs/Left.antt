-- The room that a pass left at the end of its last turn, and the merge that is out then.
use Rattle.std.proofs.Common.{◌≡◌, ◌∙◌, ◌++◌, ℕ, Option, ap, sym}
use Rattle.fine_model.specs.declared.Entry.{Entry}
use Rattle.fine_model.specs.declared.law.RoomState.{RoomState}
use Rattle.fine_model.specs.Jobs.{KeepsJob}
use Rattle.fine_hall.specs.declared.law.Beginning.{Beginning}
use Rattle.fine_hall.specs.Turns.{room_after}
use Rattle.fine_hall.specs.Passes.{last_room, turns, LacksJob}
use Rattle.fine_hall.specs.Halls.{turn_of}
use Rattle.fine_hall.proofs.Turning.{after_last}
use Rattle.hall_rooms.specs.Rooms.{RoomPass}
use Rattle.hall_rooms.specs.Turning.{OneTurn}

pub last_is : (x : Beginning) (found : RoomState) (entry : Option Entry) (epoch : ℕ) (room : RoomState) (p p' : RoomPass) → OneTurn x found entry epoch room p p' → last_room x p' ≡ room
last_is x found entry epoch room p p' t = ap (room_after x.room) t.turns_more ∙ after_last x.room (turns p ++ t.others) (record { seat = p.number; item = turn_of entry epoch room t.returned })

-- a turn that leaves the merge as it was found leaves none, where there was none
pub job_left : (x : Beginning) (found : RoomState) (entry : Option Entry) (epoch : ℕ) (room : RoomState) (p p' : RoomPass) → p'.number ≡ p.number → OneTurn x found entry epoch room p p' → KeepsJob found room → LacksJob x p → LacksJob x p'
job_left x found entry epoch room p p' number t job lacks one =
    let was = sym number ∙ one in
    ap (λ (r : RoomState). r.job) (last_is x found entry epoch room p p' t) ∙ (job.job ∙ ((t.found_job was).job ∙ lacks was))
