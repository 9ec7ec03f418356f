-- A lane on its thread after a try.
use Rattle.std.proofs.Common.{◌≡◌, ◌≢◌, ◌⊎◌, ℕ, ◌≤◌, List, [], sym, subst, ◌∙◌, ⊎_elim}
use Rattle.fine_model.specs.declared.RunFault.TheVariants as run_fault
use Rattle.fine_model.specs.declared.ScriptTxn.{ScriptTxn}
use Rattle.node_cache.specs.Cache.{Cache}
use Rattle.partition_hold.specs.Views.{ViewValue}
use Rattle.epoch_room.specs.Value.{RoomValue}
use Rattle.fine_hall.specs.declared.law.Beginning.{Beginning}
use Rattle.fine_hall.specs.Halls.{HallOf}
use Rattle.hall_rooms.specs.Rooms.{IsIdle, RoomPass, beginning_of}
use Rattle.lane_laws.specs.Lanes.{GoesOn, HasMet, LaneSoFar, LaneValue}
use Rattle.lane_runs.specs.declared.step.Went.{Went}
use Rattle.lane_runs.specs.declared.step.Went.TheVariants as went
use Rattle.lane_runs.specs.Steps.{IsClean, IsNextOf, StaysBut, StepsLane}
use Rattle.lane_runs.proofs.Meeting.{none_of}

-- a lane that goes on met nothing
pub clean_of : (x : Beginning) (p : RoomPass) (w : LaneValue) → GoesOn w → HasMet x p w → IsClean x p
clean_of x p w on m = record {
  troubles = ⊎_elim (λ h. h) (λ or. ⊎_elim (λ at. absurd (none_of w on run_fault.Disk at)) (λ at. absurd (none_of w on run_fault.Memory at)) or) m.clean;
  opened = ⊎_elim (λ h. h) (λ or. ⊎_elim (λ at. absurd (none_of w on run_fault.Disk at)) (λ at. absurd (none_of w on run_fault.Memory at)) or) m.opened;
}

pub so_far_then : {Q : Type 0} (hall : HallOf RoomValue Cache ViewValue Q) (script : List ScriptTxn) (group i : ℕ) (p p' : RoomPass) (w w' : LaneValue) (how : Went) → IsNextOf script w i → LaneSoFar hall script group p w → IsIdle hall p' × (p'.number ≡ p.number)
    → StepsLane (beginning_of hall) script group i p p' w w' how → LaneSoFar hall script group p' w'
so_far_then hall script group i p p' w w' how next l idle s = record {
  idle = idle.0;
  seat = λ one. l.seat (sym idle.1 ∙ one);
  runs = s.runs [] l.runs;
  met = s.met (clean_of (beginning_of hall) p w next.goes_on l.met);
}

-- a lane that is as it was has the same next transaction
pub next_then : (script : List ScriptTxn) (i : ℕ) (w w' : LaneValue) (how : Went) → how ≡ went.Full → StaysBut how w w' → IsNextOf script w i → IsNextOf script w' i
next_then script i w w' how full stays next = subst (λ v. IsNextOf script v i) (sym (subst (λ h. StaysBut h w w') full stays)) next
