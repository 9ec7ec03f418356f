-- What a lane has once a fault ended it.
use Rattle.std.proofs.Common.{◌≡◌, inl, inr, List, [], ◌∷◌, length, ap, ⊎_elim, ◌⊎◌, ℕ, arith}
use Rattle.fine_model.specs.declared.RunFault.{RunFault}
use Rattle.fine_model.specs.declared.ScriptTxn.{ScriptTxn}
use Rattle.fine_places.specs.declared.model.Placed.{Placed}
use Rattle.fine_hall.specs.declared.law.Beginning.{Beginning}
use Rattle.fine_hall.specs.declared.turn.Turn.{Turn}
use Rattle.hall_rooms.specs.Rooms.{RoomPass}
use Rattle.lane_laws.specs.Lanes.{GoesOn, HasFull, LaneRuns, LaneValue, OwesNext}
use Rattle.lane_runs.specs.Lane.{with_fault}
use Rattle.lane_runs.proofs.Needs.{need_weaker}
use Rattle.lane_runs.proofs.Stepping.{not_going}

pub fault_added : (x : Beginning) (first : List (Placed Turn)) (script : List ScriptTxn) (group : ℕ) (p : RoomPass) (w : LaneValue) (fault : RunFault) → LaneRuns x first script group p w → LaneRuns x first script group p (with_fault w fault)
fault_added x first script group p w fault r = record {
  has = record {
    at = r.has.at;
    done = record { count = r.has.done.count; within = r.has.done.within; each = r.has.done.each; places = r.has.done.places; numbered = r.has.done.numbered };
    replied = r.has.replied;
    refused = r.has.refused;
    full_last = r.has.full_last;
  };
  few = record { most = r.few.most; open_epoch = λ on. absurd (not_going w fault on) };
  needs = λ q e before began.
      let n = r.needs q e before began in
      record {
        so_far = need_weaker group x p (OwesNext script x p w before ⊎ (GoesOn w → ⊥) ⊎ HasFull w) (OwesNext script x p (with_fault w fault) before ⊎ (GoesOn (with_fault w fault) → ⊥) ⊎ HasFull (with_fault w fault)) (λ or. inr (inl (not_going w fault))) n.so_far;
        full = n.full;
      };
}
