-- What a lane has stays as its pass sees more turns of others.
use Rattle.std.proofs.Common.{◌≡◌, ◌⊎◌, inl, inr, ℕ, ◌==◌, List, [], ◌++◌, length, Some, refl, sym, ap, subst, ◌∙◌, ⊎_elim, append-nil}
use Rattle.std.proofs.lemmas.List.Elements.{filter-append}
use Rattle.fine_model.specs.declared.Row.{Row}
use Rattle.fine_model.specs.declared.ScriptTxn.{ScriptTxn}
use Rattle.fine_model.specs.Causes.{IsRefusedInNeed}
use Rattle.fine_places.specs.declared.model.Placed.{Placed}
use Rattle.fine_places.specs.History.{by_seat}
use Rattle.fine_hall.specs.declared.law.Beginning.{Beginning}
use Rattle.fine_hall.specs.declared.turn.Turn.{Turn}
use Rattle.fine_hall.specs.Laws.{AreTurns}
use Rattle.fine_hall.specs.Passes.{turns, own_turns, seen, last_room}
use Rattle.fine_hall.specs.Halls.{SeesMore}
use Rattle.hall_rooms.specs.Rooms.{RoomPass}
use Rattle.lane_laws.specs.Lanes.{GoesOn, HasFull, LaneRuns, LaneValue, NeedsSoFar, OwesNext}
use Rattle.lane_laws.specs.Quiet.{QuietBut}
use Rattle.lane_laws.proofs.Placing.{placed_others}
use Rattle.lane_runs.specs.Rest.{RunsStay}
use Rattle.lane_runs.proofs.Few.{few_stays}
use Rattle.lane_runs.proofs.Going.{Goes}
use Rattle.lane_runs.proofs.Needs.{need_same, owes_same}
use Rattle.lane_runs.proofs.Outcomes.{has_stays}
use Rattle.lane_runs.proofs.Quiet.{IsStill, quiet_before, same_seen, still}

-- a pass that sees more goes on, and commits nothing
pub goes_seeing : (x : Beginning) (p p' : RoomPass) → p'.number ≡ p.number → own_turns p ≡ by_seat p.number (turns p) → SeesMore p p' → AreTurns x (turns p) → AreTurns x (turns p') → Goes x p p' []
goes_seeing x p p' number own s lawful lawful_then =
    let m = s.longer in
    record {
      number = number;
      more = m.0;
      turns_more = m.1;
      placed_is = placed_others p.number (length (seen p)) m.0 m.2;
      own = own;
      own_then = s.same_own ∙ (own ∙ (sym (append-nil (by_seat p.number (turns p))) ∙ (ap (λ l. by_seat p.number (turns p) ++ l) (sym m.2) ∙ (sym (filter-append (λ (t : Placed Turn). t.seat == p.number) (turns p) m.0) ∙ (ap (by_seat p.number) (sym m.1) ∙ ap (λ n. by_seat n (turns p')) (sym number))))));
      lawful = lawful;
      lawful_then = lawful_then;
    }

-- where all others are quiet, the history and the open epoch are as they were, and the others were quiet before
pub quiet_seeing : (x : Beginning) (p p' : RoomPass) → p'.number ≡ p.number → own_turns p ≡ by_seat p.number (turns p) → SeesMore p p' → AreTurns x (turns p) → AreTurns x (turns p') → QuietBut p'.number x.room (turns p')
    → (seen p' ≡ seen p) × IsStill (last_room x p) (last_room x p') × QuietBut p.number x.room (turns p)
unfolding goes_seeing
quiet_seeing x p p' number own s lawful lawful_then q =
    let g = goes_seeing x p p' number own s lawful lawful_then in
    (same_seen x p p' [] g q s.longer.2, still x p p' [] g q s.longer.2, quiet_before x p p' [] g q)

-- what epochs were sealed for, where the history and the open epoch are as they were
pub needs_same : (script : List ScriptTxn) (group : ℕ) (x : Beginning) (p p' : RoomPass) (w : LaneValue) (before : List Row) → seen p' ≡ seen p → IsStill (last_room x p) (last_room x p') → NeedsSoFar script group x p w before → NeedsSoFar script group x p' w before
needs_same script group x p p' w before same s n = record {
  so_far = need_same x p p' same s group (OwesNext script x p w before ⊎ (GoesOn w → ⊥) ⊎ HasFull w) (OwesNext script x p' w before ⊎ (GoesOn w → ⊥) ⊎ HasFull w)
      (λ or. ⊎_elim (λ o. inl (record { i = o.i; txn = o.txn; next_at = o.next_at; is_next = o.is_next; owes = owes_same x p p' same s o.txn before o.owes })) (λ h. inr h) or) n.so_far;
  full = λ j i txn is at there. subst (λ h. IsRefusedInNeed x.room.region_len group x.room.sealed before h txn.calls) (sym same) (n.full j i txn is at there);
}

pub runs_stay : RunsStay
runs_stay x first more script group p p' w some number own s lawful lawful_then r =
    let g = goes_seeing x p p' number own s lawful lawful_then in
    record {
      has = has_stays x first more script p p' w w.work.left g r.has;
      few = few_stays x group p p' w w some g (λ on. on) r.few;
      needs = λ q e before began. let same = quiet_seeing x p p' number own s lawful lawful_then q in needs_same script group x p p' w before same.0 same.1 (r.needs same.2 e before began);
    }
