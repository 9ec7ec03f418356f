-- A try of the next transaction of a lane, as one step of the lane.
use Rattle.std.proofs.Common.{◌≡◌, ◌≢◌, ◌⊎◌, inl, inr, ℕ, zero, suc, ◌+◌, ◌<◌, ◌≤◌, false, true, List, [], ◌∷◌, ◌++◌, length, map, Option, Some, None, refl, sym, ap, subst, ◌∙◌, ⊎_elim, arith, append-nil, true≢false}
use Rattle.std.specs.Prelude.{slice_get, take}
use Rattle.std.proofs.lemmas.Option.{none-some, same_Some}
use Rattle.fine_model.specs.declared.Ending.TheVariants as ending
use Rattle.fine_model.specs.declared.Outcome.{Outcome}
use Rattle.fine_model.specs.declared.Outcome.TheVariants as outcome
use Rattle.fine_model.specs.declared.Row.{Row}
use Rattle.fine_model.specs.declared.RunFault.{RunFault}
use Rattle.fine_model.specs.declared.RunFault.TheVariants as run_fault
use Rattle.fine_model.specs.declared.ScriptTxn.{ScriptTxn}
use Rattle.fine_model.specs.declared.Why.{Why}
use Rattle.fine_model.specs.declared.Why.TheVariants as why
use Rattle.fine_model.specs.History.{Commit, all_rows}
use Rattle.fine_model.specs.Outcomes.{is_committed}
use Rattle.fine_places.specs.declared.model.Placed.{Placed}
use Rattle.fine_places.specs.History.{by_seat}
use Rattle.fine_hall.specs.declared.law.Beginning.{Beginning}
use Rattle.fine_hall.specs.declared.turn.Turn.{Turn}
use Rattle.fine_hall.specs.Laws.{AreTurns}
use Rattle.fine_hall.specs.Passes.{turns, own_turns, seen, mine}
use Rattle.hall_rooms.specs.Rooms.{RoomPass}
use Rattle.run_laws.specs.Runs.{IsReplied}
use Rattle.lane_laws.specs.Lanes.{AreFewIn, GoesOn, HasFull, HasMet, HasOutcomes, InNeed, LaneRuns, LaneValue, NeedsSoFar, OfBegan, Owes, OwesNext}
use Rattle.lane_laws.specs.Quiet.{QuietBut}
use Rattle.lane_laws.specs.Works.{placed_of}
use Rattle.txn_tries.specs.declared.turn.TurnEnd.{TurnEnd}
use Rattle.txn_tries.specs.declared.turn.TurnEnd.TheVariants as turn_end
use Rattle.txn_tries.specs.Turns.{IsCommitOf, IsEndOf, IsFullFor, MeetsNothing, NextOwes, RefusedNow, RunsTurn, outcomes_of}
use Rattle.lane_runs.specs.Lane.{with_fault, with_outcome}
use Rattle.lane_runs.specs.Steps.{FullFor, IsClean, IsNextOf, StaysBut, StepsLane, taken, went_of}
use Rattle.lane_runs.proofs.Few.{few_stays, most_takes, open_then}
use Rattle.lane_runs.proofs.Going.{Goes, mine_then}
use Rattle.lane_runs.proofs.Lists.{at_append}
use Rattle.lane_runs.proofs.Meeting.{clean_then, met_damage, met_disk, met_memory, met_none}
use Rattle.lane_runs.proofs.Needs.{need_weaker, owes_of_next, seen_few}
use Rattle.lane_runs.proofs.Outcomes.{CausedNow, ComesTo, has_stays, has_takes, with_first}
use Rattle.lane_runs.proofs.Quiet.{quiet_before}

-- ---- no refusal for a full log

-- none was refused for a full log, and the outcome more is none
pub none_full_more : (w : LaneValue) (o : Outcome) → (HasFull w → ⊥) → o ≢ outcome.Refused why.Full → HasFull (with_outcome w o) → ⊥
none_full_more w o none not full = ⊎_elim (λ old. none (full.0, old)) (λ new. not (only new.0 new.2)) (at_append w.work.done (o ∷ []) full.0 (outcome.Refused why.Full) full.1)
  where
    only : (k : ℕ) → slice_get (o ∷ []) k ≡ Some (outcome.Refused why.Full) → o ≡ outcome.Refused why.Full
    only zero e = let h : ◌≡◌ {A = Option Outcome} (Some o) (Some (outcome.Refused why.Full)) = e in cc
    only (suc k) e = absurd (none-some (outcome.Refused why.Full) e)

-- the first that is so refused is none, where none is
pub no_first_full : {P : Type 0} (w : LaneValue) (j : ℕ) → (HasFull w → ⊥) → slice_get w.work.done j ≡ Some (outcome.Refused why.Full) → P
no_first_full w j none is = absurd (none (j, is))

-- ---- an outcome beside no fault, or beside one

-- after a fault all of it is there but what the next transaction wants
pub runs_ended : (x : Beginning) (first : List (Placed Turn)) (script : List ScriptTxn) (group : ℕ) (p : RoomPass) (w : LaneValue) (fault : RunFault) → HasOutcomes x first script p (with_fault w fault) → AreFewIn group x p (with_fault w fault)
    → (HasFull w → ⊥) → (QuietBut p.number x.room (turns p) → OfBegan x (λ before. InNeed group x p (Unit {0}))) → LaneRuns x first script group p (with_fault w fault)
runs_ended x first script group p w fault has few none need = record {
  has = has;
  few = few;
  needs = λ q e before began. record {
    so_far = need_weaker group x p (Unit {0}) (OwesNext script x p (with_fault w fault) before ⊎ (GoesOn (with_fault w fault) → ⊥) ⊎ HasFull (with_fault w fault)) (λ u. inr (inl (λ on. let n = ap length on in absurd (omega (arith, n))))) (need q e before began);
    full = λ j i txn first_full at is. no_first_full w j none first_full.0;
  };
}

pub not_going : (w : LaneValue) (fault : RunFault) → GoesOn (with_fault w fault) → ⊥
not_going w fault on = let n = ap length on in absurd (omega (arith, n))

module _ (x : Beginning) (first : List (Placed Turn)) (script : List ScriptTxn) (group : ℕ) (p p' : RoomPass) (w : LaneValue) (i : ℕ) (txn : ScriptTxn) (some : 1 ≤ group) (number : p'.number ≡ p.number) (own : own_turns p ≡ by_seat p.number (turns p))
    (own_then : own_turns p' ≡ by_seat p'.number (turns p')) (lawful : AreTurns x (turns p)) (lawful_then : AreTurns x (turns p')) (next : IsNextOf script w i) (is : slice_get script i ≡ Some txn) (few_txns : length script ≤ 100000)
    (end : TurnEnd) (t : RunsTurn x group txn (i + 1) p p' end) (r : LaneRuns x first script group p w) where
  goes : Goes x p p' (outcomes_of end)
  goes = record { number = number; more = t.adds.more; turns_more = t.adds.turns_more; placed_is = t.adds.placed_is; own = own; own_then = own_then; lawful = lawful; lawful_then = lawful_then }

  need_then : QuietBut p'.number x.room (turns p') → OfBegan x (λ before. InNeed group x p' (NextOwes end txn x p' before))
  need_then q e before began =
      let before_quiet = quiet_before x p p' (outcomes_of end) goes q in
      t.needs (subst (λ n. QuietBut n x.room (turns p')) number q) (seen_few x first script p w few_txns r.has before_quiet) e before began
      (owes_of_next script group x p w before i txn next.goes_on next.none_full next.next_at is (r.needs before_quiet e before began))

  comes_to : (o : Outcome) → IsEndOf txn (i + 1) o → ((word : Why) → o ≡ outcome.Refused word → RefusedNow x p p' txn.calls word) → ComesTo x first script p p' w o
  comes_to o e cause = record {
    i = i;
    txn = txn;
    next_at = next.next_at;
    is_next = is;
    of = (e.of, e.run);
    numbered = λ place c same. (subst (IsCommitOf (i + 1)) same e.commit).0;
    replied = λ place c same. (subst (IsCommitOf (i + 1)) same e.commit).1;
    caused = λ word same. let n = cause word same in record { k = n.k; low = n.low; within = n.within; holds = λ f rows began. with_first x.room.region_len (rows ++ all_rows (take n.k (seen p'))) (turns p') first txn.calls word (n.holds f rows began) };
    none_full = λ j place c full same. next.none_full (j, full);
  }

  -- nothing was committed, and the next transaction is the same
  stays : outcomes_of end ≡ [] → ((before : List Row) → NextOwes end txn x p' before → Owes txn x p' before) → LaneRuns x first script group p' w
  stays none owes =
      let g = subst (Goes x p p') none goes in
      record {
        has = subst (λ (f : List (Placed Turn)). HasOutcomes x f script p' w) (append-nil first) (has_stays x first [] script p p' w w.work.left g r.has);
        few = few_stays x group p p' w w some g (λ on. on) r.few;
        needs = λ q e before began. record {
          so_far = need_weaker group x p' (NextOwes end txn x p' before) (OwesNext script x p' w before ⊎ (GoesOn w → ⊥) ⊎ HasFull w) (λ o. inl (record { i = i; txn = txn; next_at = next.next_at; is_next = is; owes = owes before o })) (need_then q e before began);
          full = λ j k other first_full at there. no_first_full w j next.none_full first_full.0;
        };
      }

  -- a fault ended it, and nothing was committed
  ends : (fault : RunFault) → outcomes_of end ≡ [] → ((before : List Row) → NextOwes end txn x p' before → Unit {0}) → LaneRuns x first script group p' (with_fault w fault)
  ends fault none owes =
      let g = subst (Goes x p p') none goes in
      runs_ended x first script group p' w fault
      (subst (λ (f : List (Placed Turn)). HasOutcomes x f script p' (with_fault w fault)) (append-nil first) (has_stays x first [] script p p' w (fault ∷ []) g r.has))
      (few_stays x group p p' w (with_fault w fault) some g (λ on. absurd (not_going w fault on)) r.few) next.none_full
      (λ q e before began. need_weaker group x p' (NextOwes end txn x p' before) (Unit {0}) (owes before) (need_then q e before began))

  -- an outcome, and none of them was refused for a full log
  takes : (o : Outcome) → end ≡ turn_end.Done o → outcomes_of end ≡ o ∷ [] → IsEndOf txn (i + 1) o → ((word : Why) → o ≡ outcome.Refused word → RefusedNow x p p' txn.calls word)
      → ((before : List Row) → NextOwes end txn x p' before → ⊥) → LaneRuns x first script group p' (with_outcome w o)
  takes o done one e cause owes =
      let g = subst (Goes x p p') one goes in
      record {
        has = has_takes x first script p p' w o w.work.left g r.has (comes_to o e cause);
        few = record {
          most = most_takes x group p p' w o some g next.goes_on r.few;
          open_epoch = λ on. ⊎_elim (λ f. f) (λ same. open_then x group some p p' (o ∷ []) g same (r.few.open_epoch next.goes_on)) (t.few o done);
        };
        needs = λ q n before began. record {
          so_far = need_weaker group x p' (NextOwes end txn x p' before) (OwesNext script x p' (with_outcome w o) before ⊎ (GoesOn (with_outcome w o) → ⊥) ⊎ HasFull (with_outcome w o)) (λ o. absurd (owes before o)) (need_then q n before began);
          full = λ j k other first_full at there. no_first_full (with_outcome w o) j (none_full_more w o next.none_full e.not_full) first_full.0;
        };
      }

  -- an outcome, which is a commit, and then a fault
  takes_then : (o : Outcome) (fault : RunFault) → end ≡ turn_end.Ended (Some o) fault → outcomes_of end ≡ o ∷ [] → IsEndOf txn (i + 1) o → ((before : List Row) → NextOwes end txn x p' before → Unit {0})
      → LaneRuns x first script group p' (with_fault (with_outcome w o) fault)
  takes_then o fault kept one e owes =
      let g = subst (Goes x p p') one goes in
      let committed = t.kept o fault kept in
      runs_ended x first script group p' (with_outcome w o) fault
      (has_takes x first script p p' w o (fault ∷ []) g r.has (comes_to o e (λ word same. absurd (true≢false (sym committed ∙ ap is_committed same)))))
      (record { most = most_takes x group p p' w o some g next.goes_on r.few; open_epoch = λ on. absurd (not_going (with_outcome w o) fault on) })
      (none_full_more w o next.none_full e.not_full)
      (λ q e before began. need_weaker group x p' (NextOwes end txn x p' before) (Unit {0}) (owes before) (need_then q e before began))

module _ (x : Beginning) (script : List ScriptTxn) (group : ℕ) (p p' : RoomPass) (w : LaneValue) (i : ℕ) (txn : ScriptTxn) (some : 1 ≤ group) (number : p'.number ≡ p.number) (own : own_turns p ≡ by_seat p.number (turns p))
    (own_then : own_turns p' ≡ by_seat p'.number (turns p')) (lawful : AreTurns x (turns p)) (lawful_then : AreTurns x (turns p')) (next : IsNextOf script w i) (is : slice_get script i ≡ Some txn) (few_txns : length script ≤ 100000) where
  -- what a lane has stays with what a try came to
  pub runs_step : (end : TurnEnd) → RunsTurn x group txn (i + 1) p p' end → (first : List (Placed Turn)) → LaneRuns x first script group p w → LaneRuns x first script group p' (taken w end)
  runs_step (turn_end.Done o) t first r =
      takes x first script group p p' w i txn some number own own_then lawful lawful_then next is few_txns (turn_end.Done o) t r o refl refl t.outcomes.0 t.ends.1 (λ before none. none)
  runs_step turn_end.Tried t first r = stays x first script group p p' w i txn some number own own_then lawful lawful_then next is few_txns turn_end.Tried t r refl (λ before o. o)
  runs_step turn_end.Full t first r = stays x first script group p p' w i txn some number own own_then lawful lawful_then next is few_txns turn_end.Full t r refl (λ before o. o)
  runs_step (turn_end.Ended None fault) t first r = ends x first script group p p' w i txn some number own own_then lawful lawful_then next is few_txns (turn_end.Ended None fault) t r fault refl (λ before u. u)
  runs_step (turn_end.Ended (Some o) fault) t first r =
      takes_then x first script group p p' w i txn some number own own_then lawful lawful_then next is few_txns (turn_end.Ended (Some o) fault) t r o fault refl refl t.outcomes.0 (λ before u. u)

  in_turn : (end : TurnEnd) (t : RunsTurn x group txn (i + 1) p p' end) → MeetsNothing x p p' t.adds.more → IsClean x p → IsClean x p'
  in_turn end t m c = clean_then x p p' t.adds.more number t.adds.turns_more m c

  met_ended : (w' : LaneValue) (kept : Option Outcome) (fault : RunFault) → RunsTurn x group txn (i + 1) p p' (turn_end.Ended kept fault) → IsClean x p → HasMet x p' (with_fault w' fault)
  met_ended w' kept run_fault.Disk t c = met_disk x p' w' t.ends
  met_ended w' kept run_fault.Memory t c = met_memory x p' w'
  met_ended w' kept (run_fault.Damaged what) t c = met_damage x p' w' what (in_turn (turn_end.Ended kept (run_fault.Damaged what)) t t.ends.0 c) t.ends.1 t.ends.2

  met_step : (end : TurnEnd) → RunsTurn x group txn (i + 1) p p' end → IsClean x p → HasMet x p' (taken w end)
  met_step (turn_end.Done o) t c = met_none x p' (with_outcome w o) next.goes_on (in_turn (turn_end.Done o) t t.ends.0 c)
  met_step turn_end.Tried t c = met_none x p' w next.goes_on (in_turn turn_end.Tried t t.ends c)
  met_step turn_end.Full t c = met_none x p' w next.goes_on (in_turn turn_end.Full t t.ends.0 c)
  met_step (turn_end.Ended None fault) t c = met_ended w None fault t c
  met_step (turn_end.Ended (Some o) fault) t c = met_ended (with_outcome w o) (Some o) fault t c

  none_full_step : (end : TurnEnd) → RunsTurn x group txn (i + 1) p p' end → HasFull (taken w end) → ⊥
  none_full_step (turn_end.Done o) t = none_full_more w o next.none_full t.outcomes.0.not_full
  none_full_step turn_end.Tried t = next.none_full
  none_full_step turn_end.Full t = next.none_full
  none_full_step (turn_end.Ended None fault) t = next.none_full
  none_full_step (turn_end.Ended (Some o) fault) t = none_full_more w o next.none_full t.outcomes.0.not_full

  stays_step : (end : TurnEnd) → StaysBut (went_of end) w (taken w end)
  stays_step (turn_end.Done o) = tt
  stays_step turn_end.Tried = refl
  stays_step turn_end.Full = refl
  stays_step (turn_end.Ended None fault) = tt
  stays_step (turn_end.Ended (Some o) fault) = tt

  full_step : (end : TurnEnd) → RunsTurn x group txn (i + 1) p p' end → FullFor (went_of end) x script i p'
  full_step (turn_end.Done o) t = tt
  full_step turn_end.Tried t = tt
  full_step turn_end.Full t = record {
    commits = λ other there. subst (λ (s : ScriptTxn). s.ending ≡ ending.Commit) (same_Some txn other (sym is ∙ there)) (t.commits refl);
    holds = λ other there q. subst (λ (s : ScriptTxn). OfBegan x (IsFullFor s.calls x p')) (same_Some txn other (sym is ∙ there)) (t.ends.1 (subst (λ n. QuietBut n x.room (turns p')) number q));
  }
  full_step (turn_end.Ended kept fault) t = tt

  -- a try is a step of the lane
  pub steps_lane : (end : TurnEnd) → RunsTurn x group txn (i + 1) p p' end → StepsLane x script group i p p' w (taken w end) (went_of end)
  steps_lane end t = record { runs = runs_step end t; met = met_step end t; none_full = none_full_step end t; stays = stays_step end; full = full_step end t }
