-- A lane whose next transaction comes after one that was refused for a full log.
use Rattle.std.proofs.Common.{◌≡◌, ◌≢◌, ◌⊎◌, inl, inr, ℕ, zero, suc, ◌+◌, ◌<◌, ◌≤◌, List, [], ◌∷◌, ◌++◌, length, Option, Some, None, refl, sym, ap, subst, ◌∙◌, ⊎_elim, arith, append-nil}
use Rattle.std.specs.Prelude.{Contains, slice_get, take}
use Rattle.std.proofs.lemmas.Option.{none-some, same_Some, slice_get_within}
use Rattle.fine_model.specs.declared.Call.{Call}
use Rattle.fine_model.specs.declared.Outcome.{Outcome}
use Rattle.fine_model.specs.declared.Outcome.TheVariants as outcome
use Rattle.fine_model.specs.declared.Row.{Row}
use Rattle.fine_model.specs.declared.RunFault.{RunFault}
use Rattle.fine_model.specs.declared.RunFault.TheVariants as run_fault
use Rattle.fine_model.specs.declared.ScriptTxn.{ScriptTxn}
use Rattle.fine_model.specs.declared.Why.{Why}
use Rattle.fine_model.specs.declared.Why.TheVariants as why
use Rattle.fine_model.specs.Causes.{IsFirstFull, IsRefusedInNeed}
use Rattle.fine_model.specs.History.{Commit, all_rows}
use Rattle.fine_model.specs.Outcomes.{HasRun, IsOutcomeOf}
use Rattle.fine_places.specs.declared.model.Placed.{Placed}
use Rattle.fine_places.specs.History.{by_seat}
use Rattle.fine_hall.specs.declared.law.Beginning.{Beginning}
use Rattle.fine_hall.specs.declared.turn.Turn.{Turn}
use Rattle.fine_hall.specs.Halls.{SeesMore}
use Rattle.fine_hall.specs.Laws.{AreTurns}
use Rattle.fine_hall.specs.Passes.{turns, own_turns, seen, mine, troubles}
use Rattle.hall_rooms.specs.Rooms.{RoomPass}
use Rattle.hall_rooms.specs.Turning.{MeetsNone}
use Rattle.partition_hold.specs.Views.{state_of}
use Rattle.run_laws.proofs.Steps.{kept, old_at}
use Rattle.lane_laws.specs.Lanes.{GoesOn, HasFull, HasMet, LaneRuns, LaneValue, NeedsSoFar, OfBegan, OwesNext}
use Rattle.lane_laws.specs.Quiet.{OpenOf}
use Rattle.lane_laws.specs.Works.{placed_of}
use Rattle.lane_laws.proofs.Quiet.{open_stays}
use Rattle.txn_tries.specs.declared.turn.TurnEnd.{TurnEnd}
use Rattle.txn_tries.specs.declared.turn.TurnEnd.TheVariants as turn_end
use Rattle.txn_tries.specs.Turns.{RefusedNow, RefusedOrFull, RefusesSo, RefusesTurn}
use Rattle.lane_runs.specs.Lane.{with_fault, with_outcome}
use Rattle.lane_runs.specs.Resting.{IsStuckBy, RefusesNext}
use Rattle.lane_runs.specs.Steps.{IsClean, StandsNext, taken}
use Rattle.lane_runs.proofs.Faulted.{fault_added}
use Rattle.lane_runs.proofs.Few.{most_takes, open_then}
use Rattle.lane_runs.proofs.Fulled.{caused_full, same_why}
use Rattle.lane_runs.proofs.Going.{Goes, mine_then, seen_least}
use Rattle.lane_runs.proofs.Meeting.{met_damage, met_disk, met_memory, met_none}
use Rattle.lane_runs.proofs.Needs.{need_weaker}
use Rattle.lane_runs.proofs.Outcomes.{CausedNow, ComesTo, has_takes, with_first}
use Rattle.lane_runs.proofs.Stays.{goes_seeing, runs_stay}

-- an outcome without a commit
IsNone : Outcome → Type 0
IsNone o = (placed_of (o ∷ []) ≡ []) × HasRun o × ((place : ℕ) (c : Commit) → o ≡ outcome.Committed place c.epoch c.entry → ⊥)

none_by : (x : Beginning) (calls : List Call) (p p' : RoomPass) (o : Outcome) → RefusedOrFull x calls p p' o → IsNone o
unfolding IsNone
none_by x calls p p' (outcome.Committed place epoch entry) r = absurd r
none_by x calls p p' outcome.Aborted r = (refl, tt, λ place c e. absurd cc)
none_by x calls p p' (outcome.Refused why.Full) r = (refl, tt, λ place c e. absurd cc)
none_by x calls p p' (outcome.Refused why.Large) r = (refl, tt, λ place c e. absurd cc)
none_by x calls p p' (outcome.Refused why.Bucket) r = (refl, tt, λ place c e. absurd cc)
none_by x calls p p' (outcome.Refused why.Number) r = (refl, tt, λ place c e. absurd cc)
none_by x calls p p' outcome.NotRun r = absurd r

now_with : (x : Beginning) (first : List (Placed Turn)) (p p' : RoomPass) (calls : List Call) (word other : Why) → word ≡ other → RefusedNow x p p' calls word → CausedNow x first p p' calls other
now_with x first p p' calls word other is n =
    let m = subst (RefusedNow x p p' calls) is n in
    record { k = m.k; low = m.low; within = m.within; holds = λ e rows began. with_first x.room.region_len (rows ++ all_rows (take m.k (seen p'))) (turns p') first calls other (m.holds e rows began) }

cause_by : (x : Beginning) (first : List (Placed Turn)) (calls : List Call) (p p' : RoomPass) (low : length (seen p) ≤ length (seen p')) → IsStuckBy x first → (o : Outcome) → RefusedOrFull x calls p p' o → (word : Why) → o ≡ outcome.Refused word → CausedNow x first p p' calls word
cause_by x first calls p p' low stuck (outcome.Committed place epoch entry) r word is = absurd r
cause_by x first calls p p' low stuck outcome.Aborted r word is = absurd cc
cause_by x first calls p p' low stuck (outcome.Refused why.Full) r word is = caused_full x first p p' calls word (same_why why.Full word is) low stuck
cause_by x first calls p p' low stuck (outcome.Refused why.Large) r word is = now_with x first p p' calls why.Large word (same_why why.Large word is) r
cause_by x first calls p p' low stuck (outcome.Refused why.Bucket) r word is = now_with x first p p' calls why.Bucket word (same_why why.Bucket word is) r
cause_by x first calls p p' low stuck (outcome.Refused why.Number) r word is = now_with x first p p' calls why.Number word (same_why why.Number word is) r
cause_by x first calls p p' low stuck outcome.NotRun r word is = absurd r

-- one was refused for a full log, and still is
pub full_kept : (w : LaneValue) (o : Outcome) → HasFull w → HasFull (with_outcome w o)
full_kept w o h = (h.0, kept w.work.done o h.0 (outcome.Refused why.Full) h.1)

module _ (x : Beginning) (script : List ScriptTxn) (group : ℕ) (p p' : RoomPass) (w : LaneValue) (i : ℕ) (txn : ScriptTxn) (some : 1 ≤ group) (number : p'.number ≡ p.number) (own : own_turns p ≡ by_seat p.number (turns p)) (lawful : AreTurns x (turns p))
    (lawful_then : AreTurns x (turns p')) (next : StandsNext script w i) (is : slice_get script i ≡ Some txn) (sees : SeesMore p p') where
  goes : Goes x p p' []
  goes = goes_seeing x p p' number own sees lawful lawful_then

  -- the lane as its pass sees more
  seen_runs : (first : List (Placed Turn)) → LaneRuns x first script group p w → LaneRuns x first script group p' w
  seen_runs first r = subst (λ l. LaneRuns x l script group p' w) (append-nil first) (runs_stay x first [] script group p p' w some number own sees lawful lawful_then r)

  -- an outcome without a commit
  takes_none : (o : Outcome) → IsOutcomeOf txn o → RefusedOrFull x txn.calls p p' o → (first : List (Placed Turn)) → HasFull w → IsStuckBy x first → LaneRuns x first script group p w → LaneRuns x first script group p' (with_outcome w o)
  unfolding IsNone
  takes_none o of refused first had stuck r =
      let none = none_by x txn.calls p p' o refused in
      let g : Goes x p p' (o ∷ []) = record { number = number; more = goes.more; turns_more = goes.turns_more; placed_is = goes.placed_is ∙ sym none.0; own = own; own_then = goes.own_then; lawful = lawful; lawful_then = lawful_then } in
      let same : mine p' ≡ mine p = mine_then x p p' [] goes ∙ append-nil (mine p) in
      let then = seen_runs first r in
      record {
        has = has_takes x first script p p' w o w.work.left g r.has
            (record {
              i = i;
              txn = txn;
              next_at = next.next_at;
              is_next = is;
              of = (of, none.1);
              numbered = λ place c e. absurd (none.2 place c e);
              replied = λ place c e. absurd (none.2 place c e);
              caused = cause_by x first txn.calls p p' (seen_least x p p' [] goes) stuck o refused;
              none_full = λ j place c at e. none.2 place c e;
            });
        few = record {
          most = most_takes x group p p' w o some g next.goes_on r.few;
          open_epoch = λ on. open_then x group some p p' [] goes same (r.few.open_epoch next.goes_on);
        };
        needs = λ q e before began.
            let n = then.needs q e before began in
            record {
              so_far = need_weaker group x p' (OwesNext script x p' w before ⊎ (GoesOn w → ⊥) ⊎ HasFull w) (OwesNext script x p' (with_outcome w o) before ⊎ (GoesOn (with_outcome w o) → ⊥) ⊎ HasFull (with_outcome w o)) (λ or. inr (inr (full_kept w o had))) n.so_far;
              full = λ j k other f at there. n.full j k other (first_before j f) at there;
            };
      }
    where
      first_before : (j : ℕ) → IsFirstFull (with_outcome w o).work.done j → IsFirstFull w.work.done j
      first_before j f = ⊎_elim
          (λ old. (old, λ m before at. f.1 m before (kept w.work.done o m (outcome.Refused why.Full) at)))
          (λ last. absurd (let e = last.0 in let s = slice_get_within w.work.done had.0 (outcome.Refused why.Full) had.1 in f.1 had.0 (omega (arith, e, s)) (kept w.work.done o had.0 (outcome.Refused why.Full) had.1)))
          (old_at w.work.done o j (outcome.Refused why.Full) f.0)

  clean_seen : MeetsNone x p p' → IsClean x p → IsClean x p'
  clean_seen m c =
      let l = sees.longer in
      record { troubles = m ∙ c.troubles; opened = subst (λ n. OpenOf n x.room (turns p')) (sym number) (subst (OpenOf p.number x.room) (sym l.1) (open_stays p.number x.room (turns p) l.0 l.2 c.opened)) }

  met_fault : (fault : RunFault) → RefusesSo x txn p p' (turn_end.Ended None fault) → IsClean x p → HasMet x p' (with_fault w fault)
  met_fault run_fault.Disk s c = met_disk x p' w (inl s)
  met_fault run_fault.Memory s c = met_memory x p' w
  met_fault (run_fault.Damaged what) s c = met_damage x p' w what (clean_seen s.0 c) s.1 s.2

  -- what it came to where the log is known to be full
  pub refuses_next : (end : TurnEnd) → RefusesSo x txn p p' end → RefusesNext x script group p p' w (taken w end)
  refuses_next (turn_end.Done o) s = record {
    runs = λ first had stuck r. takes_none o s.1 s.2 first had stuck r;
    met = λ c. met_none x p' (with_outcome w o) next.goes_on (clean_seen s.0 c);
    full = full_kept w o;
  }
  refuses_next turn_end.Tried s = record {
    runs = λ first had stuck r. seen_runs first r;
    met = λ c. met_none x p' w next.goes_on (clean_seen s c);
    full = λ h. h;
  }
  refuses_next turn_end.Full s = absurd s
  refuses_next (turn_end.Ended (Some o) fault) s = absurd s
  refuses_next (turn_end.Ended None fault) s = record {
    runs = λ first had stuck r. fault_added x first script group p' w fault (seen_runs first r);
    met = met_fault fault s;
    full = λ h. h;
  }
