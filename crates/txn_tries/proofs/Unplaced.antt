-- Ends without a commit, later and sooner, and as the end of the whole transaction.
use Rattle.std.proofs.Common.{◌≡◌, ◌≢◌, ◌⊎◌, inl, inr, ⊎_elim, ℕ, ◌+◌, ◌<◌, ◌≤◌, List, [], ◌∷◌, ◌++◌, length, take, None, Some, Result, Ok, Err, refl, sym, ap, ◌∙◌, subst, arith}
use Rattle.std.specs.Prelude.{All, Contains}
use Rattle.std.proofs.lemmas.List.{take_all}
use Rattle.std.proofs.lemmas.List.Elements.{All-cons, All-contains, All-nil, Contains-append_left}
use Rattle.fine_model.specs.declared.Call.{Call}
use Rattle.fine_model.specs.declared.Ending.{Ending}
use Rattle.fine_model.specs.declared.Ending.TheVariants as ending
use Rattle.fine_model.specs.declared.Outcome.{Outcome}
use Rattle.fine_model.specs.declared.Outcome.TheVariants as outcome
use Rattle.fine_model.specs.declared.Row.{Row}
use Rattle.fine_model.specs.declared.RunFault.{RunFault}
use Rattle.fine_model.specs.declared.RunFault.TheVariants as run_fault
use Rattle.fine_model.specs.declared.ScriptTxn.{ScriptTxn}
use Rattle.fine_model.specs.declared.Why.{Why}
use Rattle.fine_model.specs.declared.Why.TheVariants as why
use Rattle.fine_model.specs.declared.law.RoomState.{RoomState}
use Rattle.fine_model.specs.Becomes.{Becomes}
use Rattle.fine_model.specs.Buckets.{Began}
use Rattle.fine_model.specs.History.{Commit, all_rows}
use Rattle.fine_model.specs.Merge.{cost}
use Rattle.fine_model.specs.Pushed.{all_pushed}
use Rattle.fine_model.specs.RowBytes.{greatest, short_header}
use Rattle.partition_hold.specs.Views.{state_of}
use Rattle.fine_places.specs.declared.model.Placed.{Placed}
use Rattle.fine_hall.specs.declared.law.Beginning.{Beginning}
use Rattle.fine_hall.specs.declared.turn.Turn.{Turn}
use Rattle.fine_hall.specs.Halls.{SeesMore}
use Rattle.fine_hall.specs.Laws.{AreTurns}
use Rattle.fine_hall.specs.Passes.{last_room, seen, troubles, turns}
use Rattle.fine_hall.specs.Turns.{RoomsGoOn, commits, room_after}
use Rattle.fine_hall.proofs.Since.{since_law}
use Rattle.hall_rooms.specs.Rooms.{RoomPass}
use Rattle.hall_rooms.specs.Turning.{MeetsNone}
use Rattle.lane_laws.specs.Lanes.{CauseAt, InNeed, IsSpentAt, Owes, SawShut}
use Rattle.lane_laws.specs.Quiet.{QuietBut}
use Rattle.txn_tries.specs.declared.turn.TurnEnd.{TurnEnd}
use Rattle.txn_tries.specs.declared.turn.TurnEnd.TheVariants as turn_end
use Rattle.txn_tries.specs.Turns.{IsFullFor, NeedsGoOn, RefusedNow, RefusesTurn, RunsTurn}
use Rattle.txn_tries.specs.Going.{AddsNone, OnlySees, Waits}
use Rattle.txn_tries.specs.Answering.{EndsWithout, StopsTurn}
use Rattle.txn_tries.specs.Committing.{Unplaced}
use Rattle.txn_tries.proofs.Adding.{adds_on, quiet_before, sees_adds, sees_still}
use Rattle.txn_tries.proofs.Needed.{need_still}
use Rattle.txn_tries.proofs.Refused.{without_later, without_sooner}
use Rattle.txn_tries.proofs.Waiting.{none_on, sees_waits, waits_on}

-- ---- from an earlier moment

pub unplaced_after : (group : ℕ) (txn : ScriptTxn) (x : Beginning) (p q r : RoomPass) (end : TurnEnd) → Waits group txn x p q → Unplaced group txn x q r end → Unplaced group txn x p r end
unplaced_after group txn x p q r (turn_end.Done o) w u = (waits_on group txn x p q r w u.0, without_sooner x txn p q r o w.adds.more w.adds.turns_more u.1)
unplaced_after group txn x p q r turn_end.Tried w u = waits_on group txn x p q r w u
unplaced_after group txn x p q r turn_end.Full w u = (waits_on group txn x p q r w u.0, λ quiet. u.1 (subst (λ n. QuietBut n x.room (turns r)) (sym w.number) quiet), u.2)
unplaced_after group txn x p q r (turn_end.Ended (Some o) fault) w u = u
unplaced_after group txn x p q r (turn_end.Ended None run_fault.Disk) w u = (none_on group txn x p q r w (λ first. Unit {0}) u.0, u.1)
unplaced_after group txn x p q r (turn_end.Ended None run_fault.Memory) w u = none_on group txn x p q r w (λ first. Unit {0}) u
unplaced_after group txn x p q r (turn_end.Ended None (run_fault.Damaged what)) w u = (waits_on group txn x p q r w u.0, u.1, u.2)

-- ---- to a later one

module _ (group : ℕ) (txn : ScriptTxn) (x : Beginning) (p q r : RoomPass) (s : OnlySees x q r) where
  none_later : AddsNone group txn x p q (λ first. Unit {0}) → AddsNone group txn x p r (λ first. Unit {0})
  none_later n = record {
    number = s.number ∙ n.number;
    adds = adds_on p q r n.number [] [] n.adds (sees_adds x q r s.sees);
    mine_same = ap commits s.sees.same_own ∙ n.mine_same;
    needs = λ quiet few e first began was.
        let st = sees_still x q r s.sees (subst (λ k. QuietBut k x.room (turns r)) (sym n.number) quiet) in
        need_still group x q r st.0 st.1 (Unit {0}) (Unit {0}) (λ h. h) (n.needs (quiet_before p q r n.number [] [] n.adds (sees_adds x q r s.sees) x quiet) few e first began was);
  }

  waits_later : Waits group txn x p q → Waits group txn x p r
  waits_later w = waits_on group txn x p q r w (sees_waits group txn x q r s)

  met_later : (0 < troubles state_of x q) ⊎ SawShut q → (0 < troubles state_of x r) ⊎ SawShut r
  met_later (inl some) = inl (subst (λ n. 0 < n) (sym s.meets) some)
  met_later (inr (t, there, shut)) = inr (t, subst (λ (l : List (Placed Turn)). Contains l t) (sym s.sees.longer.1) (Contains-append_left (turns q) s.sees.longer.0 t there), shut)

  full_later : Waits group txn x p q → (QuietBut p.number x.room (turns q) → (e : ℕ) (first : List Row) → Began x.log e first → IsFullFor txn.calls x q first) → QuietBut p.number x.room (turns r) → (e : ℕ) (first : List Row) → Began x.log e first
      → IsFullFor txn.calls x r first
  full_later w full quiet e first began =
      let was = full (quiet_before p q r w.number [] [] w.adds (sees_adds x q r s.sees) x quiet) e first began in
      let st = sees_still x q r s.sees (subst (λ k. QuietBut k x.room (turns r)) (sym w.number) quiet) in
      record {
        rows = was.rows;
        pushed = subst (λ (h : List Commit). all_pushed (first ++ all_rows h) txn.calls ≡ Ok was.rows) (sym st.1) was.pushed;
        alone = was.alone;
        none_waits = st.0.waiting ∙ was.none_waits;
        left = subst (λ n. n < greatest) (sym st.0.sealed) was.left;
      }

  pub unplaced_later : (end : TurnEnd) → Unplaced group txn x p q end → Unplaced group txn x p r end
  unplaced_later (turn_end.Done o) u = (waits_later u.0, without_later x txn p q r o s.sees.longer.0 s.sees.longer.1 u.1)
  unplaced_later turn_end.Tried u = waits_later u
  unplaced_later turn_end.Full u = (waits_later u.0, full_later u.0 u.1, u.2)
  unplaced_later (turn_end.Ended (Some o) fault) u = u
  unplaced_later (turn_end.Ended None run_fault.Disk) u = (none_later u.0, met_later u.1)
  unplaced_later (turn_end.Ended None run_fault.Memory) u = none_later u
  unplaced_later (turn_end.Ended None (run_fault.Damaged what)) u = (waits_later u.0, u.1, u.2)

-- ---- the need of an end

need_weaker : (group : ℕ) (x : Beginning) (p : RoomPass) (P Q : Type 0) → (P → Q ⊎ (greatest ≤ (last_room x p).sealed)) → InNeed group x p P → InNeed group x p Q
need_weaker group x p P Q on n = record {
  each = n.each;
  used = n.used;
  counts = n.counts;
  ends = λ none above. ⊎_elim (λ enough. inl enough) (⊎_elim (λ owes. inr (on owes)) (λ last. inr (inr last))) (n.ends none above);
}

-- each room of the turns became the last one
became : (before : RoomState) (l : List (Placed Turn)) → RoomsGoOn before l → All (λ t. Becomes t.item.room (room_after before l)) l
became before [] r = All-nil (λ t. Becomes t.item.room before)
became before (t ∷ l) r = All-cons (λ (u : Placed Turn). Becomes u.item.room (room_after t.item.room l)) t l (since_law t.item.room [] l r.1) (became t.item.room l r.1)

not_both : {A : Type 0} (a : A) (word : Why) (r : Result A Why) → r ≡ Ok a → r ≡ Err word → ⊥
not_both {A} a word r is err = let e : ◌≡◌ {A = Result A Why} (Ok a) (Err word) = sym is ∙ err in cc

same_rows : (a b : List Row) (r : Result (List Row) Why) → r ≡ Ok a → r ≡ Ok b → a ≡ b
same_rows a b r is at = let e : ◌≡◌ {A = Result (List Row) Why} (Ok a) (Ok b) = sym is ∙ at in cc

module _ (txn : ScriptTxn) (x : Beginning) (p p' : RoomPass) (lawful : AreTurns x (turns p')) (same : seen p' ≡ seen p) (few : length (seen p) < greatest) (first : List Row) (owes : Owes txn x p' first) where
  -- a transaction that is owed is refused for numbers alone
  not_owed : (word : Why) → word ≢ why.Full → CauseAt x.room.region_len (first ++ all_rows (seen p')) (turns p') txn.calls word → ⊥ ⊎ (greatest ≤ (last_room x p').sealed)
  not_owed why.Large not (rows, is, long) = inl (let e = ap cost (same_rows rows owes.rows (all_pushed (first ++ all_rows (seen p')) txn.calls) is owes.pushed) in let a = owes.alone in omega (arith, e, a, long))
  not_owed why.Bucket not err = inl (not_both owes.rows why.Bucket (all_pushed (first ++ all_rows (seen p')) txn.calls) owes.pushed err)
  not_owed why.Number not (inl err) = inl (not_both owes.rows why.Number (all_pushed (first ++ all_rows (seen p')) txn.calls) owes.pushed err)
  not_owed why.Number not (inr (t, there, at)) =
      let b = All-contains (λ (u : Placed Turn). Becomes u.item.room (last_room x p')) (turns p') t (became x.room (turns p') lawful.rooms) there in
      ⊎_elim (λ last. inr (let up = b.sealed in omega (arith, last, up))) (λ full. inl (let up = b.places in let n = lawful.places in let k = ap length same in omega (arith, full, up, n, k, few))) at
  not_owed why.Full not h = inl (not refl)

  refused_not_owed : (word : Why) → word ≢ why.Full → RefusedNow x p p' txn.calls word → (e : ℕ) → Began x.log e first → ⊥ ⊎ (greatest ≤ (last_room x p').sealed)
  refused_not_owed word not h e began = not_owed word not
      (subst (λ (l : List Commit). CauseAt x.room.region_len (first ++ all_rows l) (turns p') txn.calls word) (take_all h.k (seen p') (let n = ap length same in let low = h.low in omega (arith, n, low))) (h.holds e first began))

not_aborted : (a : Ending) → a ≡ ending.Commit → a ≡ ending.Abort → ⊥
not_aborted a one two = let e : ◌≡◌ {A = Ending} ending.Commit ending.Abort = sym one ∙ two in cc

-- ---- as the end of the whole

module _ (group : ℕ) (txn : ScriptTxn) (turn : ℕ) (x : Beginning) (p p' : RoomPass) (lawful : AreTurns x (turns p')) where
  done_needs : (o : Outcome) → Waits group txn x p p' → EndsWithout x txn p p' o → NeedsGoOn group txn x p p' (turn_end.Done o)
  done_needs o w e quiet few k first began n =
      need_weaker group x p' (Owes txn x p' first) ⊥ (λ owes. by o e owes (w.same_seen quiet)) (w.needs quiet few k first began n)
    where
      by : (o : Outcome) → EndsWithout x txn p p' o → Owes txn x p' first → seen p' ≡ seen p → ⊥ ⊎ (greatest ≤ (last_room x p').sealed)
      by (outcome.Committed place epoch entry) e owes same = absurd e.none
      by outcome.Aborted e owes same = inl (not_aborted txn.ending owes.commits e.of)
      by (outcome.Refused word) e owes same = refused_not_owed txn x p p' lawful same few first owes word (λ is. e.not_full (ap outcome.Refused is)) (e.cause word refl) k began
      by outcome.NotRun e owes same = absurd e.run

  done_runs : (o : Outcome) → Waits group txn x p p' → EndsWithout x txn p p' o → RunsTurn x group txn turn p p' (turn_end.Done o)
  done_runs (outcome.Committed place epoch entry) w e = absurd e.none
  done_runs outcome.Aborted w e = record {
    adds = w.adds;
    outcomes = (record { of = e.of; run = e.run; commit = tt; not_full = e.not_full }, tt);
    ends = (w.meets, e.cause);
    few = λ o is. inr w.mine_same;
    needs = done_needs outcome.Aborted w e;
    kept = λ o fault is. absurd cc;
    commits = λ is. absurd cc;
  }
  done_runs (outcome.Refused word) w e = record {
    adds = w.adds;
    outcomes = (record { of = e.of; run = e.run; commit = tt; not_full = e.not_full }, tt);
    ends = (w.meets, e.cause);
    few = λ o is. inr w.mine_same;
    needs = done_needs (outcome.Refused word) w e;
    kept = λ o fault is. absurd cc;
    commits = λ is. absurd cc;
  }
  done_runs outcome.NotRun w e = absurd e.run

  pub unplaced_runs : (end : TurnEnd) → Unplaced group txn x p p' end → RunsTurn x group txn turn p p' end
  unplaced_runs (turn_end.Done o) u = done_runs o u.0 u.1
  unplaced_runs turn_end.Tried u = record { adds = u.adds; outcomes = tt; ends = u.meets; few = λ o is. inr u.mine_same; needs = u.needs; kept = λ o fault is. absurd cc; commits = λ is. absurd cc }
  unplaced_runs turn_end.Full u = record { adds = u.0.adds; outcomes = tt; ends = (u.0.meets, u.1); few = λ o is. inr u.0.mine_same; needs = u.0.needs; kept = λ o fault is. absurd cc; commits = λ is. u.2 }
  unplaced_runs (turn_end.Ended (Some o) fault) u = absurd u
  unplaced_runs (turn_end.Ended None run_fault.Disk) u = record { adds = u.0.adds; outcomes = tt; ends = u.1; few = λ o is. inr u.0.mine_same; needs = u.0.needs; kept = λ o fault is. absurd cc; commits = λ is. absurd cc }
  unplaced_runs (turn_end.Ended None run_fault.Memory) u = record { adds = u.adds; outcomes = tt; ends = tt; few = λ o is. inr u.mine_same; needs = u.needs; kept = λ o fault is. absurd cc; commits = λ is. absurd cc }
  unplaced_runs (turn_end.Ended None (run_fault.Damaged what)) u = record { adds = u.0.adds; outcomes = tt; ends = (u.0.meets, u.1, u.2); few = λ o is. inr u.0.mine_same; needs = λ quiet few e first began n. need_weaker group x p' (Owes txn x p' first) (Unit {0}) (λ h. inl tt) (u.0.needs quiet few e first began n); kept = λ o fault is. absurd cc; commits = λ is. absurd cc }

-- ---- after a refused call

module _ (group : ℕ) (txn : ScriptTxn) (x : Beginning) (p p' : RoomPass) (number : p'.number ≡ p.number) (sees : SeesMore p p') where
  none_seen : AddsNone group txn x p p' (λ first. Unit {0})
  none_seen = record {
    number = number;
    adds = sees_adds x p p' sees;
    mine_same = ap commits sees.same_own;
    needs = λ quiet few e first began n. let st = sees_still x p p' sees quiet in need_still group x p p' st.0 st.1 (Owes txn x p first) (Unit {0}) (λ h. tt) n;
  }

  waits_seen : MeetsNone x p p' → Waits group txn x p p'
  waits_seen meets = sees_waits group txn x p p' (record { number = number; sees = sees; meets = meets })

  pub stops_unplaced : (end : TurnEnd) → StopsTurn x txn p p' end → Unplaced group txn x p p' end
  stops_unplaced (turn_end.Done o) s = (waits_seen s.0, s.1)
  stops_unplaced turn_end.Tried s = absurd s
  stops_unplaced turn_end.Full s = absurd s
  stops_unplaced (turn_end.Ended (Some o) fault) s = s
  stops_unplaced (turn_end.Ended None run_fault.Disk) s = (none_seen, inl s)
  stops_unplaced (turn_end.Ended None run_fault.Memory) s = none_seen
  stops_unplaced (turn_end.Ended None (run_fault.Damaged what)) s = (waits_seen s.0, s.1, s.2)
