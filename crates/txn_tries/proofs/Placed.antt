-- A transaction that was committed, and the end of its turn.
use Rattle.std.proofs.Common.{◌≡◌, ◌⊎◌, inl, inr, ⊎_elim, ℕ, ◌+◌, ◌<◌, ◌≤◌, ◌==◌, true, List, [], ◌∷◌, ◌++◌, length, map, Some, Result, Ok, Err, refl, sym, ap, ◌∙◌, subst, arith, length-append}
use Rattle.std.specs.Prelude.{All, count_by}
use Rattle.std.specs.List.{AllZip}
use Rattle.fine_model.specs.declared.Entry.{Entry}
use Rattle.fine_model.specs.declared.Outcome.{Outcome}
use Rattle.fine_model.specs.declared.Outcome.TheVariants as outcome
use Rattle.fine_model.specs.declared.Row.{Row}
use Rattle.fine_model.specs.declared.RunFault.{RunFault}
use Rattle.fine_model.specs.declared.RunFault.TheVariants as run_fault
use Rattle.fine_model.specs.declared.ScriptTxn.{ScriptTxn}
use Rattle.fine_model.specs.declared.Why.{Why}
use Rattle.fine_model.specs.declared.Why.TheVariants as why
use Rattle.fine_model.specs.declared.law.RoomState.{RoomState}
use Rattle.fine_model.specs.Buckets.{Began}
use Rattle.fine_model.specs.History.{Commit, all_rows}
use Rattle.fine_model.specs.Merge.{cost}
use Rattle.fine_model.specs.Outcomes.{is_committed}
use Rattle.fine_model.specs.Pushed.{all_pushed}
use Rattle.fine_model.specs.RowBytes.{greatest, short_header}
use Rattle.fine_model.specs.Store.{IsReplyTo}
use Rattle.fine_model.proofs.Histories.Epochs.{epochs_below}
use Rattle.epoch_room.specs.Steps.{appended}
use Rattle.epoch_room.specs.Value.{RoomValue}
use Rattle.epoch_room.specs.declared.answers.Fit.TheVariants as fit
use Rattle.txn_draft.specs.Drafts.{entry_of}
use Rattle.fine_places.specs.History.{by_seat}
use Rattle.fine_hall.specs.declared.law.Beginning.{Beginning}
use Rattle.fine_hall.specs.Laws.{CountsEpochs}
use Rattle.fine_hall.specs.Passes.{last_room, mine, own_turns, seen, turns}
use Rattle.fine_hall.specs.Turns.{added, commits}
use Rattle.hall_rooms.specs.Rooms.{RoomPass}
use Rattle.hall_rooms.proofs.Left.{last_is}
use Rattle.txn_engine.specs.declared.txn.Committed.{Committed}
use Rattle.txn_engine.specs.declared.txn.Txn.{Txn}
use Rattle.txn_engine.specs.Txns.{CommitsCounted, IsOpenTxn}
use Rattle.run_laws.specs.Needs.{HadNeed}
use Rattle.lane_laws.specs.Lanes.{InNeed, Owes}
use Rattle.lane_laws.specs.Quiet.{QuietBut}
use Rattle.txn_tries.specs.declared.turn.TurnEnd.{TurnEnd}
use Rattle.txn_tries.specs.declared.turn.TurnEnd.TheVariants as turn_end
use Rattle.txn_tries.specs.Turns.{EndsSo, NextOwes, RunsTurn, StaysFew}
use Rattle.txn_tries.specs.Going.{IsCommittable, Waits, txn_of}
use Rattle.txn_tries.specs.Committing.{IsFaultOf, IsGroupDue, IsPlaced, SealsDue, SealsOn, committed_as}
use Rattle.txn_tries.proofs.Adding.{adds_on, meets_on, quiet_before, turn_adds, turn_open, turn_seen, turn_still}
use Rattle.txn_tries.proofs.Entries.{fewer_own, none_higher}
use Rattle.txn_tries.proofs.Fits.{some_left, tests_of}
use Rattle.txn_tries.proofs.Needed.{need_commits}
use Rattle.txn_tries.proofs.Refused.{refused_sooner}
use Rattle.txn_tries.proofs.Waiting.{needs_on}

-- ---- the commit

same_rows : (a b : List Row) (r : Result (List Row) Why) → r ≡ Ok a → r ≡ Ok b → a ≡ b
same_rows a b r is at = let e : ◌≡◌ {A = Result (List Row) Why} (Ok a) (Ok b) = sym is ∙ at in cc

appended_is : (value : RoomValue) (rows : List Row)
    → ((appended value rows).room.is_shut ≡ value.room.is_shut) × ((appended value rows).room.sealed ≡ value.room.sealed) × ((appended value rows).room.waiting ≡ value.room.waiting + 1) × ((appended value rows).room.used ≡ value.room.used + cost rows)
unfolding appended
appended_is value rows = (refl, refl, refl, refl)

module _ (group keep : ℕ) (x : Beginning) (t t' : Txn) (p p' : RoomPass) (done : Committed) (number : p'.number ≡ p.number) (is_open : IsOpenTxn x t p) (may : IsCommittable t.draft) (c : CommitsCounted x keep t t' p p' done) where
  abbrev Changes : Type 0
  Changes = (c.commits.room.is_shut ≡ c.commits.found.is_shut) × (c.commits.room.sealed ≡ c.commits.found.sealed) × (c.commits.room.waiting ≡ c.commits.found.waiting + 1) × (c.commits.room.used ≡ c.commits.found.used + cost t.draft.rows)

  changes : Changes
  changes =
      let a = c.commits.appends in
      let b = appended_is a.0 t.draft.rows in (
        ap (λ (r : RoomState). r.is_shut) a.2 ∙ (b.0 ∙ ap (λ (r : RoomState). r.is_shut) a.1),
        ap (λ (r : RoomState). r.sealed) a.2 ∙ (b.1 ∙ ap (λ (r : RoomState). r.sealed) a.1),
        ap (λ (r : RoomState). r.waiting) a.2 ∙ (b.2 ∙ ap (λ (r : RoomState). r.waiting + 1) a.1),
        ap (λ (r : RoomState). r.used) a.2 ∙ (b.3 ∙ ap (λ (r : RoomState). r.used + cost t.draft.rows) a.1),
      )

  last : last_room x p' ≡ c.commits.room
  last = last_is x c.commits.found (Some (entry_of t.draft)) done.stamp.epoch c.commits.room p p' c.commits.turn.one

  saw : seen p' ≡ commits (turns p ++ c.commits.turn.others) ++ record { entry = entry_of t.draft; epoch = done.stamp.epoch } ∷ []
  saw = turn_seen x c.commits.found c.commits.room (Some (entry_of t.draft)) done.stamp.epoch p p' c.commits.turn.one

  place : length (commits (turns p ++ c.commits.turn.others)) + 1 ≡ done.stamp.place
  place = sym (c.commits.place ∙ (ap length saw ∙ length-append (commits (turns p ++ c.commits.turn.others)) (record { entry = entry_of t.draft; epoch = done.stamp.epoch } ∷ [])))

  next : done.stamp.epoch ≡ (last_room x p').sealed + 1
  next = c.commits.epoch ∙ ap (λ n. n + 1) (sym (ap (λ (r : RoomState). r.sealed) last ∙ changes.1))

  needs : QuietBut p.number x.room (turns p') → (e : ℕ) (first : List Row) → Began x.log e first → InNeed group x p (Owes (txn_of t.draft) x p first) → InNeed group x p' ⊥
  needs quiet e first began n =
      let st = turn_still x c.commits.found c.commits.room (Some (entry_of t.draft)) done.stamp.epoch p p' c.commits.turn.one quiet in
      let fits = tests_of c.commits.found (cost t.draft.rows) fit.Fits c.commits.fits in
      let left = some_left c.commits.found fits.left in
      need_commits group x p p' (record { entry = entry_of t.draft; epoch = done.stamp.epoch }) (Owes (txn_of t.draft) x p first) n (saw ∙ ap (λ l. l ++ record { entry = entry_of t.draft; epoch = done.stamp.epoch } ∷ []) st.1)
      (ap (λ (r : RoomState). r.sealed) last ∙ (changes.1 ∙ st.0.sealed))
      (ap (λ (r : RoomState). r.used) last ∙ (changes.3 ∙ ap (λ k. k + cost t.draft.rows) st.0.used))
      (let a = ap (λ (r : RoomState). r.waiting) last in let b = changes.2 in omega (arith, a, b))
      (c.commits.epoch ∙ ap (λ k. k + 1) st.0.sealed) (subst (λ r. CountsEpochs x r (seen p')) (sym last) c.counts)
      (λ none above. ⊎_elim (λ enough. inl enough)
      (⊎_elim
      (λ (o : Owes (txn_of t.draft) x p first). inr (let same = ap cost (same_rows o.rows t.draft.rows (all_pushed (first ++ all_rows (seen p)) t.draft.calls) o.pushed ((is_open.open_on.answers may.not_failed).answered e first began).is_pushed) in
      let long = o.too_long in omega (arith, long, same)))
      (λ top. absurd (let s = st.0.sealed in omega (arith, top, left, s))))
      (n.ends none above)) ⊥

  pub commit_placed : IsPlaced group (txn_of t.draft) t.draft.turn x p p' done
  commit_placed = record {
    number = number;
    adds = turn_adds x c.commits.found c.commits.room (Some (entry_of t.draft)) done.stamp.epoch p p' c.commits.turn.one ((done.stamp.place, record { entry = done.entry; epoch = done.stamp.epoch }) ∷ [])
        ((λ i. (place i, record { entry = sym c.entry i; epoch = done.stamp.epoch }) ∷ []));
    meets = record { meets = c.commits.meets; opened = turn_open x c.commits.found c.commits.room (Some (entry_of t.draft)) done.stamp.epoch p p' c.commits.turn.one changes.0 };
    outcome_is = record {
      of = (refl, ap (λ (e : Entry). e.lane) c.entry, ap (λ (e : Entry). e.calls) c.entry);
      run = tt;
      commit = (ap (λ (e : Entry). e.turn) c.entry, subst (λ (e : Entry). AllZip IsReplyTo e.calls e.replies) (sym c.entry) may.replied);
      not_full = λ is. cc;
    };
    counts = subst (λ r. CountsEpochs x r (seen p')) (sym last) c.counts;
    waits = c.waits ∙ ap (λ (r : RoomState). r.waiting) (sym last);
    epoch = next;
    needs = λ quiet few e first began n. needs quiet e first began n;
  }

-- ---- few are of the open epoch

module _ (x : Beginning) (p : RoomPass) (own : own_turns p ≡ by_seat p.number (turns p)) where
  own_fewer : (e : ℕ) → count_by (λ c. c.epoch == e) (mine p) ≤ count_by (λ c. c.epoch == e) (seen p)
  own_fewer e = subst (λ l. count_by (λ c. c.epoch == e) (commits l) ≤ count_by (λ c. c.epoch == e) (seen p)) (sym own) (fewer_own p.number e (turns p))

  few_wait : (group waiting : ℕ) → CountsEpochs x (last_room x p) (seen p) → waiting ≡ (last_room x p).waiting → waiting < group → StaysFew group x p
  few_wait group waiting counts is few = let a = own_fewer ((last_room x p).sealed + 1) in let b = counts.waiting in omega (arith, a, b, is, few)

  few_later : (group : ℕ) (q : RoomPass) → CountsEpochs x (last_room x p) (seen p) → mine q ≡ mine p → (last_room x p).sealed + 1 ≤ (last_room x q).sealed → 1 ≤ group → StaysFew group x q
  few_later group q counts same far some =
      let a = own_fewer ((last_room x q).sealed + 1) in
      let b = none_higher ((last_room x p).sealed + 1) ((last_room x q).sealed + 1) (seen p) (epochs_below x.room.sealed (seen p) (last_room x p).sealed counts.follow counts.sealed) (omega (arith, far)) in
      let c : count_by (λ c. c.epoch == (last_room x q).sealed + 1) (mine q) ≡ count_by (λ c. c.epoch == (last_room x q).sealed + 1) (mine p) = ap (count_by (λ c. c.epoch == (last_room x q).sealed + 1)) same in
      omega (arith, a, b, c, some)

-- ---- the end of the turn

module _ (group : ℕ) (txn : ScriptTxn) (turn : ℕ) (x : Beginning) (p q : RoomPass) (done : Committed) (own : own_turns q ≡ by_seat q.number (turns q)) (pl : IsPlaced group txn turn x p q done) where
  -- its entry fills no group
  pub placed_runs : done.waiting < group → RunsTurn x group txn turn p q (turn_end.Done (committed_as done))
  placed_runs few = record {
    adds = pl.adds;
    outcomes = (pl.outcome_is, tt);
    ends = (pl.meets, λ word is. absurd cc);
    few = λ o is. inl (few_wait x q own group done.waiting pl.counts pl.waits few);
    needs = pl.needs;
    kept = λ o fault is. absurd cc;
    commits = λ is. absurd cc;
  }

  module _ (r : RoomPass) (enough : group ≤ done.waiting) where
    due : QuietBut p.number x.room (turns q) → InNeed group x q ⊥ → IsGroupDue group x q
    due quiet n = record { needed = n; due = inr (subst (λ k. group ≤ k) pl.waits enough) }

    -- it fills one, and the epoch is sealed
    pub sealed_runs : 1 ≤ group → SealsOn group x q r → done.stamp.epoch ≤ (last_room x r).sealed → RunsTurn x group txn turn p r (turn_end.Done (committed_as done))
    sealed_runs some s far = record {
      adds = adds_on p q r pl.number _ [] pl.adds s.adds;
      outcomes = (pl.outcome_is, tt);
      ends = (meets_on p q r pl.number _ [] pl.adds s.adds x pl.meets s.meets, λ word is. absurd cc);
      few = λ o is. inl (few_later x q own group r pl.counts s.mine_same (let e = pl.epoch in omega (arith, e, far)) some);
      needs = λ quiet few e first began n.
          let h = quiet_before p q r pl.number _ [] pl.adds s.adds x quiet in
          (s.needs (subst (λ k. QuietBut k x.room (turns r)) (sym pl.number) quiet) (due h (pl.needs h few e first began n))).needed;
      kept = λ o fault is. absurd cc;
      commits = λ is. absurd cc;
    }

    -- or a fault came
    pub fault_runs : (fault : RunFault) → SealsDue group x q r (λ s. InNeed group x s (Unit {0})) → IsFaultOf r fault → RunsTurn x group txn turn p r (turn_end.Ended (Some (committed_as done)) fault)
    fault_runs fault s is = record {
      adds = adds_on p q r pl.number _ [] pl.adds s.adds;
      outcomes = (pl.outcome_is, tt);
      ends = by fault is;
      few = λ o same. absurd cc;
      needs = λ quiet few e first began n.
          let h = quiet_before p q r pl.number _ [] pl.adds s.adds x quiet in
          s.needs (subst (λ k. QuietBut k x.room (turns r)) (sym pl.number) quiet) (due h (pl.needs h few e first began n));
      kept = λ o f same. subst (λ (k : Outcome). is_committed k ≡ true) (same_outcome (committed_as done) o fault f same) refl;
      commits = λ same. absurd cc;
    }
      where
        same_outcome : (a b : Outcome) (e f : RunFault) → turn_end.Ended (Some a) e ≡ turn_end.Ended (Some b) f → a ≡ b
        same_outcome a b e f same = cc

        by : (fault : RunFault) → IsFaultOf r fault → EndsSo x txn.calls p r (pl.adds.more ++ s.adds.more) (turn_end.Ended (Some (committed_as done)) fault)
        by run_fault.Disk is = inr is
        by run_fault.Memory is = tt
        by (run_fault.Damaged what) is = absurd is

-- ---- from an earlier moment

module _ (group : ℕ) (txn : ScriptTxn) (turn : ℕ) (x : Beginning) (p q r : RoomPass) (w : Waits group txn x p q) where
  pub placed_after : (done : Committed) → IsPlaced group txn turn x q r done → IsPlaced group txn turn x p r done
  placed_after done pl = record {
    number = pl.number ∙ w.number;
    adds = adds_on p q r w.number [] _ w.adds pl.adds;
    meets = meets_on p q r w.number [] _ w.adds pl.adds x w.meets pl.meets;
    outcome_is = pl.outcome_is;
    counts = pl.counts;
    waits = pl.waits;
    epoch = pl.epoch;
    needs = needs_on group txn x p q r w _ pl.adds (λ first. ⊥) pl.needs;
  }

  pub runs_after : (end : TurnEnd) → RunsTurn x group txn turn q r end → RunsTurn x group txn turn p r end
  runs_after end e = record {
    adds = adds_on p q r w.number [] _ w.adds e.adds;
    outcomes = e.outcomes;
    ends = by end e.ends;
    few = λ o is. ⊎_elim (λ few. inl few) (λ (same : mine r ≡ mine q). inr (same ∙ w.mine_same)) (e.few o is);
    needs = needs_on group txn x p q r w _ e.adds (NextOwes end txn x r) e.needs;
    kept = e.kept;
    commits = e.commits;
  }
    where
      by : (end : TurnEnd) → EndsSo x txn.calls q r e.adds.more end → EndsSo x txn.calls p r (w.adds.more ++ e.adds.more) end
      by (turn_end.Done o) s = (meets_on p q r w.number [] _ w.adds e.adds x w.meets s.0, λ word is. refused_sooner x p q r txn.calls word w.adds.more w.adds.turns_more (s.1 word is))
      by turn_end.Tried s = meets_on p q r w.number [] _ w.adds e.adds x w.meets s
      by turn_end.Full s = (meets_on p q r w.number [] _ w.adds e.adds x w.meets s.0, λ quiet. s.1 (subst (λ n. QuietBut n x.room (turns r)) (sym w.number) quiet))
      by (turn_end.Ended kept run_fault.Disk) s = s
      by (turn_end.Ended kept run_fault.Memory) s = s
      by (turn_end.Ended kept (run_fault.Damaged what)) s = (meets_on p q r w.number [] _ w.adds e.adds x w.meets s.0, s.1, s.2)
