-- What epochs were sealed for, over turns that leave the open epoch, that seal it, and that commit.
use Rattle.std.proofs.Common.{◌≡◌, ◌⊎◌, inl, inr, ⊎_elim, ℕ, zero, suc, ◌+◌, ◌<◌, ◌≤◌, ◌==◌, List, [], ◌∷◌, ◌++◌, None, Some, Result, Ok, Err, refl, sym, ap, ◌∙◌, subst, arith, append-nil, ne_eqb}
use Rattle.std.specs.Prelude.{count_by, find, if◌then◌else◌}
use Rattle.fine_model.specs.declared.law.RoomState.{RoomState}
use Rattle.fine_model.specs.Causes.{used_in}
use Rattle.fine_model.specs.History.{Commit}
use Rattle.fine_model.specs.Merge.{cost}
use Rattle.fine_model.specs.RowBytes.{greatest}
use Rattle.fine_model.proofs.Histories.Epochs.{none_wait}
use Rattle.epoch_room.specs.Steps.{shut_state}
use Rattle.epoch_room.specs.declared.answers.RoomFault.{RoomFault}
use Rattle.epoch_room.specs.declared.answers.RoomFault.TheVariants as room_fault
use Rattle.fine_hall.specs.declared.law.Beginning.{Beginning}
use Rattle.fine_hall.specs.Laws.{CountsEpochs}
use Rattle.fine_hall.specs.Passes.{last_room, seen, turns}
use Rattle.fine_hall.proofs.Counting.{counts_sealed, counts_stay}
use Rattle.hall_rooms.specs.Rooms.{RoomPass}
use Rattle.hall_rooms.specs.Turning.{LosesTarget, SealedAndPosted, SealsAndPosts, SealsTurn, StillWaits, StopsPosting}
use Rattle.hall_rooms.proofs.Left.{last_is}
use Rattle.run_laws.specs.Needs.{AreSealedInNeed, HadNeed, Unsealed}
use Rattle.lane_laws.specs.Lanes.{InNeed}
use Rattle.lane_laws.specs.Quiet.{QuietBut}
use Rattle.txn_tries.proofs.Adding.{turn_seen, turn_still}
use Rattle.txn_tries.proofs.Entries.{first_of, had_more, none_found, used_more, used_none}

-- all that waited is sealed
pub record SealsAll (old new : RoomState) : Type 0 where
  pub waiting : new.waiting ≡ 0
  pub used : new.used ≡ 0
  pub sealed : new.sealed ≡ (if old.waiting == 0 then old.sealed else old.sealed + 1)

-- ---- what a seal does, whatever it comes to

abbrev pub SealsOr : RoomState → RoomState → Type 0
SealsOr old new = Unsealed old new ⊎ SealsAll old new

all_of : (seats : ℕ) (found room : RoomState) → SealedAndPosted found room seats → SealsAll found room
all_of seats found room s = record { waiting = s.none_waits; used = s.none_open.1; sealed = s.sealed }

stops : (seats : ℕ) (found room : RoomState) → StopsPosting found room seats → SealsAll found room
stops seats found room s = all_of s.0 found room s.2

seals_or : (x : Beginning) (found room : RoomState) (p p' : RoomPass) (r : Result ℕ RoomFault) → SealsTurn x found room p p' r → SealsOr found room
seals_or x found room p p' (Ok epoch) s = inr (all_of x.seats found room s.3)
seals_or x found room p p' (Err room_fault.Disk) s = ⊎_elim
    (λ (l : LosesTarget found room). inl (record { sealed = ap (λ (r : RoomState). r.sealed) l.same; waiting = ap (λ (r : RoomState). r.waiting) l.same; used = ap (λ (r : RoomState). r.used) l.same }))
    (λ (l : StopsPosting found room x.seats). inr (stops x.seats found room l)) s.2
seals_or x found room p p' (Err (room_fault.Shut epoch)) s = inl (record { sealed = ap (λ (r : RoomState). r.sealed) s.2; waiting = ap (λ (r : RoomState). r.waiting) s.2; used = ap (λ (r : RoomState). r.used) s.2 })
seals_or x found room p p' (Err room_fault.NoMemory) s = ⊎_elim
    (λ (l : StillWaits found room). inl (record { sealed = ap (λ (r : RoomState). r.sealed) l.same; waiting = ap (λ (r : RoomState). r.waiting) l.same; used = ap (λ (r : RoomState). r.used) l.same }))
    (λ (l : StopsPosting found room x.seats). inr (stops x.seats found room l)) s.1

-- from the room that was found to the one before, which is the same but for what others do
before_found : (old found new : RoomState) → Unsealed old found → SealsOr found new → SealsOr old new
before_found old found new u (inl v) = inl (record { sealed = v.sealed ∙ u.sealed; waiting = v.waiting ∙ u.waiting; used = v.used ∙ u.used })
before_found old found new u (inr s) = inr (record { waiting = s.waiting; used = s.used; sealed = s.sealed ∙ (λ i. if u.waiting i == 0 then u.sealed i else u.sealed i + 1) })

module _ (x : Beginning) (p p' : RoomPass) (r : Result ℕ RoomFault) (s : SealsAndPosts x p p' r) (quiet : QuietBut p.number x.room (turns p')) where
  pub seal_seen : seen p' ≡ seen p
  seal_seen = turn_seen x s.found s.room None 0 p p' s.turn.one ∙ (append-nil _ ∙ (turn_still x s.found s.room None 0 p p' s.turn.one quiet).1)

  pub seal_does : SealsOr (last_room x p) (last_room x p')
  seal_does = subst (SealsOr (last_room x p)) (sym (last_is x s.found None 0 s.room p p' s.turn.one)) (before_found (last_room x p) s.found s.room (turn_still x s.found s.room None 0 p p' s.turn.one quiet).0 (seals_or x s.found s.room p p' r s.did))

-- ---- what follows

module _ (group : ℕ) (x : Beginning) (p p' : RoomPass) where
  -- the open epoch and what was seen are as they were
  pub need_still : Unsealed (last_room x p) (last_room x p') → seen p' ≡ seen p → (P Q : Type 0) → (P → Q) → InNeed group x p P → InNeed group x p' Q
  need_still u same P Q on n = record {
    each = subst (AreSealedInNeed x.room.region_len group x.room.sealed) (sym same) n.each;
    used = u.used ∙ (n.used ∙ sym (λ i. used_in (u.sealed i + 1) (same i)));
    counts = subst (CountsEpochs x (last_room x p')) (sym same) (counts_stay x (last_room x p) (last_room x p') (seen p) n.counts u.sealed u.waiting);
    ends = λ none above. ⊎_elim
        (λ enough. inl (subst (λ (h : List Commit). group ≤ count_by (λ c. c.epoch == (last_room x p').sealed) h) (sym same) (subst (λ (e : ℕ). group ≤ count_by (λ c. c.epoch == e) (seen p)) (sym u.sealed) enough)))
        (⊎_elim (λ owes. inr (inl (on owes))) (λ last. inr (inr (subst (λ (e : ℕ). greatest ≤ e) (sym u.sealed) last))))
        (n.ends (sym u.waiting ∙ none) (subst (λ (e : ℕ). x.room.sealed < e) u.sealed above));
  }

  module _ (same : seen p' ≡ seen p) (P Q : Type 0) (on : Unsealed (last_room x p) (last_room x p') → P → Q) (n : InNeed group x p P) where
    -- where something waited, the epoch that is sealed now has a group, or Q
    abbrev Ends : Type 0
    Ends = SealsAll (last_room x p) (last_room x p') → 0 < (last_room x p).waiting → (group ≤ count_by (λ c. c.epoch == (last_room x p).sealed + 1) (seen p)) ⊎ Q

    sealed_more : SealsAll (last_room x p) (last_room x p') → 0 < (last_room x p).waiting → (group ≤ count_by (λ c. c.epoch == (last_room x p).sealed + 1) (seen p)) ⊎ Q → InNeed group x p' Q
    sealed_more s some ends = record {
      each = subst (AreSealedInNeed x.room.region_len group x.room.sealed) (sym same) n.each;
      used = s.used ∙ sym (ap (used_in ((last_room x p').sealed + 1)) same ∙ used_none ((last_room x p').sealed + 1) (seen p) (sym counts.waiting ∙ s.waiting));
      counts = subst (CountsEpochs x (last_room x p')) (sym same) counts;
      ends = λ none above. ⊎_elim
          (λ enough. inl (subst (λ (h : List Commit). group ≤ count_by (λ c. c.epoch == (last_room x p').sealed) h) (sym same) (subst (λ (e : ℕ). group ≤ count_by (λ c. c.epoch == e) (seen p)) (sym next) enough)))
          (λ q. inr (inl q)) ends;
    }
      where
        next : (last_room x p').sealed ≡ (last_room x p).sealed + 1
        next = s.sealed ∙ ap (λ b. if b then (last_room x p).sealed else (last_room x p).sealed + 1) (ne_eqb (last_room x p).waiting 0 (λ none. omega (arith, some, none)))

        counts : CountsEpochs x (last_room x p') (seen p)
        counts = counts_sealed x (last_room x p) (last_room x p') (seen p) n.counts some next s.waiting

    pub need_seals : SealsOr (last_room x p) (last_room x p') → Ends → InNeed group x p' Q
    need_seals (inl u) ends = need_still u same P Q (on u) n
    need_seals (inr s) ends = by (last_room x p).waiting refl
      where
        by : (k : ℕ) → (last_room x p).waiting ≡ k → InNeed group x p' Q
        by zero none = need_still (still none) same P Q (on (still none)) n
          where
            still : (last_room x p).waiting ≡ 0 → Unsealed (last_room x p) (last_room x p')
            still none = record {
              sealed = s.sealed ∙ ap (λ k. if k == 0 then (last_room x p).sealed else (last_room x p).sealed + 1) none;
              waiting = s.waiting ∙ sym none;
              used = s.used ∙ sym (n.used ∙ used_none ((last_room x p).sealed + 1) (seen p) (sym n.counts.waiting ∙ none));
            }
        by (suc k) is = let some : 0 < (last_room x p).waiting = omega (arith, is) in sealed_more s some (ends s some)

  -- a commit of the open epoch, as the room counts it
  module _ (c : Commit) (P : Type 0) (n : InNeed group x p P) (more : seen p' ≡ seen p ++ c ∷ []) where
    pub need_commits : (last_room x p').sealed ≡ (last_room x p).sealed → (last_room x p').used ≡ (last_room x p).used + cost c.entry.rows → 0 < (last_room x p').waiting → c.epoch ≡ (last_room x p).sealed + 1 → CountsEpochs x (last_room x p') (seen p')
        → ((last_room x p).waiting ≡ 0 → x.room.sealed < (last_room x p).sealed → HadNeed x.room.region_len group (seen p) (last_room x p).sealed c) → (Q : Type 0) → InNeed group x p' Q
    need_commits sealed used some at counts behind Q = record {
      each = subst (AreSealedInNeed x.room.region_len group x.room.sealed) (sym more) each;
      used = used ∙ (ap (λ k. k + cost c.entry.rows) n.used ∙ (sym (used_more ((last_room x p).sealed + 1) (seen p) c at) ∙ sym (λ i. used_in (sealed i + 1) (more i))));
      counts = counts;
      ends = λ none above. absurd (omega (arith, none, some));
    }
      where
        each : AreSealedInNeed x.room.region_len group x.room.sealed (seen p ++ c ∷ [])
        each e next above found = by (first_of (e + 1) (seen p) c next found)
          where
            by : (find (λ (d : Commit). d.epoch == e + 1) (seen p) ≡ Some next) ⊎ ((find (λ (d : Commit). d.epoch == e + 1) (seen p) ≡ None) × (c.epoch ≡ e + 1) × (c ≡ next)) → HadNeed x.room.region_len group (seen p ++ c ∷ []) e next
            by (inl before) = had_more x.room.region_len group e (seen p) next c (n.each e next above before)
            by (inr (none, of_next, last)) =
                let here : e ≡ (last_room x p).sealed = (let a = of_next in let b = at in omega (arith, a, b)) in
                let waits : (last_room x p).waiting ≡ 0 = n.counts.waiting ∙ (ap (λ k. count_by (λ (d : Commit). d.epoch == k + 1) (seen p)) (sym here) ∙ none_found (e + 1) (seen p) none) in
                had_more x.room.region_len group e (seen p) next c
                (subst (λ (d : Commit). HadNeed x.room.region_len group (seen p) e d) last
                (subst (λ k. HadNeed x.room.region_len group (seen p) k c) (sym here) (behind waits (subst (λ k. x.room.sealed < k) here above))))
