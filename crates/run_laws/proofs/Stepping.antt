-- One transaction more, and the end.
use Rattle.std.proofs.Common.{◌≡◌, ◌⊎◌, inl, inr, ⊎_elim, ℕ, zero, suc, ◌+◌, ◌-◌, ◌<◌, Bool, true, false, List, [], ◌∷◌, ◌++◌, length, refl, sym, ap, ◌∙◌, subst, Option, Some, None, append-nil, arith}
use Rattle.std.specs.Prelude.{replicate, slice_get, slice_set, take}
use Rattle.std.specs.List.{AllByRecursion, cons_option}
use Rattle.std.proofs.lemmas.Option.{slice_get_within}
use Rattle.fine_model.specs.declared.Options.{Options}
use Rattle.fine_model.specs.declared.Outcome.{Outcome}
use Rattle.fine_model.specs.declared.Outcome.TheVariants as outcome
use Rattle.fine_model.specs.declared.Row.{Row}
use Rattle.fine_model.specs.declared.Call.{Call}
use Rattle.fine_model.specs.declared.RunFault.{RunFault}
use Rattle.fine_model.specs.declared.ScriptTxn.{ScriptTxn}
use Rattle.fine_model.specs.declared.Why.TheVariants as why
use Rattle.fine_model.specs.declared.law.Origin.{Origin}
use Rattle.fine_model.specs.Buckets.{Began}
use Rattle.fine_model.specs.Causes.{IsFullInNeed, IsRefusedInNeed}
use Rattle.fine_model.specs.History.{Commit, all_rows}
use Rattle.fine_model.specs.Outcomes.{IsCommittedAt}
use Rattle.epoch_room.specs.Meaning.{Stands, origin_of}
use Rattle.epoch_room.specs.Value.{RoomValue}
use Rattle.run_laws.specs.Needs.{RunsInNeed}
use Rattle.run_laws.specs.SoFar.{AreFewSoFar, Finished, FullEnds, GoesOn, IsEnd, IsStep, KeepsFlag, Serial, SoFar}
use Rattle.run_laws.specs.Turns.{commit_of, commits_of}
use Rattle.run_laws.proofs.Caused.{stays_refused}
use Rattle.run_laws.proofs.Steps.{at_end, kept, old_at, refused_next, sets_law}

commits_push : (done : List Outcome) (next : Outcome) → commits_of (done ++ next ∷ []) ≡ commits_of done ++ commits_of (next ∷ [])
commits_push [] next = refl
commits_push (outcome.Committed at epoch entry ∷ done) next = ap (λ cs. record { entry = entry; epoch = epoch } ∷ cs) (commits_push done next)
commits_push (outcome.Aborted ∷ done) next = commits_push done next
commits_push (outcome.Refused word ∷ done) next = commits_push done next
commits_push (outcome.NotRun ∷ done) next = commits_push done next

-- each transaction is of the one lane
of_lane : (lane : ℕ) (script : List ScriptTxn) (i : ℕ) (txn : ScriptTxn) → AllByRecursion (λ t. t.lane ≡ lane) script → slice_get script i ≡ Some txn → txn.lane ≡ lane
of_lane lane [] i txn all at = absurd (let e : ◌≡◌ {A = Option ScriptTxn} None (Some txn) = at in cc)
of_lane lane (t ∷ script) zero txn all at = let same : t ≡ txn = cc in subst (λ (x : ScriptTxn). x.lane ≡ lane) same all.0
of_lane lane (t ∷ script) (suc i) txn all at = of_lane lane script i txn all.1 at

-- the flag is set by a refusal as full, and nothing is committed after that one
full_ends_next : (done : List Outcome) (next : Outcome) (old new : Bool) → FullEnds done old → KeepsFlag old new next → FullEnds (done ++ next ∷ []) new
full_ends_next done next old new f k = record {
  known = λ i is. known (old_at done next i (outcome.Refused why.Full) is);
  some = λ set. some (k.only set);
  none_behind = λ i j place c before is is_c. none i j place c before (old_at done next i (outcome.Refused why.Full) is) (old_at done next j (outcome.Committed place c.epoch c.entry) is_c);
}
  where
    known : {i : ℕ} → (slice_get done i ≡ Some (outcome.Refused why.Full)) ⊎ ((i ≡ length done) × (next ≡ outcome.Refused why.Full)) → new ≡ true
    known {i} (inl was) = k.stays (f.known i was)
    known (inr (here, full)) = k.sets full

    some : (old ≡ true) ⊎ (next ≡ outcome.Refused why.Full) → (i : ℕ) × (slice_get (done ++ next ∷ []) i ≡ Some (outcome.Refused why.Full))
    some (inl was) = let w = f.some was in (w.0, kept done next w.0 (outcome.Refused why.Full) w.1)
    some (inr full) = (length done, at_end done next ∙ ap Some full)

    none : (i j place : ℕ) (c : Commit) → i < j → (slice_get done i ≡ Some (outcome.Refused why.Full)) ⊎ ((i ≡ length done) × (next ≡ outcome.Refused why.Full))
        → IsCommittedAt done j place c ⊎ ((j ≡ length done) × (next ≡ outcome.Committed place c.epoch c.entry)) → ⊥
    none i j place c before (inl was) (inl is) = f.none_behind i j place c before was is
    none i j place c before (inl was) (inr (here, is)) = let e : ◌≡◌ {A = Option Commit} None (Some c) = sym (k.none (f.known i was)) ∙ ap commit_of is in cc
    none i j place c before (inr (here, full)) (inl is) = let w = slice_get_within done j (outcome.Committed place c.epoch c.entry) is in omega (arith, before, here, w)
    none i j place c before (inr (here, full)) (inr (there, is)) = omega (arith, before, here, there)

module _ {B : Type 0} (stands_for : Origin → ℕ → B → List Commit → Type 0) (script : List ScriptTxn) (options : Options) (entry : RoomValue) where
  abbrev HasNeed : List Row → List Commit → List Call → Type 0
  HasNeed first history calls = IsRefusedInNeed entry.room.region_len options.group entry.room.sealed first history calls

  -- the step of the next transaction keeps what holds of the body
  pub steps : (i : ℕ) (txn : ScriptTxn) (next : Outcome) (old new : Serial B) (s : SoFar stands_for script options i entry old) → slice_get script i ≡ Some txn → IsStep stands_for script options i entry s.done txn next old new
      → SoFar stands_for script options (i + 1) entry new
  steps i txn next old new s at step = record {
    done = s.done ++ next ∷ [];
    outcomes_are = step.outcomes ∙ ap (λ os. slice_set os i next) s.outcomes_are ∙ set;
    so_far = step.so_far;
    goes_on = subst (GoesOn entry new.room) (sym push) step.goes_on;
    few = subst (AreFewSoFar options.group new.room.room.sealed new.ended) (sym push) step.few;
    in_need = λ lane all. subst (RunsInNeed options.group lane entry new.room new.full new.ended) (sym push) (in_need_next lane (of_lane lane script i txn all at) (s.in_need lane all));
    last_need = last_need_next;
    full_ends = full_ends_next s.done next old.full new.full s.full_ends step.flag;
    no_region = step.no_region;
    told = step.told;
    refused = λ first e began stands.
        refused_next script s.done txn next old.room.room new.room.room first (ap (slice_get script) s.so_far.count ∙ at) step.becomes step.most (λ word is. step.refused word is first e began stands) (s.refused first e began stands);
    stuck = λ full first e began stands. ⊎_elim (λ was. (step.becomes.stuck (s.stuck was first e began stands)).stuck) (λ now. now first e began stands) (step.stuck full);
    view = step.view;
    buckets = subst (stands_for (origin_of entry.entry) new.room.room.sealed new.buckets) (sym push) step.buckets;
  }
    where
      push : commits_of (s.done ++ next ∷ []) ≡ commits_of s.done ++ commits_of (next ∷ [])
      push = commits_push s.done next

      none_more : commit_of next ≡ None → commits_of (s.done ++ next ∷ []) ≡ commits_of s.done
      none_more none = push ∙ ap (λ cs. commits_of s.done ++ cs) (ap (λ m. cons_option m []) none) ∙ append-nil (commits_of s.done)

      in_need_next : (lane : ℕ) → txn.lane ≡ lane → RunsInNeed options.group lane entry old.room old.full old.ended (commits_of s.done)
          → RunsInNeed options.group lane entry new.room new.full new.ended (commits_of s.done ++ commits_of (next ∷ []))
      in_need_next lane same r = subst (λ n. RunsInNeed options.group n entry new.room new.full new.ended (commits_of s.done ++ commits_of (next ∷ []))) same
          (step.in_need (subst (λ n. RunsInNeed options.group n entry old.room old.full old.ended (commits_of s.done)) (sym same) r))

      -- where none was refused as full before, the next one may be the first
      last_need_next : (lane : ℕ) → AllByRecursion (λ t. t.lane ≡ lane) script → (first : List Row) (e : ℕ) → Began (origin_of entry.entry) e first → Stands entry first e []
          → IsFullInNeed entry.room.region_len options.group entry.room.sealed first script (s.done ++ next ∷ []) (commits_of (s.done ++ next ∷ []))
      last_need_next lane all first e began stands k t is_first is_t = by (old_at s.done next k (outcome.Refused why.Full) is_first.0)
        where
          by : (slice_get s.done k ≡ Some (outcome.Refused why.Full)) ⊎ ((k ≡ length s.done) × (next ≡ outcome.Refused why.Full)) → HasNeed first (commits_of (s.done ++ next ∷ [])) t.calls
          by (inl was) =
              let same = none_more (step.flag.none (s.full_ends.known k was)) in
              subst (λ h. HasNeed first h t.calls) (sym same)
              (s.last_need lane all first e began stands k t (was, λ j before is. is_first.1 j before (kept s.done next j (outcome.Refused why.Full) is)) is_t)
          by (inr (here, full)) = by_flag old.full refl
            where
              same : commits_of (s.done ++ next ∷ []) ≡ commits_of s.done
              same = none_more (ap commit_of full)

              same_txn : t ≡ txn
              same_txn = let x : Some t ≡ Some txn = sym is_t ∙ ap (slice_get script) (here ∙ s.so_far.count) ∙ at in cc

              runs : RunsInNeed options.group txn.lane entry old.room old.full old.ended (commits_of s.done)
              runs = subst (λ n. RunsInNeed options.group n entry old.room old.full old.ended (commits_of s.done)) (sym (of_lane lane script i txn all at)) (s.in_need lane all)

              by_flag : (b : Bool) → old.full ≡ b → HasNeed first (commits_of (s.done ++ next ∷ [])) t.calls
              by_flag true set =
                  let w = s.full_ends.some set in
                  let low = slice_get_within s.done w.0 (outcome.Refused why.Full) w.1 in
                  absurd (is_first.1 w.0 (omega (arith, low, here)) (kept s.done next w.0 (outcome.Refused why.Full) w.1))
              by_flag false unset =
                  subst (λ (x : ScriptTxn). HasNeed first (commits_of (s.done ++ next ∷ [])) x.calls) (sym same_txn)
                  (subst (λ h. HasNeed first h txn.calls) (sym same) (step.full_need full unset runs first e began stands))

      set : slice_set (s.done ++ replicate (length script - i) outcome.NotRun) i next ≡ (s.done ++ next ∷ []) ++ replicate (length script - (i + 1)) outcome.NotRun
      set =
          subst (λ n. slice_set (s.done ++ replicate (length script - n) outcome.NotRun) n next ≡ (s.done ++ next ∷ []) ++ replicate (length script - (n + 1)) outcome.NotRun) s.so_far.count
          (sets_law (length script) s.done next (let w = slice_get_within script i txn at in let c = s.so_far.count in omega (arith, w, c)))

  -- and after the last one the body has finished
  pub ends : (s : Serial B) (room : RoomValue) (told : List (Option RunFault)) (so_far : SoFar stands_for script options (length script) entry s) → IsEnd entry s.room room so_far.done s.ended told
      → Finished script options entry room so_far.done s.ended told
  ends s room told so_far end = record {
    so_far = so_far.so_far;
    goes_on = end.goes_on;
    few = so_far.few.most;
    in_need = λ one. (so_far.in_need one.0 one.1).so_far.each;
    last_need = λ one. so_far.last_need one.0 one.1;
    none_behind = so_far.full_ends.none_behind;
    tells = end.tells;
    refused = λ first e began stands.
        record {
          each = λ i txn word is_txn is.
              stays_refused s.room.room room.room (first ++ all_rows (commits_of (take i so_far.done))) txn.calls word end.becomes end.most ((so_far.refused first e began stands).each i txn word is_txn is);
        };
    board = end.board;
    sealed = end.sealed;
  }
