-- The theorem of a generated run, from how the call ended.
use Rattle.std.proofs.Common.{◌≡◌, ◌⊎◌, inl, inr, ℕ, ◌<◌, Bool, true, false, cond, List, [], ◌∷◌, ◌++◌, length, refl, sym, ap, ◌∙◌, subst, Option, Some, None, Result, Ok, Err, arith}
use Rattle.std.specs.Prelude.{IfSome, slice_get}
use Rattle.std.specs.List.{list_any}
use Rattle.log_disk.specs.Disk.{BothTold, Disk, HasRisen, IsImageNow, IsImageSince, IsSound as IsSoundDisk, IsToldOf, Told, clock_of}
use Rattle.log_disk.specs.Moments.{Continues, ContinuesOn}
use Rattle.log_disk.proofs.Times.{continues_told}
use Rattle.epoch_room.specs.Whole.{IsIdle}
use Rattle.fine_model.specs.declared.Outcome.{Outcome}
use Rattle.fine_model.specs.declared.Outcome.TheVariants as outcome
use Rattle.fine_model.specs.declared.Ran.{Ran}
use Rattle.fine_model.specs.declared.Row.{Row}
use Rattle.fine_model.specs.declared.RunFault.{RunFault}
use Rattle.fine_model.specs.declared.RunFault.TheVariants as run_fault
use Rattle.fine_model.specs.declared.Why.TheVariants as why
use Rattle.fine_model.specs.Chain.{Shows}
use Rattle.fine_model.specs.Commands.{GenStatus, GenTheorem, are_durable, fault_summary, summary, PrintsFault}
use Rattle.fine_model.specs.Headline.{FailsSound, HasStatus, IsDoneRun, IsFrontOf, IsRunWith, KeepsEvery, KeepsUpTo, OneOf, Return, Start, TellsFaults, causes_of}
use Rattle.fine_model.specs.History.{Commit, map_at}
use Rattle.fine_model.specs.Map.{Pair}
use Rattle.fine_model.specs.Outcomes.{AreOutcomes, is_refused}
use Rattle.fine_model.specs.Report.{all_outcomes, fault_line}
use Rattle.fine_model.specs.Trees.{IsSound}
use Rattle.log_commands.specs.Ends.{fault_status}
use Rattle.log_commands.specs.Found.{FindsChain}
use Rattle.log_commands.proofs.Printed.{risen_by, wrote_all, wrote_front}
use Rattle.run_laws.specs.Law.{return_of, start_of}
use Rattle.run_laws.proofs.Nothing.{are_none, none_told, not_refused}
use Rattle.script_text.specs.Streams.{Puts}
use Rattle.fine_top.specs.Generating.{Ended, counted, counted_status, counted_text, early, Ends, GensWell, IsCounted, IsEnd, Numbers, script_by, status_of, text_of, TellsEnd}
use Rattle.fine_top.specs.Opened.{IsOpenedLog, IsUnsoundLog}
use Rattle.fine_top.specs.Running.{LeavesBeside}
use Rattle.fine_top.proofs.Chainless.{shows_none}
use Rattle.fine_top.proofs.Durable.{no_lane_cut}
use Rattle.fine_top.proofs.Listing.{finds_beside, finds_unsound}
use Rattle.fine_top.proofs.Theorem.{keeps_entry, shows_entry, status_all}

-- a status is one of a fault, or of a run that was done
done_status : (outcomes : List Outcome) (status : ℕ) → HasStatus status outcomes None → (status ≡ 0) ⊎ (status ≡ 8)
done_status outcomes status has = by (list_any is_refused outcomes) has
  where
    by : (b : Bool) → status ≡ cond {A = ℕ} b 8 0 → (status ≡ 0) ⊎ (status ≡ 8)
    by true h = inr h
    by false h = inl h

module _ (n : Numbers) (output : ℕ × ℕ) (old new : Disk) (status : ℕ) (was now : Option (List ℕ)) (rose : status ≡ 5 → HasRisen output.0 output.1) where
  -- ---- what the status tells

  module _ (ended : Ended) (is_end : IsEnd n old new ended) (status_is : (status ≡ 5) ⊎ (status ≡ status_of ended)) (no_eyes : old.eyes ≡ []) where
    known_of : (e : Ended) → status ≡ status_of e → OneOf (0 ∷ 1 ∷ 5 ∷ 6 ∷ 7 ∷ 8 ∷ []) status
    known_of (early run_fault.Memory) is = inr (inl is)
    known_of (early run_fault.Disk) is = inr (inr (inr (inl is)))
    known_of (early (run_fault.Damaged what)) is = inr (inr (inr (inr (inl is))))
    known_of (counted ran all_durable (Ok pairs)) is = elim (done_status ran.outcomes status is) as (λ _. OneOf (0 ∷ 1 ∷ 5 ∷ 6 ∷ 7 ∷ 8 ∷ []) status) [ inl zero ↦ inl zero | inr eight ↦ inr (inr (inr (inr (inr (inl eight))))) ]
    known_of (counted ran all_durable (Err run_fault.Memory)) is = inr (inl is)
    known_of (counted ran all_durable (Err run_fault.Disk)) is = inr (inr (inr (inl is)))
    known_of (counted ran all_durable (Err (run_fault.Damaged what))) is = inr (inr (inr (inr (inl is))))

    pub known : OneOf (0 ∷ 1 ∷ 5 ∷ 6 ∷ 7 ∷ 8 ∷ []) status
    known = elim status_is as (λ _. OneOf (0 ∷ 1 ∷ 5 ∷ 6 ∷ 7 ∷ 8 ∷ []) status) [ inl five ↦ inr (inr (inl five)) | inr is ↦ known_of ended is ]

    failed_of : (e : Ended) → IsEnd n old new e → status ≡ status_of e → status ≡ 6 → HasRisen old.faults new.faults
    failed_of (early run_fault.Memory) end is six = absurd (omega (arith, is, six))
    failed_of (early run_fault.Disk) end is six = end.counts.faults tt
    failed_of (early (run_fault.Damaged what)) end is six = absurd (omega (arith, is, six))
    failed_of (counted ran all_durable (Ok pairs)) end is six = elim (done_status ran.outcomes status is) as (λ _. HasRisen old.faults new.faults) [ inl zero ↦ absurd (omega (arith, zero, six)) | inr eight ↦ absurd (omega (arith, eight, six)) ]
    failed_of (counted ran all_durable (Err run_fault.Memory)) end is six = absurd (omega (arith, is, six))
    failed_of (counted ran all_durable (Err run_fault.Disk)) end is six = end.only_risen refl
    failed_of (counted ran all_durable (Err (run_fault.Damaged what))) end is six = absurd (omega (arith, is, six))

    pub disk_failed : status ≡ 6 → HasRisen old.faults new.faults
    disk_failed six = elim status_is as (λ _. HasRisen old.faults new.faults) [ inl five ↦ absurd (omega (arith, five, six)) | inr is ↦ failed_of ended is_end is six ]

    same_count : new ≡ old → old.faults < new.faults → ⊥
    same_count same more = let e = ap (λ (d : Disk). d.faults) same in omega (arith, e, more)

    told_of : (e : Ended) → IsEnd n old new e → status ≡ status_of e → old.faults < new.faults → (status ≡ 1) ⊎ (status ≡ 6)
    told_of (early run_fault.Memory) end is more = inl is
    told_of (early run_fault.Disk) end is more = inr is
    told_of (early (run_fault.Damaged what)) end is more = absurd (same_count end.0 more)
    told_of (counted ran all_durable found) end is more = elim (end.where_risen more) as (λ _. (status ≡ 1) ⊎ (status ≡ 6)) [ inl disk ↦ inr (is ∙ ap (counted_status ran.outcomes) disk) | inr memory ↦ inl (is ∙ ap (counted_status ran.outcomes) memory) ]

    pub disk_told : old.faults < new.faults → OneOf (1 ∷ 5 ∷ 6 ∷ []) status
    disk_told more = by status_is
      where
        by : (status ≡ 5) ⊎ (status ≡ status_of ended) → OneOf (1 ∷ 5 ∷ 6 ∷ []) status
        by (inl five) = inr (inl five)
        by (inr is) = elim (told_of ended is_end is more) as (λ _. OneOf (1 ∷ 5 ∷ 6 ∷ []) status) [ inl one ↦ inl one | inr six ↦ inr (inr (inl six)) ]

    unsound_of : (e : Ended) → IsEnd n old new e → status ≡ status_of e → status ≡ 7 → IsUnsoundLog old
    unsound_of (early run_fault.Memory) end is seven = absurd (omega (arith, is, seven))
    unsound_of (early run_fault.Disk) end is seven = absurd (omega (arith, is, seven))
    unsound_of (early (run_fault.Damaged what)) end is seven = finds_unsound old new (Err (run_fault.Damaged what)) end refl
    unsound_of (counted ran all_durable (Ok pairs)) end is seven = elim (done_status ran.outcomes status is) as (λ _. IsUnsoundLog old) [ inl zero ↦ absurd (omega (arith, zero, seven)) | inr eight ↦ absurd (omega (arith, eight, seven)) ]
    unsound_of (counted ran all_durable (Err run_fault.Memory)) end is seven = absurd (omega (arith, is, seven))
    unsound_of (counted ran all_durable (Err run_fault.Disk)) end is seven = absurd (omega (arith, is, seven))
    unsound_of (counted ran all_durable (Err (run_fault.Damaged what))) end is seven = end.unsound what refl

    pub damaged : status ≡ 7 → IsUnsoundLog old
    damaged seven = elim status_is as (λ _. IsUnsoundLog old) [ inl five ↦ absurd (omega (arith, five, seven)) | inr is ↦ unsound_of ended is_end is seven ]

    opened_of : (e : Ended) → IsEnd n old new e → status ≡ status_of e → OneOf (0 ∷ 8 ∷ []) status → IsOpenedLog old
    opened_of (early run_fault.Memory) end is ok = absurd (grind (arith, is, ok))
    opened_of (early run_fault.Disk) end is ok = absurd (grind (arith, is, ok))
    opened_of (early (run_fault.Damaged what)) end is ok = absurd (grind (arith, is, ok))
    opened_of (counted ran all_durable found) end is ok = (end.chain.parts, record { image = end.sees.image; is_seen = end.sees.is_seen; is = end.sees.is_chain })

    pub opened : OneOf (0 ∷ 8 ∷ []) status → IsOpenedLog old
    opened ok = elim status_is as (λ _. IsOpenedLog old) [ inl five ↦ absurd (grind (arith, five, ok)) | inr is ↦ opened_of ended is_end is ok ]

    beside_of : (e : Ended) → IsEnd n old new e → LeavesBeside old new
    beside_of (early fault) end = finds_beside old new no_eyes (Err fault) end
    beside_of (counted ran all_durable found) end = end.beside

    pub beside : LeavesBeside old new
    beside = beside_of ended is_end

  pub finds_told : (fault : RunFault) → FindsChain old new (Err fault) → new.told ≡ old.told
  finds_told run_fault.Memory f = ap (λ (d : Disk). d.told) f
  finds_told run_fault.Disk f = f.told
  finds_told (run_fault.Damaged what) f = ap (λ (d : Disk). d.told) f.0

  pub time : (e : Ended) → IsEnd n old new e → ContinuesOn old new
  time (early fault) end = continues_told old new (finds_told fault end)
  time (counted ran all_durable found) end = end.time

  -- ---- the theorem

  module _ (source : ℕ × ℕ) (first : List ℕ) (before after : Told) (e : ℕ) (rows : List Row) (was_is : was ≡ Some first) (old_is : old.told ≡ Some before) (new_is : new.told ≡ Some after) (shows : Shows old.region_len before.bytes e rows)
      (sound : IsSound rows) (is_told : IsToldOf old before) (synced : old.unsynced ≡ []) (failed_six : status ≡ 6 → HasRisen old.faults new.faults) (told_more : old.faults < new.faults → OneOf (1 ∷ 5 ∷ 6 ∷ []) status) where
    abbrev start : Start
    start = start_of (script_by n) old e rows

    abbrev back : Return
    back = return_of old new source output before after

    abbrev Theorem : List ℕ → Type 0
    Theorem written = GenTheorem start n.start n.count n.lanes (IsImageSince (clock_of before) after) (IsImageNow after) back status written

    abbrev Result_ : Type 0
    Result_ = (written : List ℕ) × (now ≡ Some (first ++ written)) × Theorem written

    faults_by : (status ≡ 4 → ⊥) → TellsFaults back status
    faults_by no_four = record {
      source = λ four. absurd (no_four four);
      output = rose;
      disk = λ six. risen_by old.faults new.faults (failed_six six);
      told = λ more. elim (told_more (omega (arith, more))) as (λ _. (status ≡ 1) ⊎ (status ≡ 5) ⊎ (status ≡ 6)) [ inl one ↦ inl one | inr rest ↦ by rest ];
    }
      where
        by : OneOf (5 ∷ 6 ∷ []) status → (status ≡ 1) ⊎ (status ≡ 5) ⊎ (status ≡ 6)
        by (inl five) = inr (inl five)
        by (inr (inl six)) = inr (inr six)
        by (inr (inr none)) = absurd none

    abbrev IsRun : Ran → List Commit → Type 0
    IsRun ran history = IsRunWith (causes_of start back) start 64 (IsImageSince (clock_of before) after) (IsImageNow after) back (script_by n) ran history

    abbrev done_text : Ran → List Commit → List ℕ
    done_text ran history = summary n.start n.count n.lanes (all_outcomes (script_by n) ran.outcomes) (Some (map_at rows history)) (are_durable history ran.durable)

    abbrev fault_text : Ran → List Commit → RunFault → List ℕ
    fault_text ran history fault = fault_summary n.start n.count n.lanes (all_outcomes (script_by n) ran.outcomes) (are_durable history ran.durable) fault

    -- the output failed behind a first part of the text
    cut_off : (ran : Ran) (history : List Commit) (written : List ℕ) → IsRun ran history → status ≡ 5
        → IsFrontOf written (done_text ran history) ⊎ ((fault : RunFault) × FailsSound back fault × (IsFrontOf written (fault_text ran history fault) ⊎ IsFrontOf written (fault_line fault))) → Theorem written
    cut_off ran history written run five front = record {
      ran = ran;
      history = history;
      outcomes = all_outcomes (script_by n) ran.outcomes;
      are_all = refl;
      run = run;
      done = λ one. absurd (grind (arith, five, one));
      status_is = inl five;
      printed = λ one. absurd (grind (arith, five, one));
      memory = λ one. absurd (omega (arith, five, one));
      failed = λ six. absurd (omega (arith, five, six));
      cut_short = λ h. front;
      others = inr (inr (inl five));
      faults = faults_by (λ four. omega (arith, five, four));
    }

    -- memory ran out, or the disk failed
    faulted : (ran : Ran) (history : List Commit) (written : List ℕ) → IsRun ran history → (status ≡ 1) ⊎ (status ≡ 6)
        → ((status ≡ 0) ⊎ (status ≡ 6) ⊎ (status ≡ 8) → IsDoneRun start back status (script_by n) (all_outcomes (script_by n) ran.outcomes) ran.durable history) → (status ≡ 5) ⊎ GenStatus status (all_outcomes (script_by n) ran.outcomes) ran.fault
        → (status ≡ 1 → PrintsFault (fault_text ran history) back.still history written run_fault.Memory) → (status ≡ 6 → PrintsFault (fault_text ran history) (back.own_rose × back.still) history written run_fault.Disk) → Theorem written
    faulted ran history written run ends done status_is memory failed = record {
      ran = ran;
      history = history;
      outcomes = all_outcomes (script_by n) ran.outcomes;
      are_all = refl;
      run = run;
      done = done;
      status_is = status_is;
      printed = λ one. absurd (grind (arith, ends, one));
      memory = memory;
      failed = failed;
      cut_short = λ five. absurd (grind (arith, ends, five));
      others = elim ends as (λ _. OneOf (0 ∷ 1 ∷ 5 ∷ 6 ∷ 8 ∷ []) status) [ inl one ↦ inr (inl one) | inr six ↦ inr (inr (inr (inl six))) ];
      faults = faults_by (λ four. grind (arith, ends, four));
    }

    -- ---- a run that was counted

    module _ (ran : Ran) (all_durable : Bool) (found : Result (List Pair) RunFault) (c : IsCounted n old new ran all_durable found) where
      abbrev outcomes : List Outcome
      outcomes = all_outcomes (script_by n) ran.outcomes

      abbrev durable : Bool
      durable = are_durable c.history ran.durable

      run : IsRunWith (causes_of start back) start 64 (IsImageSince (clock_of before) after) (IsImageNow after) back (script_by n) ran c.history
      run = (c.told before after e rows old_is new_is shows sound).on.run source output

      done_by : HasStatus status outcomes ran.fault → (status ≡ 0) ⊎ (status ≡ 6) ⊎ (status ≡ 8) → IsDoneRun start back status (script_by n) outcomes ran.durable c.history
      done_by has one = (c.told before after e rows old_is new_is shows sound).on.done source output status has one

      -- the reading failed, behind a run that was done
      done_unread : ran.fault ≡ None → (status ≡ 0 → ⊥) → (status ≡ 8 → ⊥) → IsDoneRun start back status (script_by n) outcomes ran.durable c.history
      done_unread none no_zero no_eight = record {
        all_run = λ ok. run.all_run none;
        all_durable = λ not. run.all_durable none;
        one_each = λ six not. inl (let few = no_lane_cut (script_by n) outcomes (run.all_run none) in omega (arith, few));
      }

      abbrev Whole : List ℕ
      Whole = summary n.start n.count n.lanes outcomes (Some (map_at rows c.history)) durable

      abbrev Faulty : RunFault → List ℕ
      Faulty fault = fault_summary n.start n.count n.lanes outcomes durable fault

    abbrev text_for : Ran → Bool → Result (List Pair) RunFault → List ℕ
    text_for ran all_durable found = counted_text n (all_outcomes (script_by n) ran.outcomes) all_durable found

    counted_ok : (ran : Ran) (all_durable : Bool) (pairs : List Pair) (c : IsCounted n old new ran all_durable (Ok pairs)) → ran.fault ≡ None
        → Puts (counted_text n (all_outcomes (script_by n) ran.outcomes) all_durable (Ok pairs)) (status ≡ 5) was now → (status ≡ 5) ⊎ (status ≡ counted_status ran.outcomes (Ok pairs)) → Result_
    counted_ok ran all_durable pairs c none puts status_is = by status_is
      where
        map_is : pairs ≡ map_at rows c.history
        map_is = (c.told before after e rows old_is new_is shows sound).map pairs refl

        text_is : text_for ran all_durable (Ok pairs) ≡ Whole ran all_durable (Ok pairs) c
        text_is = ap (λ m. summary n.start n.count n.lanes (all_outcomes (script_by n) ran.outcomes) (Some m) all_durable) map_is ∙ ap (λ b. summary n.start n.count n.lanes (all_outcomes (script_by n) ran.outcomes) (Some (map_at rows c.history)) b) c.durable_is

        by : (status ≡ 5) ⊎ (status ≡ counted_status ran.outcomes (Ok pairs)) → Result_
        by (inl five) =
            let w = wrote_front (text_for ran all_durable (Ok pairs)) (status ≡ 5) was now first puts was_is in (
              w.0,
              w.1,
              cut_off ran c.history w.0 (run ran all_durable (Ok pairs) c) five (inl (subst (IsFrontOf w.0) text_is w.2)),
            )
        by (inr is) =
            let has : HasStatus status (all_outcomes (script_by n) ran.outcomes) None = status_all (script_by n) ran.outcomes None status is in
            let ends = done_status ran.outcomes status is in (
              text_for ran all_durable (Ok pairs),
              wrote_all (text_for ran all_durable (Ok pairs)) (status ≡ 5) was now first puts (λ five. grind (arith, five, ends)) was_is,
              record {
                ran = ran;
                history = c.history;
                outcomes = all_outcomes (script_by n) ran.outcomes;
                are_all = refl;
                run = run ran all_durable (Ok pairs) c;
                done = λ one. done_by ran all_durable (Ok pairs) c (subst (HasStatus status (all_outcomes (script_by n) ran.outcomes)) (sym none) has) one;
                status_is = inr (subst (GenStatus status (all_outcomes (script_by n) ran.outcomes)) (sym none) (inr (inr has)));
                printed = λ one. text_is;
                memory = λ one. absurd (grind (arith, ends, one));
                failed = λ six. absurd (grind (arith, ends, six));
                cut_short = λ five. absurd (grind (arith, ends, five));
                others = elim ends as (λ _. OneOf (0 ∷ 1 ∷ 5 ∷ 6 ∷ 8 ∷ []) status) [ inl zero ↦ inl zero | inr eight ↦ inr (inr (inr (inr (inl eight)))) ];
                faults = faults_by (λ four. grind (arith, ends, four));
              },
            )

    -- a fault of the run, or of the reading behind it
    counted_err : (ran : Ran) (all_durable : Bool) (fault : RunFault) (c : IsCounted n old new ran all_durable (Err fault)) → (ran.fault ≡ None) ⊎ (ran.fault ≡ Some fault)
        → FailsSound back fault → (status ≡ fault_status fault → (status ≡ 1 → fault ≡ run_fault.Memory) × (status ≡ 6 → fault ≡ run_fault.Disk) × ((status ≡ 1) ⊎ (status ≡ 6)))
        → ((status ≡ fault_status fault) → HasStatus status (all_outcomes (script_by n) ran.outcomes) (Some fault))
        → ((status ≡ fault_status fault) → GenStatus status (all_outcomes (script_by n) ran.outcomes) None)
        → Puts (counted_text n (all_outcomes (script_by n) ran.outcomes) all_durable (Err fault)) (status ≡ 5) was now → (status ≡ 5) ⊎ (status ≡ fault_status fault) → Result_
    counted_err ran all_durable fault c why fails which has gen puts status_is = by status_is
      where
        text_is : text_for ran all_durable (Err fault) ≡ Faulty ran all_durable (Err fault) c fault
        text_is = ap (λ b. fault_summary n.start n.count n.lanes (all_outcomes (script_by n) ran.outcomes) b fault) c.durable_is

        by : (status ≡ 5) ⊎ (status ≡ fault_status fault) → Result_
        by (inl five) =
            let w = wrote_front (text_for ran all_durable (Err fault)) (status ≡ 5) was now first puts was_is in (
              w.0,
              w.1,
              cut_off ran c.history w.0 (run ran all_durable (Err fault) c) five (inr (fault, fails, inl (subst (IsFrontOf w.0) text_is w.2))),
            )
        by (inr is) =
            let w = which is in
            let ends = w.2 in (
              text_for ran all_durable (Err fault),
              wrote_all (text_for ran all_durable (Err fault)) (status ≡ 5) was now first puts (λ five. grind (arith, five, ends)) was_is,
              faulted ran c.history (text_for ran all_durable (Err fault)) (run ran all_durable (Err fault) c) ends
                  (λ one. elim why as (λ _. IsDoneRun start back status (script_by n) (all_outcomes (script_by n) ran.outcomes) ran.durable c.history) [
                    | inl none ↦ done_unread ran all_durable (Err fault) c none (λ zero. grind (arith, ends, zero)) (λ eight. grind (arith, ends, eight))
                    | inr some ↦ done_by ran all_durable (Err fault) c (subst (HasStatus status (all_outcomes (script_by n) ran.outcomes)) (sym some) (has is)) one
                  ])
                  (inr (elim why as (λ _. GenStatus status (all_outcomes (script_by n) ran.outcomes) ran.fault) [
                    | inl none ↦ subst (GenStatus status (all_outcomes (script_by n) ran.outcomes)) (sym none) (gen is)
                    | inr some ↦ subst (GenStatus status (all_outcomes (script_by n) ran.outcomes)) (sym some) (has is)
                  ]))
                  (λ one. inl (text_is ∙ ap (Faulty ran all_durable (Err fault) c) (w.0 one))) (λ six. inl (text_is ∙ ap (Faulty ran all_durable (Err fault) c) (w.1 six))),
            )

    counted_any : (ran : Ran) (all_durable : Bool) (found : Result (List Pair) RunFault) (c : IsCounted n old new ran all_durable found)
        → Puts (counted_text n (all_outcomes (script_by n) ran.outcomes) all_durable found) (status ≡ 5) was now → (status ≡ 5) ⊎ (status ≡ counted_status ran.outcomes found) → Result_
    counted_any ran all_durable (Ok pairs) c puts is = counted_ok ran all_durable pairs c (by ran.fault refl) puts is
      where
        by : (f : Option RunFault) → ran.fault ≡ f → ran.fault ≡ None
        by None at = at
        by (Some fault) at = absurd (let x : ◌≡◌ {A = Result (List Pair) RunFault} (Ok pairs) (Err fault) = c.fault_is fault at in cc)
    counted_any ran all_durable (Err fault) c puts is = by fault c puts is (why ran.fault refl)
      where
        why : (f : Option RunFault) → ran.fault ≡ f → (ran.fault ≡ None) ⊎ (ran.fault ≡ Some fault)
        why None at = inl at
        why (Some g) at = inr (at ∙ (let x : ◌≡◌ {A = Result (List Pair) RunFault} (Err fault) (Err g) = c.fault_is g at in let same : g ≡ fault = cc in ap (λ (y : RunFault). Some y) same))

        by : (f : RunFault) (d : IsCounted n old new ran all_durable (Err f)) → Puts (counted_text n (all_outcomes (script_by n) ran.outcomes) all_durable (Err f)) (status ≡ 5) was now → (status ≡ 5) ⊎ (status ≡ fault_status f)
            → (ran.fault ≡ None) ⊎ (ran.fault ≡ Some f) → Result_
        by run_fault.Memory d p s w = counted_err ran all_durable run_fault.Memory d w tt (λ one. (λ h. refl, λ six. absurd (omega (arith, one, six)), inl one)) (λ one. one) (λ one. inl one) p s
        by run_fault.Disk d p s w =
            counted_err ran all_durable run_fault.Disk d w (risen_by old.faults new.faults (d.only_risen refl)) (λ six. (λ one. absurd (omega (arith, one, six)), λ h. refl, inr six)) (λ six. six) (λ six. inr (inl six)) p s
        by (run_fault.Damaged what) d p s w = absurd (d.unsound what refl before old_is e rows shows sound)

    -- ---- an early end

    abbrev nothing : RunFault → Ran
    nothing fault = record { outcomes = []; durable = e; fault = Some fault; unsealed = false }

    early_any : (fault : RunFault) → FindsChain old new (Err fault) → FailsSound back fault → (status ≡ fault_status fault → (status ≡ 1 → fault ≡ run_fault.Memory) × (status ≡ 6 → (fault ≡ run_fault.Disk) × back.own_rose) × ((status ≡ 1) ⊎ (status ≡ 6)))
        → ((status ≡ fault_status fault) → HasStatus status (all_outcomes (script_by n) []) (Some fault)) → Puts (fault_line fault) (status ≡ 5) was now → (status ≡ 5) ⊎ (status ≡ fault_status fault) → Result_
    early_any fault finds fails which has puts status_is = by status_is
      where
        same_after : after ≡ before
        same_after = let x : ◌≡◌ {A = Option Told} (Some after) (Some before) = sym new_is ∙ finds_told fault finds ∙ old_is in cc

        run_none : IsRunWith (causes_of start back) start 64 (IsImageSince (clock_of before) after) (IsImageNow after) back (script_by n) (nothing fault) []
        run_none = record {
          run = record {
            one_history = subst (λ os. AreOutcomes (script_by n) e os []) (none_told (script_by n)) (are_none (script_by n) e);
            legal = record { each = λ k c at. absurd (let x : ◌≡◌ {A = Option Commit} None (Some c) = at in cc) };
            every_image = subst (λ t. KeepsEvery start (IsImageSince (clock_of before) t) []) (sym same_after) (keeps_entry old before e rows shows is_told synced);
            on_return = subst (λ t. KeepsUpTo start (IsImageNow t) [] e) (sym same_after) (shows_entry old before e rows shows is_told synced);
            from_entry = omega arith;
          };
          caused = record { each = λ i txn word is_txn is_refused. absurd (not_refused (length (script_by n)) i word (subst (λ os. slice_get os i ≡ Some (outcome.Refused word)) (sym (none_told (script_by n))) is_refused)) };
          few_each = λ one e. omega arith;
          last_need = λ one i txn is is_txn. absurd (not_refused (length (script_by n)) i why.Full (subst (λ os. slice_get os i ≡ Some (outcome.Refused why.Full)) (sym (none_told (script_by n))) is.0));
          failed = λ f is. let x : ◌≡◌ {A = Option RunFault} (Some fault) (Some f) = is in let same : fault ≡ f = cc in subst (FailsSound back) same fails;
          all_run = λ none. absurd (let x : ◌≡◌ {A = Option RunFault} (Some fault) None = none in cc);
          all_durable = λ none. refl;
        }

        still : back.still
        still = ap clock_of same_after

        by : (status ≡ 5) ⊎ (status ≡ fault_status fault) → Result_
        by (inl five) =
            let w = wrote_front (fault_line fault) (status ≡ 5) was now first puts was_is in (
              w.0,
              w.1,
              cut_off (nothing fault) [] w.0 run_none five (inr (fault, fails, inr w.2)),
            )
        by (inr is) =
            let w = which is in
            let ends = w.2 in (
              fault_line fault,
              wrote_all (fault_line fault) (status ≡ 5) was now first puts (λ five. grind (arith, five, ends)) was_is,
              faulted (nothing fault) [] (fault_line fault) run_none ends (λ one. record { all_run = λ ok. absurd (grind (arith, ends, ok)); all_durable = λ not. refl; one_each = λ six not. absurd (not (w.1 six).1) }) (inr (has is))
                  (λ one. inr (ap fault_line (w.0 one), still, refl)) (λ six. inr (ap fault_line (w.1 six).0, ((w.1 six).1, still), refl)),
            )

    early_end : (fault : RunFault) → FindsChain old new (Err fault) → Puts (fault_line fault) (status ≡ 5) was now → (status ≡ 5) ⊎ (status ≡ fault_status fault) → Result_
    early_end run_fault.Memory f p s = early_any run_fault.Memory f tt (λ one. (λ h. refl, λ six. absurd (omega (arith, one, six)), inl one)) (λ one. one) p s
    early_end run_fault.Disk f p s =
        early_any run_fault.Disk f (risen_by old.faults new.faults (f.counts.faults tt)) (λ six. (λ one. absurd (omega (arith, one, six)), λ h. (refl, f.counts.own_faults tt), inr six)) (λ six. six) p s
    early_end (run_fault.Damaged what) f p s = absurd (shows_none old what before e rows f.1 old_is shows)

    pub whole : (ended : Ended) → IsEnd n old new ended → Puts (text_of n ended) (status ≡ 5) was now → (status ≡ 5) ⊎ (status ≡ status_of ended) → Result_
    unfolding text_of
    whole (early fault) end p s = early_end fault end p s
    whole (counted ran all_durable found) end p s = counted_any ran all_durable found end p s

  -- a disk that told its bytes tells them still
  pub told_after : (before : Told) → old.told ≡ Some before → ContinuesOn old new → (after : Told) × (new.told ≡ Some after)
  told_after before is continues = by new.told refl
    where
      by : (t : Option Told) → new.told ≡ t → (after : Told) × (new.told ≡ Some after)
      by (Some after) at = (after, at)
      by None at = absurd (subst (λ t. BothTold Continues (Some before) t) at (subst (λ t. BothTold Continues t new.told) is continues))

  pub tells_end : IsIdle old → Ends n old new status was now → TellsEnd old new status
  tells_end idle ends = record {
    damaged = damaged ends.ended ends.is_end ends.status_is idle.no_eyes;
    opened = opened ends.ended ends.is_end ends.status_is idle.no_eyes;
    disk_failed = disk_failed ends.ended ends.is_end ends.status_is idle.no_eyes;
    disk_told = disk_told ends.ended ends.is_end ends.status_is idle.no_eyes;
    known = known ends.ended ends.is_end ends.status_is idle.no_eyes;
    beside = beside ends.ended ends.is_end ends.status_is idle.no_eyes;
    told = time ends.ended ends.is_end;
  }

  pub gens_well : IsIdle old → IsSoundDisk old → Ends n old new status was now → GensWell n output old new status was now
  gens_well idle sound_disk ends = record {
    holds = λ source first before e rows was_is old_is shows sound.
        let after = told_after before old_is (time ends.ended ends.is_end) in
        let h = whole source first before after.0 e rows was_is old_is after.1 shows sound (is_told before old_is) idle.synced (disk_failed ends.ended ends.is_end ends.status_is idle.no_eyes) (disk_told ends.ended ends.is_end ends.status_is idle.no_eyes)
        ends.ended ends.is_end ends.printed ends.status_is in
        (after.0, after.1, h.0, h.1, h.2);
  }
    where
      is_told : (b : Told) → old.told ≡ Some b → IsToldOf old b
      is_told b is = subst (λ o. IfSome o (IsToldOf old)) is sound_disk.told
