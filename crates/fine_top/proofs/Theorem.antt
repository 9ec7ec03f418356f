-- The theorem of a run, from how the call ended.
use Rattle.std.proofs.Common.{◌≡◌, ◌⊎◌, inl, inr, ℕ, zero, suc, ◌-◌, ◌<◌, List, [], ◌∷◌, ◌++◌, length, replicate, refl, sym, ap, ◌∙◌, subst, Option, Some, None, Ok, Err, arith, Bool, true, false, cond, ◌||◌, append-nil}
use Rattle.std.specs.Prelude.{IfSome, slice_get}
use Rattle.std.specs.List.{list_any}
use Rattle.log_disk.specs.Disk.{Disk, Told, HasRisen, IsToldOf, IsSound as IsSoundDisk, IsImageNow, IsImageSince, clock_of}
use Rattle.log_disk.proofs.Steps.{all_synced}
use Rattle.log_disk.proofs.Moments.{only_now}
use Rattle.log_disk.proofs.Times.{continues_told}
use Rattle.log_disk.specs.Disk.{BothTold}
use Rattle.log_disk.specs.Moments.{Continues, ContinuesOn}
use Rattle.fine_model.specs.declared.Options.{Options}
use Rattle.fine_model.specs.declared.Outcome.{Outcome}
use Rattle.fine_model.specs.declared.Outcome.TheVariants as outcome
use Rattle.fine_model.specs.declared.Row.{Row}
use Rattle.fine_model.specs.declared.ScriptTxn.{ScriptTxn}
use Rattle.fine_model.specs.declared.RunFault.{RunFault}
use Rattle.fine_model.specs.declared.RunFault.TheVariants as run_fault
use Rattle.fine_model.specs.declared.Damage.{Damage}
use Rattle.fine_model.specs.declared.Reason.{Reason}
use Rattle.fine_model.specs.declared.Reason.TheVariants as reason
use Rattle.fine_model.specs.declared.Ran.{Ran}
use Rattle.fine_model.specs.declared.Why.TheVariants as refusal
use Rattle.fine_model.specs.Outcomes.{AreOutcomes, is_refused}
use Rattle.fine_model.specs.Nodes.{Agrees}
use Rattle.fine_model.specs.History.{Commit, all_rows, upto}
use Rattle.fine_model.specs.Trees.{IsSound}
use Rattle.fine_model.specs.Regions.{Image}
use Rattle.fine_model.specs.Chain.{Shows}
use Rattle.fine_model.specs.Headline.{Start, Return, DiskRose, TellsFaults, FailsSound, OneOf, RunDone, RunTheorem, IsDoneRun, IsRunWith, IsComplete, ShowsSome, KeepsEvery, KeepsUpTo, HasStatus, RunCutShort, MayEnd, NothingRun, IsFrontOf, ReasonFor, causes_of}
use Rattle.fine_model.specs.Script.{script_of}
use Rattle.fine_model.specs.Report.{all_outcomes, reason_bytes, fault_line, report}
use Rattle.run_laws.specs.Law.{return_of, start_of}
use Rattle.run_laws.proofs.Nothing.{are_none, none_told, not_refused}
use Rattle.log_commands.specs.Found.{SeesLog}
use Rattle.log_commands.proofs.Printed.{risen_by, wrote_all, wrote_front}
use Rattle.fine_top.specs.Running.{Ended, early, ran, text_of, status_of, run_status, IsRunOn, IsRunOf, IsReason, EndsEarly, MayRun, IsEnd, IsEndOfRun, Ends, EndsRunOf, RunsWell, start_on, OfTold, IsRefused, TellsRun}
use Rattle.fine_top.specs.Opened.{IsOpenedLog, IsUnsoundLog}
use Rattle.fine_top.proofs.Chainless.{shows_none, unsound}
use Rattle.fine_model.proofs.Trees.NodeLaws.{Agrees-refl}

-- ---- outcomes that are not told

none_refused : (n : ℕ) → list_any is_refused (replicate n outcome.NotRun) ≡ false
none_refused zero = refl
none_refused (suc n) = none_refused n

refused_behind : (outcomes : List Outcome) (n : ℕ) → list_any is_refused (outcomes ++ replicate n outcome.NotRun) ≡ list_any is_refused outcomes
refused_behind [] n = none_refused n
refused_behind (o ∷ outcomes) n = ap (λ b. is_refused o || b) (refused_behind outcomes n)

-- the status is that of all outcomes too
pub status_all : (script : List ScriptTxn) (outcomes : List Outcome) (fault : Option RunFault) (status : ℕ) → HasStatus status outcomes fault → HasStatus status (all_outcomes script outcomes) fault
status_all script outcomes None status is = subst (λ b. status ≡ cond {A = ℕ} b 8 0) (sym (refused_behind outcomes (length script - length outcomes))) is
status_all script outcomes (Some run_fault.Memory) status is = is
status_all script outcomes (Some run_fault.Disk) status is = is
status_all script outcomes (Some (run_fault.Damaged what)) status is = is

-- the statuses of a run
pub run_statuses : (outcomes : List Outcome) (f : Option RunFault) → OneOf (0 ∷ 1 ∷ 6 ∷ 7 ∷ 8 ∷ []) (run_status outcomes f)
run_statuses outcomes None = by (list_any is_refused outcomes)
  where
    by : (b : Bool) → OneOf (0 ∷ 1 ∷ 6 ∷ 7 ∷ 8 ∷ []) (cond {A = ℕ} b 8 0)
    by true = inr (inr (inr (inr (inl refl))))
    by false = inl refl
run_statuses outcomes (Some run_fault.Memory) = inr (inl refl)
run_statuses outcomes (Some run_fault.Disk) = inr (inr (inl refl))
run_statuses outcomes (Some (run_fault.Damaged what)) = inr (inr (inr (inl refl)))

-- no end has the status of an output that failed
pub five : (d : Ended) → status_of d ≡ 5 → ⊥
five (early reason.Words) is = omega (arith, is)
five (early (reason.Script n)) is = omega (arith, is)
five (early reason.Source) is = omega (arith, is)
five (early (reason.Fault run_fault.Memory)) is = omega (arith, is)
five (early (reason.Fault run_fault.Disk)) is = omega (arith, is)
five (early (reason.Fault (run_fault.Damaged what))) is = omega (arith, is)
five (ran script r) is = let known = run_statuses r.outcomes r.fault in grind (arith, known, is)

-- ---- a disk that was left as it was

module _ (old : Disk) (before : Told) (e : ℕ) (rows : List Row) (shows : Shows old.region_len before.bytes e rows) (is_told : IsToldOf old before) (synced : old.unsynced ≡ []) where
  none_upto : (n : ℕ) → all_rows (upto [] n) ≡ []
  unfolding upto
  none_upto n = refl

  pub shows_entry : (image : Image) → IsImageNow before image → ShowsSome old.region_len rows [] e e image
  shows_entry image now =
      let same : image ≡ before.bytes = all_synced old before image is_told synced now in
      record {
        e = e;
        rows = rows;
        shows = subst (λ i. Shows old.region_len i e rows) (sym same) shows;
        from = omega arith;
        to = omega arith;
        agrees = subst (Agrees rows) (sym (ap (λ xs. rows ++ xs) (none_upto e) ∙ append-nil rows)) (Agrees-refl rows);
      }

  pub keeps_entry : (image : Image) → IsImageSince (clock_of before) before image → ShowsSome old.region_len rows [] e e image
  keeps_entry image since = shows_entry image (only_now before image since)

-- an early end left what the disk tells
pub early_told : (old new : Disk) (r : Reason) → EndsEarly r old new → new.told ≡ old.told
early_told old new (reason.Fault run_fault.Disk) en = (en.failed refl).told
early_told old new (reason.Fault run_fault.Memory) en = ap (λ d. d.told) (en.same (λ x. cc))
early_told old new (reason.Fault (run_fault.Damaged what)) en = ap (λ d. d.told) (en.same (λ x. cc))
early_told old new reason.Words en = ap (λ d. d.told) (en.same (λ x. cc))
early_told old new (reason.Script n) en = ap (λ d. d.told) (en.same (λ x. cc))
early_told old new reason.Source en = ap (λ d. d.told) (en.same (λ x. cc))

-- ---- the theorem

-- what is known of the counts by a call's status
pub record CountsByStatus (source_rose output_rose : Type 0) (old new : Disk) (status : ℕ) : Type 0 where
  pub source : status ≡ 4 → source_rose
  pub output : status ≡ 5 → output_rose
  pub disk : status ≡ 6 → HasRisen old.faults new.faults
  pub told : old.faults < new.faults → (status ≡ 1) ⊎ (status ≡ 5) ⊎ (status ≡ 6)

module _ (options : Options) (source output : ℕ × ℕ) (left : Option (List ℕ)) (old new : Disk) (status : ℕ) (was now : Option (List ℕ)) where
  abbrev source_rose : Type 0
  source_rose = HasRisen source.0 source.1

  abbrev output_rose : Type 0
  output_rose = HasRisen output.0 output.1

  pub faults_by : (before after : Told) → CountsByStatus source_rose output_rose old new status → TellsFaults (return_of old new source output before after) status
  faults_by before after counts = record {
    source = counts.source;
    output = counts.output;
    disk = λ is. risen_by old.faults new.faults (counts.disk is);
    told = λ rose. counts.told (omega (arith, rose));
  }

  module _ (counts : CountsByStatus source_rose output_rose old new status) (bytes first : List ℕ) (before after : Told) (e : ℕ) (rows : List Row) (left_is : left ≡ Some bytes) (was_is : was ≡ Some first) (old_is : old.told ≡ Some before)
      (new_is : new.told ≡ Some after) (shows : Shows old.region_len before.bytes e rows) (sound : IsSound rows) (whole : (what : Damage) → SeesLog old (Err what) → ⊥) (is_told : IsToldOf old before)
      (synced : old.unsynced ≡ []) where
    abbrev start : Start
    start = start_on old bytes e rows

    abbrev back : Return
    back = return_of old new source output before after

    faults : TellsFaults back status
    faults = faults_by before after counts

    abbrev since : Image → Type 0
    since = IsImageSince (clock_of before) after

    abbrev Theorem : List ℕ → Type 0
    Theorem written = RunTheorem (causes_of start back) start options.group since (IsImageNow after) back (new ≡ old) status written

    abbrev Result_ : Type 0
    Result_ = (written : List ℕ) × (now ≡ Some (first ++ written)) × Theorem written

    module _ (r : Reason) (en : EndsEarly r old new) (why : IsReason source_rose left old r) where
      same_after : after ≡ before
      same_after = let c : ◌≡◌ {A = Option Told} (Some after) (Some before) = sym new_is ∙ early_told old new r en ∙ old_is in cc

      every_image : KeepsEvery start since []
      every_image = subst (λ t. KeepsEvery start (IsImageSince (clock_of before) t) []) (sym same_after) (keeps_entry old before e rows shows is_told synced)

      on_return : KeepsUpTo start (IsImageNow after) [] e
      on_return = subst (λ t. KeepsUpTo start (IsImageNow t) [] e) (sym same_after) (shows_entry old before e rows shows is_told synced)

      nothing : (written : List ℕ) → MayEnd start back r → IsFrontOf written (reason_bytes r) → (status ≡ 1 → written ≡ fault_line run_fault.Memory) → NothingRun start since back status written
      nothing written may front all = record { reason = r; because = may; printed = front; whole = all; every_image = every_image }

    -- where no count rose, the statuses of a good script are those of a run that was done, or of want of memory
    complete : ((script : List ScriptTxn) → start.script ≡ Ok script → OneOf (0 ∷ 1 ∷ 4 ∷ 5 ∷ 6 ∷ 8 ∷ []) status) → IsComplete start back status
    complete known script read none = by (known script read)
      where
        by : OneOf (0 ∷ 1 ∷ 4 ∷ 5 ∷ 6 ∷ 8 ∷ []) status → OneOf (0 ∷ 1 ∷ 8 ∷ []) status
        by (inl is) = inl is
        by (inr (inl is)) = inr (inl is)
        by (inr (inr (inl is))) = absurd (none (inl (faults.source is)))
        by (inr (inr (inr (inl is)))) = absurd (none (inr (inl (faults.output is))))
        by (inr (inr (inr (inr (inl is))))) = absurd (none (inr (inr (faults.disk is))))
        by (inr (inr (inr (inr (inr (inl is)))))) = inr (inr (inl is))
        by (inr (inr (inr (inr (inr (inr none)))))) = absurd none

    -- each status has one part of the theorem
    cut : (written : List ℕ) → (status ≡ 1) ⊎ (status ≡ 5) → NothingRun start since back status written ⊎ RunCutShort (causes_of start back) start options.group since (IsImageNow after) back status written → Theorem written
    cut written one front = record {
      done = λ d. absurd (grind (arith, one, d));
      cut_short = λ c. front;
      refused = λ d. absurd (grind (arith, one, d));
      others = λ d. grind (arith, one, d);
      faults = faults;
      complete = complete (λ script read. by one);
    }
      where
        by : (status ≡ 1) ⊎ (status ≡ 5) → OneOf (0 ∷ 1 ∷ 4 ∷ 5 ∷ 6 ∷ 8 ∷ []) status
        by (inl is) = inr (inl is)
        by (inr is) = inr (inr (inr (inl is)))

    refuses : (written : List ℕ) → (one : (status ≡ 3) ⊎ (status ≡ 4)) → ReasonFor status (script_of bytes) written → new ≡ old → Theorem written
    refuses written one because same = record {
      done = λ d. absurd (grind (arith, one, d));
      cut_short = λ d. absurd (grind (arith, one, d));
      refused = λ d. (because, same);
      others = λ d. grind (arith, one, d);
      faults = faults;
      complete = complete (λ script read. by script read because);
    }
      where
        by : (script : List ScriptTxn) → script_of bytes ≡ Ok script → ReasonFor status (script_of bytes) written → OneOf (0 ∷ 1 ∷ 4 ∷ 5 ∷ 6 ∷ 8 ∷ []) status
        by script read (inl (is, n, inl many, text)) = absurd cc
        by script read (inl (is, n, inr (inl long), text)) = absurd cc
        by script read (inl (is, n, inr (inr bad), text)) = absurd cc
        by script read (inr (is, text)) = inr (inr (inl is))

    does : (written : List ℕ) → (status ≡ 0) ⊎ (status ≡ 6) ⊎ (status ≡ 8) → RunDone (causes_of start back) start options.group since (IsImageNow after) back status written → Theorem written
    does written one d = record {
      done = λ x. d;
      cut_short = λ x. absurd (grind (arith, one, x));
      refused = λ x. absurd (grind (arith, one, x));
      others = λ x. grind (arith, one, x);
      faults = faults;
      complete = complete (λ script read. by one);
    }
      where
        by : (status ≡ 0) ⊎ (status ≡ 6) ⊎ (status ≡ 8) → OneOf (0 ∷ 1 ∷ 4 ∷ 5 ∷ 6 ∷ 8 ∷ []) status
        by (inl is) = inl is
        by (inr (inl is)) = inr (inr (inr (inr (inl is))))
        by (inr (inr is)) = inr (inr (inr (inr (inr (inl is)))))

    disk_rose : HasRisen old.faults new.faults → DiskRose back
    disk_rose risen = risen_by old.faults new.faults risen

    -- ---- an early end

    -- where nothing is run, the outcomes are those of no history
    no_outcomes : (script : List ScriptTxn) → AreOutcomes script e (all_outcomes script []) []
    no_outcomes script = subst (λ os. AreOutcomes script e os []) (none_told script) (are_none script e)

    early_disk : (en : EndsEarly (reason.Fault run_fault.Disk) old new) (why : IsReason source_rose left old (reason.Fault run_fault.Disk)) (written : List ℕ) → written ≡ reason_bytes (reason.Fault run_fault.Disk) → status ≡ 6 → Theorem written
    unfolding reason_bytes
    early_disk en why written text is =
        let spells = why bytes left_is in
        let nothing_done : Ran = record { outcomes = []; durable = e; fault = Some run_fault.Disk; unsealed = false } in
        let counts = (en.failed refl).counts in
        let own_rose = counts.own_faults tt in
        does written (inr (inl is)) (record {
          script = spells.0;
          ran = nothing_done;
          history = [];
          read = spells.1;
          run = record {
            run = record {
              one_history = no_outcomes spells.0;
              legal = record { each = λ k c at. absurd (let x : ◌≡◌ {A = Option Commit} None (Some c) = at in cc) };
              every_image = every_image (reason.Fault run_fault.Disk) en why;
              on_return = on_return (reason.Fault run_fault.Disk) en why;
              from_entry = omega arith;
            };
            caused = record { each = λ i txn word is_txn is_refused. absurd (not_refused (length spells.0) i word (subst (λ os. slice_get os i ≡ Some (outcome.Refused word)) (sym (none_told spells.0)) is_refused)) };
            few_each = λ one e. omega arith;
            last_need = λ one i txn is is_txn. absurd (not_refused (length spells.0) i refusal.Full (subst (λ os. slice_get os i ≡ Some (outcome.Refused refusal.Full)) (sym (none_told spells.0)) is.0));
            failed = λ fault is. failed_by fault is (disk_rose (counts.faults tt));
            all_run = λ none. absurd (let x : ◌≡◌ {A = Option RunFault} (Some run_fault.Disk) None = none in cc);
            all_durable = λ none. refl;
          };
          printed = inr (text, is, own_rose, ap clock_of (same_after (reason.Fault run_fault.Disk) en why), refl);
          done = record {
            all_run = λ h. absurd (grind (arith, is, h));
            all_durable = λ h. refl;
            one_each = λ six none. absurd (none own_rose);
          };
        })
      where
        failed_by : (fault : RunFault) → ◌≡◌ {A = Option RunFault} (Some run_fault.Disk) (Some fault) → DiskRose back → FailsSound back fault
        failed_by run_fault.Memory is rose = absurd cc
        failed_by run_fault.Disk is rose = rose
        failed_by (run_fault.Damaged what) is rose = absurd cc

    -- why it ended
    may_end : (r : Reason) (en : EndsEarly r old new) → IsReason source_rose left old r → MayEnd start back r
    may_end reason.Words en why = absurd why
    may_end (reason.Script n) en why = why bytes left_is
    may_end reason.Source en why = why
    may_end (reason.Fault run_fault.Memory) en why = tt
    may_end (reason.Fault run_fault.Disk) en why = disk_rose ((en.failed refl).counts.faults tt)
    may_end (reason.Fault (run_fault.Damaged what)) en why = absurd (whole what why.1)

    -- an early end whose text was written
    early_whole : (r : Reason) (en : EndsEarly r old new) (why : IsReason source_rose left old r) (written : List ℕ) → written ≡ reason_bytes r → status ≡ status_of (early r) → Theorem written
    unfolding reason_bytes
    early_whole reason.Words en why written text is = absurd why
    early_whole (reason.Script n) en why written text is = refuses written (inl is) (inl (is, n, why bytes left_is, text)) (en.same (λ x. cc))
    early_whole reason.Source en why written text is = refuses written (inr is) (inr (is, text)) (en.same (λ x. cc))
    early_whole (reason.Fault run_fault.Memory) en why written text is =
        cut written (inl is) (inl (nothing (reason.Fault run_fault.Memory) en why written tt ([], sym text ∙ sym (append-nil written)) (λ one. text)))
    early_whole (reason.Fault run_fault.Disk) en why written text is = early_disk en why written text is
    early_whole (reason.Fault (run_fault.Damaged what)) en why written text is = absurd (whole what why.1)

    -- ---- a run

    module _ (script : List ScriptTxn) (r : Ran) (may : MayRun left script) (is_run : IsRunOf options old new script r) where
      read : script_of bytes ≡ Ok script
      read = may bytes left_is

      on : IsRunOn options old new before after script r is_run.history e rows
      on = is_run.told before after e rows old_is new_is shows sound

      same_start : start_of script old e rows ≡ start
      same_start = λ i. record { script = sym read i; region_len = old.region_len; e = e; rows = rows }

      run : IsRunWith (causes_of start back) start options.group since (IsImageNow after) back script r is_run.history
      run = subst (λ (s : Start). IsRunWith (causes_of s back) s options.group since (IsImageNow after) back script r is_run.history) same_start (on.run source output)

      short : (written : List ℕ) → IsFrontOf written (report script r) → (status ≡ 1 → (written ≡ report script r) × (r.fault ≡ Some run_fault.Memory)) → RunCutShort (causes_of start back) start options.group since (IsImageNow after) back status written
      short written front all = record { script = script; ran = r; history = is_run.history; read = read; run = run; printed = front; whole = all }

      done : (written : List ℕ) → written ≡ report script r → HasStatus status r.outcomes r.fault → (status ≡ 0) ⊎ (status ≡ 6) ⊎ (status ≡ 8) → RunDone (causes_of start back) start options.group since (IsImageNow after) back status written
      done written text has one = record {
        script = script;
        ran = r;
        history = is_run.history;
        read = read;
        run = run;
        printed = inl (text, has);
        done = subst (λ (s : Start). IsDoneRun s back status script (all_outcomes script r.outcomes) r.durable is_run.history) same_start (on.done source output status (status_all script r.outcomes r.fault status has) one);
      }

      ran_whole : (written : List ℕ) → written ≡ report script r → (f : Option RunFault) → r.fault ≡ f → status ≡ run_status r.outcomes f → Theorem written
      ran_whole written text None fine is =
          let one = by (list_any is_refused r.outcomes) is in
          does written one (done written text (subst (HasStatus status r.outcomes) (sym fine) is) one)
        where
          by : (b : Bool) → status ≡ cond {A = ℕ} b 8 0 → (status ≡ 0) ⊎ (status ≡ 6) ⊎ (status ≡ 8)
          by true h = inr (inr h)
          by false h = inl h
      ran_whole written text (Some run_fault.Memory) fine is = cut written (inl is) (inr (short written ([], sym text ∙ sym (append-nil written)) (λ one. (text, fine))))
      ran_whole written text (Some run_fault.Disk) fine is =
          does written (inr (inl is)) (done written text (subst (HasStatus status r.outcomes) (sym fine) is) (inr (inl is)))
      ran_whole written text (Some (run_fault.Damaged what)) fine is = absurd (is_run.unsound what fine before old_is e rows shows sound)

    -- ---- the whole

    whole_text : (d : Ended) → IsEnd options source_rose left old new d → (written : List ℕ) → written ≡ text_of d → status ≡ status_of d → Theorem written
    unfolding text_of
    whole_text (early r) end written text is = early_whole r end.1 end.0 written text is
    whole_text (ran script r) end written text is = ran_whole script r end.0 end.1 written text r.fault refl is

    front_text : (d : Ended) → IsEnd options source_rose left old new d → (written : List ℕ) → IsFrontOf written (text_of d) → status ≡ 5 → Theorem written
    unfolding text_of
    front_text (early r) end written front is = cut written (inr is) (inl (nothing r end.1 end.0 written (may_end r end.1 end.0) front (λ one. absurd (omega (arith, is, one)))))
    front_text (ran script r) end written front is = cut written (inr is) (inr (short script r end.0 end.1 written front (λ one. absurd (omega (arith, is, one)))))

    holds : Ends options source_rose left old new status was now → Result_
    holds en = by en.status_is
      where
        by : (status ≡ 5) ⊎ (status ≡ status_of en.ended) → Result_
        by (inl failed) = let w = wrote_front (text_of en.ended) (status ≡ 5) was now first en.printed was_is in (w.0, w.1, front_text en.ended en.is_end w.0 w.2 failed)
        by (inr fine) =
            (text_of en.ended, wrote_all (text_of en.ended) (status ≡ 5) was now first en.printed (λ failed. five en.ended (sym fine ∙ failed)) was_is, whole_text en.ended en.is_end (text_of en.ended) refl fine)

  -- ---- the disk's count

  failed_end : (d : Ended) → IsEnd options source_rose left old new d → status_of d ≡ 6 → HasRisen old.faults new.faults
  failed_end (early reason.Words) end is = absurd (omega (arith, is))
  failed_end (early (reason.Script n)) end is = absurd (omega (arith, is))
  failed_end (early reason.Source) end is = absurd (omega (arith, is))
  failed_end (early (reason.Fault run_fault.Memory)) end is = absurd (omega (arith, is))
  failed_end (early (reason.Fault run_fault.Disk)) end is = (end.1.failed refl).counts.faults tt
  failed_end (early (reason.Fault (run_fault.Damaged what))) end is = absurd (omega (arith, is))
  failed_end (ran script r) end is = by r.fault refl is
    where
      other : (b : Bool) → cond {A = ℕ} b 8 0 ≡ 6 → ⊥
      other true h = omega (arith, h)
      other false h = omega (arith, h)

      by : (f : Option RunFault) → r.fault ≡ f → run_status r.outcomes f ≡ 6 → HasRisen old.faults new.faults
      by None fault h = absurd (other (list_any is_refused r.outcomes) h)
      by (Some run_fault.Memory) fault h = absurd (omega (arith, h))
      by (Some run_fault.Disk) fault h = end.1.only_risen fault
      by (Some (run_fault.Damaged what)) fault h = absurd (omega (arith, h))

  same_count : new ≡ old → old.faults < new.faults → ⊥
  same_count same rose = let e = ap (λ (d : Disk). d.faults) same in omega (arith, e, rose)

  told_end : (d : Ended) → IsEnd options source_rose left old new d → old.faults < new.faults → (status_of d ≡ 1) ⊎ (status_of d ≡ 6)
  told_end (early reason.Words) end rose = absurd (same_count (end.1.same (λ x. cc)) rose)
  told_end (early (reason.Script n)) end rose = absurd (same_count (end.1.same (λ x. cc)) rose)
  told_end (early reason.Source) end rose = absurd (same_count (end.1.same (λ x. cc)) rose)
  told_end (early (reason.Fault run_fault.Memory)) end rose = inl refl
  told_end (early (reason.Fault run_fault.Disk)) end rose = inr refl
  told_end (early (reason.Fault (run_fault.Damaged what))) end rose = absurd (same_count (end.1.same (λ x. cc)) rose)
  told_end (ran script r) end rose = by (end.1.where_risen rose)
    where
      by : (r.fault ≡ Some run_fault.Disk) ⊎ (r.fault ≡ Some run_fault.Memory) → (run_status r.outcomes r.fault ≡ 1) ⊎ (run_status r.outcomes r.fault ≡ 6)
      by (inl fault) = inr (ap (run_status r.outcomes) fault)
      by (inr fault) = inl (ap (run_status r.outcomes) fault)

  pub counts_of : (status ≡ 4 → source_rose) → (status ≡ 5 → output_rose) → Ends options source_rose left old new status was now → CountsByStatus source_rose output_rose old new status
  counts_of source_failed output_failed en = record { source = source_failed; output = output_failed; disk = λ six. disk en.status_is six; told = λ rose. told en.status_is (told_end en.ended en.is_end rose) }
    where
      disk : (status ≡ 5) ⊎ (status ≡ status_of en.ended) → status ≡ 6 → HasRisen old.faults new.faults
      disk (inl failed) six = absurd (omega (arith, failed, six))
      disk (inr fine) six = failed_end en.ended en.is_end (sym fine ∙ six)

      told : (status ≡ 5) ⊎ (status ≡ status_of en.ended) → (status_of en.ended ≡ 1) ⊎ (status_of en.ended ≡ 6) → (status ≡ 1) ⊎ (status ≡ 5) ⊎ (status ≡ 6)
      told (inl failed) one = inr (inl failed)
      told (inr fine) (inl one) = inl (fine ∙ one)
      told (inr fine) (inr six) = inr (inr (fine ∙ six))

  -- a disk that tells its bytes at entry tells them on return
  pub goes_on : Ends options source_rose left old new status was now → ContinuesOn old new
  goes_on en = by en.ended en.is_end
    where
      by : (d : Ended) → IsEnd options source_rose left old new d → ContinuesOn old new
      by (early r) end = continues_told old new (early_told old new r end.1)
      by (ran script r) end = end.1.time

  pub told_on_return : (before : Told) → old.told ≡ Some before → ContinuesOn old new → (after : Told) × (new.told ≡ Some after)
  told_on_return before is time = by old.told new.told is refl time
    where
      by : (a b : Option Told) → a ≡ Some before → new.told ≡ b → BothTold Continues a b → (after : Told) × (new.told ≡ Some after)
      by a (Some after) at here both = (after, here)
      by None None at here both = absurd cc
      by (Some a) None at here both = absurd both

  -- how a call ended tells that it ran well
  pub runs_well : (status ≡ 4 → source_rose) → (status ≡ 5 → output_rose) → IsSoundDisk old → old.unsynced ≡ [] → Ends options source_rose left old new status was now → RunsWell options left source output old new status was now
  runs_well source_failed output_failed is_sound synced en = record {
    holds = λ bytes first before e rows left_is was_is old_is shows sound.
        let after = told_on_return before old_is (goes_on en) in
        let h = holds (counts_of source_failed output_failed en) bytes first before after.0 e rows left_is was_is old_is after.1 shows sound
        (λ what none. shows_none old what before e rows none old_is shows) (is_told old.told before old_is is_sound.told) synced en in
        (after.0, after.1, h.0, h.1, h.2);
  }
    where
      is_told : (t : Option Told) (b : Told) → t ≡ Some b → IfSome t (IsToldOf old) → IsToldOf old b
      is_told t b is h = subst (λ o. IfSome o (IsToldOf old)) is h

  -- status 3 comes for a script that is refused
  of_refused : (d : Ended) → IsEnd options source_rose left old new d → status_of d ≡ 3 → OfTold left IsRefused
  of_refused (early reason.Words) end is = absurd (omega (arith, is))
  of_refused (early (reason.Script n)) end is = λ bytes left_is. (n, end.0 bytes left_is)
  of_refused (early reason.Source) end is = absurd (omega (arith, is))
  of_refused (early (reason.Fault run_fault.Memory)) end is = absurd (omega (arith, is))
  of_refused (early (reason.Fault run_fault.Disk)) end is = absurd (omega (arith, is))
  of_refused (early (reason.Fault (run_fault.Damaged what))) end is = absurd (omega (arith, is))
  of_refused (ran script r) end is = let known = run_statuses r.outcomes r.fault in absurd (grind (arith, known, is))

  pub refused_script : Ends options source_rose left old new status was now → status ≡ 3 → OfTold left IsRefused
  refused_script en three = by en.status_is
    where
      by : (status ≡ 5) ⊎ (status ≡ status_of en.ended) → OfTold left IsRefused
      by (inl failed) = absurd (omega (arith, failed, three))
      by (inr fine) = of_refused en.ended en.is_end (sym fine ∙ three)

  -- status 7 comes for a log that is not sound
  of_damaged : (d : Ended) → IsEnd options source_rose left old new d → status_of d ≡ 7 → IsUnsoundLog old
  of_damaged (early reason.Words) end is = absurd (omega (arith, is))
  of_damaged (early (reason.Script n)) end is = absurd (omega (arith, is))
  of_damaged (early reason.Source) end is = absurd (omega (arith, is))
  of_damaged (early (reason.Fault run_fault.Memory)) end is = absurd (omega (arith, is))
  of_damaged (early (reason.Fault run_fault.Disk)) end is = absurd (omega (arith, is))
  of_damaged (early (reason.Fault (run_fault.Damaged what))) end is = unsound old what end.0.1
  of_damaged (ran script r) end is = by r.fault refl is
    where
      other : (b : Bool) → cond {A = ℕ} b 8 0 ≡ 7 → ⊥
      other true h = omega (arith, h)
      other false h = omega (arith, h)

      by : (f : Option RunFault) → r.fault ≡ f → run_status r.outcomes f ≡ 7 → IsUnsoundLog old
      by None fault h = absurd (other (list_any is_refused r.outcomes) h)
      by (Some run_fault.Memory) fault h = absurd (omega (arith, h))
      by (Some run_fault.Disk) fault h = absurd (omega (arith, h))
      by (Some (run_fault.Damaged what)) fault h = end.1.unsound what fault

  pub damaged_log : Ends options source_rose left old new status was now → status ≡ 7 → IsUnsoundLog old
  damaged_log en seven = by en.status_is
    where
      by : (status ≡ 5) ⊎ (status ≡ status_of en.ended) → IsUnsoundLog old
      by (inl failed) = absurd (omega (arith, failed, seven))
      by (inr fine) = of_damaged en.ended en.is_end (sym fine ∙ seven)

  -- with status 0 and 8 the chain was found
  of_opened : (d : Ended) → IsEnd options source_rose left old new d → OneOf (0 ∷ 8 ∷ []) (status_of d) → IsOpenedLog old
  of_opened (early reason.Words) end ok = absurd (grind (arith, ok))
  of_opened (early (reason.Script n)) end ok = absurd (grind (arith, ok))
  of_opened (early reason.Source) end ok = absurd (grind (arith, ok))
  of_opened (early (reason.Fault run_fault.Memory)) end ok = absurd (grind (arith, ok))
  of_opened (early (reason.Fault run_fault.Disk)) end ok = absurd (grind (arith, ok))
  of_opened (early (reason.Fault (run_fault.Damaged what))) end ok = absurd (grind (arith, ok))
  of_opened (ran script r) end ok = (end.1.found.parts, record { image = end.1.sees.image; is_seen = end.1.sees.is_seen; is = end.1.sees.is_chain })

  pub opened_log : Ends options source_rose left old new status was now → OneOf (0 ∷ 8 ∷ []) status → IsOpenedLog old
  opened_log en ok = by en.status_is
    where
      by : (status ≡ 5) ⊎ (status ≡ status_of en.ended) → IsOpenedLog old
      by (inl failed) = absurd (grind (arith, failed, ok))
      by (inr fine) = of_opened en.ended en.is_end (subst (OneOf (0 ∷ 8 ∷ [])) fine ok)

  pub tells_run : Ends options source_rose left old new status was now → TellsRun left old new status
  tells_run en = record { script = refused_script en; damaged = damaged_log en; opened = opened_log en; told = goes_on en }

-- how a call ended whose script was run, or for which there was no memory
pub ends_run : (options : Options) (source_rose : Type 0) (left : Option (List ℕ)) (script : List ScriptTxn) (old mid new : Disk) (status : ℕ) (was now : Option (List ℕ)) → mid ≡ old → MayRun left script → EndsRunOf options script mid new status was now
    → Ends options source_rose left old new status was now
ends_run options source_rose left script old mid new status was now same may run =
    let r = subst (λ (d : Disk). EndsRunOf options script d new status was now) same run in
    record { ended = r.ended; is_end = by r.ended r.is_end; status_is = r.status_is; printed = r.printed }
  where
    by : (d : Ended) → IsEndOfRun options script old new d → IsEnd options source_rose left old new d
    by (early r) end = (subst (IsReason source_rose left old) (sym end.0) tt, record { failed = λ disk. absurd (let x : reason.Fault run_fault.Memory ≡ reason.Fault run_fault.Disk = sym end.0 ∙ disk in cc); same = λ x. end.1 })
    by (ran its r) end = (subst (MayRun left) (sym end.0) may, subst (λ s. IsRunOf options old new s r) (sym end.0) end.1)
