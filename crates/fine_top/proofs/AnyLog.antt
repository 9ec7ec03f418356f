-- The theorem of a run on any log that the disk tells, sound or not, from how the call ended.
use Rattle.std.proofs.Common.{◌≡◌, ◌⊎◌, inl, inr, ℕ, List, [], ◌∷◌, ◌++◌, refl, sym, ap, ◌∙◌, subst, Option, Some, None, Result, Ok, Err, arith, cond}
use Rattle.std.specs.List.{list_any}
use Rattle.log_disk.specs.Disk.{Disk, Told, HasRisen, clock_of}
use Rattle.fine_model.specs.declared.Damage.{Damage}
use Rattle.fine_model.specs.declared.Options.{Options}
use Rattle.fine_model.specs.declared.Part.{Part}
use Rattle.fine_model.specs.declared.Ran.{Ran}
use Rattle.fine_model.specs.declared.Reason.{Reason}
use Rattle.fine_model.specs.declared.Reason.TheVariants as reason
use Rattle.fine_model.specs.declared.RunFault.{RunFault}
use Rattle.fine_model.specs.declared.RunFault.TheVariants as run_fault
use Rattle.fine_model.specs.declared.ScriptTxn.{ScriptTxn}
use Rattle.fine_model.specs.Chain.{chain}
use Rattle.fine_model.specs.Damages.{HasNoChain, IsDurableFor, Reports, RunDamagedTheorem, Running}
use Rattle.fine_model.specs.Headline.{HasStatus, IsFrontOf, OneOf, Return, TellsFaults}
use Rattle.fine_model.specs.Outcomes.{is_refused}
use Rattle.fine_model.specs.Report.{damage_line, reason_bytes, report}
use Rattle.fine_model.specs.Script.{Refusal, script_of}
use Rattle.log_commands.proofs.Printed.{risen_by, wrote_all, wrote_front}
use Rattle.log_commands.proofs.Ranges.{told_chain}
use Rattle.run_laws.specs.Law.{return_of}
use Rattle.fine_top.specs.Running.{Ended, early, ran, Ends, EndsEarly, IsEnd, IsReason, IsRunOf, MayRun, RunsAny, reason_status, run_status, status_of, text_of}
use Rattle.fine_top.proofs.Chainless.{unsound}
use Rattle.fine_top.proofs.Saying.{Says, any_front, any_whole, damaged_says, done_says, failed_says, memory_says, reason_says}
use Rattle.fine_top.proofs.Theorem.{counts_of, early_told, faults_by, five, goes_on, status_all, told_on_return}

module _ (options : Options) (source output : ℕ × ℕ) (left : Option (List ℕ)) (old new : Disk) (status : ℕ) (was now : Option (List ℕ)) where
  module _ (bytes : List ℕ) (before after : Told) (left_is : left ≡ Some bytes) (old_is : old.told ≡ Some before) (new_is : new.told ≡ Some after) where
    abbrev back : Return
    back = return_of old new source output before after

    abbrev script : Result (List ScriptTxn) Refusal
    script = script_of bytes

    abbrev running : Running
    running = record { script = script; statuses = 0 ∷ 1 ∷ 3 ∷ 4 ∷ 5 ∷ 6 ∷ 7 ∷ 8 ∷ []; prints = Reports script }

    abbrev Said : ℕ → List ℕ → Type 0
    Said = Says running old.region_len before.bytes back

    -- ---- an early end

    module _ (r : Reason) (en : EndsEarly r old new) where
      still : clock_of after ≡ clock_of before
      still = let same : ◌≡◌ {A = Option Told} (Some after) (Some before) = sym new_is ∙ early_told old new r en ∙ old_is in let is : after ≡ before = cc in ap clock_of is

    early_says : (r : Reason) → EndsEarly r old new → IsReason (HasRisen source.0 source.1) left old r → Said (status_of (early r)) (reason_bytes r)
    unfolding reason_bytes
    early_says reason.Words en why = absurd why
    early_says (reason.Script n) en why = reason_says running old.region_len before.bytes back 3 (reason_bytes (reason.Script n)) (inl refl) (inr (inr (inl refl))) (inl (refl, n, why bytes left_is, refl)) (λ e. absurd (omega (arith, e)))
    early_says reason.Source en why = reason_says running old.region_len before.bytes back 4 (reason_bytes reason.Source) (inr refl) (inr (inr (inr (inl refl)))) (inr (refl, refl)) (λ e. why)
    early_says (reason.Fault run_fault.Memory) en why = memory_says running old.region_len before.bytes back (reason_bytes (reason.Fault run_fault.Memory)) (inr (inl refl)) (inl (still (reason.Fault run_fault.Memory) en, refl))
    early_says (reason.Fault run_fault.Disk) en why =
        failed_says running old.region_len before.bytes back (reason_bytes (reason.Fault run_fault.Disk)) (inr (inr (inr (inr (inr (inl refl)))))) (risen_by old.faults new.faults ((en.failed refl).counts.faults tt))
        (inl (still (reason.Fault run_fault.Disk) en, refl))
    early_says (reason.Fault (run_fault.Damaged what)) en why =
        damaged_says running old.region_len before.bytes back (reason_bytes (reason.Fault (run_fault.Damaged what))) (inr (inr (inr (inr (inr (inr (inl refl)))))))
        (what, unsound old what why.1 before old_is, inl (told_chain old (Err what) before old_is why.1, refl))

    -- ---- a run

    module _ (its : List ScriptTxn) (r : Ran) (may : MayRun left its) (x : IsRunOf options old new its r) where
      chained : chain old.region_len before.bytes ≡ Ok x.found.parts
      chained = told_chain old (Ok x.found.parts) before old_is (record { image = x.sees.image; is_seen = x.sees.is_seen; is = x.sees.is_chain })

      reports : (f : Option RunFault) → r.fault ≡ f → (s : ℕ) → HasStatus s r.outcomes f → Reports script x.found.parts x.history f s (report its r)
      reports f fault s has = record {
        txns = its;
        ran = r;
        read = may bytes left_is;
        outcomes = x.behind.outcomes;
        durable = subst (λ g. IsDurableFor x.found.parts x.history g r.durable) fault x.behind.durable;
        fault_is = fault;
        status_is = status_all its r.outcomes f s has;
        all_run = λ none. x.behind.all_run (fault ∙ none);
        printed = refl;
      }

      ran_says : (f : Option RunFault) → r.fault ≡ f → Said (run_status r.outcomes f) (report its r)
      ran_says None fault =
          done_says running old.region_len before.bytes back (report its r) (list_any is_refused r.outcomes) (inl refl) (inr (inr (inr (inr (inr (inr (inr (inl refl))))))))
          (x.found.parts, x.history, chained, reports None fault (cond {A = ℕ} (list_any is_refused r.outcomes) 8 0) refl)
      ran_says (Some run_fault.Memory) fault =
          memory_says running old.region_len before.bytes back (report its r) (inr (inl refl)) (inr (x.found.parts, x.history, chained, reports (Some run_fault.Memory) fault 1 refl))
      ran_says (Some run_fault.Disk) fault =
          failed_says running old.region_len before.bytes back (report its r) (inr (inr (inr (inr (inr (inl refl)))))) (risen_by old.faults new.faults (x.only_risen fault))
          (inr (x.found.parts, x.history, chained, reports (Some run_fault.Disk) fault 6 refl))
      ran_says (Some (run_fault.Damaged what)) fault =
          damaged_says running old.region_len before.bytes back (report its r) (inr (inr (inr (inr (inr (inr (inl refl)))))))
          (what, x.unsound what fault before old_is, inr (x.found.parts, x.history, chained, x.placed what fault, inr (reports (Some (run_fault.Damaged what)) fault 7 refl)))

    -- ---- any end

    says : (d : Ended) → IsEnd options (HasRisen source.0 source.1) left old new d → Said (status_of d) (text_of d)
    unfolding text_of
    says (early r) end = early_says r end.1 end.0
    says (ran its r) end = ran_says its r end.0 end.1 r.fault refl

    -- ---- a log without a chain

    -- an early end says of the chain what its text does
    chainless : (r : Reason) (en : EndsEarly r old new) → IsReason (HasRisen source.0 source.1) left old r → (what : Damage) → chain old.region_len before.bytes ≡ Err what → (s : ℕ) → s ≡ reason_status r
        → OneOf (1 ∷ 3 ∷ 4 ∷ 5 ∷ 6 ∷ 7 ∷ []) s × (s ≡ 7 → reason_bytes r ≡ damage_line what)
    unfolding reason_bytes
    chainless reason.Words en why what none s is = absurd why
    chainless (reason.Script n) en why what none s is = (inr (inl is), λ e. absurd (omega (arith, is, e)))
    chainless reason.Source en why what none s is = (inr (inr (inl is)), λ e. absurd (omega (arith, is, e)))
    chainless (reason.Fault run_fault.Memory) en why what none s is = (inl is, λ e. absurd (omega (arith, is, e)))
    chainless (reason.Fault run_fault.Disk) en why what none s is = (inr (inr (inr (inr (inl is)))), λ e. absurd (omega (arith, is, e)))
    chainless (reason.Fault (run_fault.Damaged other)) en why what none s is =
        let same : ◌≡◌ {A = Result (List Part) Damage} (Err other) (Err what) = sym (told_chain old (Err other) before old_is why.1) ∙ none in
        let one : other ≡ what = cc in
        (inr (inr (inr (inr (inr (inl is))))), λ e. ap damage_line one)

    no_chain : (d : Ended) → IsEnd options (HasRisen source.0 source.1) left old new d → (written : List ℕ) → ((status ≡ 5) ⊎ ((status ≡ status_of d) × (written ≡ text_of d))) → (what : Damage) → chain old.region_len before.bytes ≡ Err what
        → HasNoChain (new.told ≡ old.told) what status written
    unfolding text_of
    no_chain (early r) end written (inl failed) what none = record { disk = early_told old new r end.1; status_is = inr (inr (inr (inl failed))); printed = λ e. absurd (omega (arith, failed, e)) }
    no_chain (early r) end written (inr (fine, text)) what none =
        let c = chainless r end.1 end.0 what none status fine in
        record { disk = early_told old new r end.1; status_is = c.0; printed = λ e. text ∙ c.1 e }
    no_chain (ran its r) end written how what none =
        absurd (let both : ◌≡◌ {A = Result (List Part) Damage} (Ok end.1.found.parts) (Err what) = sym (chained its r end.0 end.1) ∙ none in cc)

    -- ---- the theorem

    module _ (faults : TellsFaults back status) (d : Ended) (end : IsEnd options (HasRisen source.0 source.1) left old new d) (written : List ℕ) where
      by_whole : written ≡ text_of d → status ≡ status_of d → RunDamagedTheorem script old.region_len before.bytes back (new.told ≡ old.told) status written
      by_whole text is =
          any_whole running old.region_len before.bytes back (new.told ≡ old.told) status written (no_chain d end written (inr (is, text))) faults
          (subst (λ s. Said s written) (sym is) (subst (Said (status_of d)) (sym text) (says d end)))

      by_front : IsFrontOf written (text_of d) → status ≡ 5 → RunDamagedTheorem script old.region_len before.bytes back (new.told ≡ old.told) status written
      by_front front is =
          any_front running old.region_len before.bytes back (new.told ≡ old.told) status written (no_chain d end written (inl is)) faults (status_of d) (text_of d) (says d end) front
          (inr (inr (inr (inr (inl is))))) is

  -- how a call ended tells it
  pub runs_any : (status ≡ 4 → HasRisen source.0 source.1) → (status ≡ 5 → HasRisen output.0 output.1) → Ends options (HasRisen source.0 source.1) left old new status was now → RunsAny left source output old new status was now
  runs_any source_failed output_failed en = record { holds = λ bytes first before left_is was_is old_is. of_end bytes first before left_is was_is old_is }
    where
      of_end : (bytes first : List ℕ) (before : Told) → left ≡ Some bytes → was ≡ Some first → old.told ≡ Some before
          → (after : Told) × (new.told ≡ Some after) × (written : List ℕ) × (now ≡ Some (first ++ written))
          × RunDamagedTheorem (script_of bytes) old.region_len before.bytes (return_of old new source output before after) (new.told ≡ old.told) status written
      of_end bytes first before left_is was_is old_is = by en.status_is
        where
          told : (after : Told) × (new.told ≡ Some after)
          told = told_on_return options source output left old new status was now before old_is (goes_on options source output left old new status was now en)

          faults : TellsFaults (return_of old new source output before told.0) status
          faults = faults_by options source output left old new status was now before told.0 (counts_of options source output left old new status was now source_failed output_failed en)

          by : (status ≡ 5) ⊎ (status ≡ status_of en.ended) → (after : Told) × (new.told ≡ Some after) × (written : List ℕ) × (now ≡ Some (first ++ written))
              × RunDamagedTheorem (script_of bytes) old.region_len before.bytes (return_of old new source output before after) (new.told ≡ old.told) status written
          by (inl failed) =
              let w = wrote_front (text_of en.ended) (status ≡ 5) was now first en.printed was_is in
              (told.0, told.1, w.0, w.1, by_front bytes before told.0 left_is old_is told.1 faults en.ended en.is_end w.0 w.2 failed)
          by (inr fine) = (
            told.0,
            told.1,
            text_of en.ended,
            wrote_all (text_of en.ended) (status ≡ 5) was now first en.printed (λ failed. five en.ended (sym fine ∙ failed)) was_is,
            by_whole bytes before told.0 left_is old_is told.1 faults en.ended en.is_end (text_of en.ended) refl fine,
          )
