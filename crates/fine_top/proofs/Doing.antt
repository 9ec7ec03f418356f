-- What `run` and `gen` do, from how they ended.
use Rattle.std.proofs.Common.{◌≡◌, ◌⊎◌, ◌∙◌, inl, inr, ℕ, List, [], ◌∷◌, ap, refl, subst, sym, Option, Some, arith}
use Rattle.log_disk.specs.Disk.{Disk, HasRisen, IsSound as IsSoundDisk}
use Rattle.epoch_room.specs.Whole.{IsIdle}
use Rattle.fine_model.specs.declared.Options.{Options}
use Rattle.fine_model.specs.declared.Reason.{Reason}
use Rattle.fine_model.specs.declared.Reason.TheVariants as reason
use Rattle.fine_model.specs.declared.RunFault.TheVariants as run_fault
use Rattle.fine_model.specs.declared.ScriptTxn.{ScriptTxn}
use Rattle.fine_model.specs.Bounds.{FitsScript}
use Rattle.fine_model.specs.Headline.{OneOf}
use Rattle.fine_model.specs.Report.{reason_bytes}
use Rattle.fine_model.specs.Script.{script_of}
use Rattle.fine_model.specs.Words.{gen, run}
use Rattle.reopen.specs.declared.chain.Chain.{Chain}
use Rattle.reopen.specs.Opening.{SeesChain}
use Rattle.script_text.specs.Streams.{Puts}
use Rattle.fine_top.specs.Commands.{Does, seen}
use Rattle.fine_top.specs.Generating.{Ends as EndsGen, numbers}
use Rattle.fine_top.specs.Running.{Ended, Ends, EndsEarly, IsEnd, IsReason, IsRefused, LeavesBeside, SpellsScript, early, ran, reason_status, status_of, text_of}
use Rattle.fine_top.specs.Starting.{IsReadyToRun}
use Rattle.fine_top.proofs.AnyLog.{runs_any}
use Rattle.fine_top.proofs.Complete.{not_refused}
use Rattle.fine_top.proofs.Generated.{gens_well, tells_end}
use Rattle.fine_top.proofs.GeneratedAny.{gens_any}
use Rattle.fine_top.proofs.Listing.{reads_too}
use Rattle.fine_top.proofs.Theorem.{counts_of, run_statuses, runs_well, tells_run}

-- ---- a run

module _ (options : Options) (left : Option (List ℕ)) (source output : ℕ × ℕ) (old new : Disk) (status : ℕ) (was now : Option (List ℕ)) where
  of_run : (s : ℕ) → OneOf (0 ∷ 1 ∷ 6 ∷ 7 ∷ 8 ∷ []) s → OneOf (0 ∷ 1 ∷ 3 ∷ 4 ∷ 5 ∷ 6 ∷ 7 ∷ 8 ∷ []) s
  of_run s (inl is) = inl is
  of_run s (inr (inl is)) = inr (inl is)
  of_run s (inr (inr rest)) = inr (inr (inr (inr (inr rest))))

  known_end : (d : Ended) → IsEnd options (HasRisen source.0 source.1) left old new d → OneOf (0 ∷ 1 ∷ 3 ∷ 4 ∷ 5 ∷ 6 ∷ 7 ∷ 8 ∷ []) (status_of d)
  known_end (early reason.Words) end = absurd end.0
  known_end (early (reason.Script n)) end = inr (inr (inl refl))
  known_end (early reason.Source) end = inr (inr (inr (inl refl)))
  known_end (early (reason.Fault run_fault.Memory)) end = inr (inl refl)
  known_end (early (reason.Fault run_fault.Disk)) end = inr (inr (inr (inr (inr (inl refl)))))
  known_end (early (reason.Fault (run_fault.Damaged what))) end = inr (inr (inr (inr (inr (inr (inl refl))))))
  known_end (ran script r) end = of_run (status_of (ran script r)) (run_statuses r.outcomes r.fault)

  -- the script of such an end is one that the grammar takes
  taken : (bytes : List ℕ) → left ≡ Some bytes → IsRefused bytes → SpellsScript bytes → ⊥
  taken bytes left_is bad spelled = not_refused bad.0 (script_of bytes) spelled.0 spelled.1 bad.1

  refused_end : (d : Ended) → IsEnd options (HasRisen source.0 source.1) left old new d → (bytes : List ℕ) → left ≡ Some bytes → IsRefused bytes → OneOf (1 ∷ 3 ∷ 4 ∷ 5 ∷ []) (status_of d)
  refused_end (early reason.Words) end bytes left_is bad = absurd end.0
  refused_end (early (reason.Script n)) end bytes left_is bad = inr (inl refl)
  refused_end (early reason.Source) end bytes left_is bad = inr (inr (inl refl))
  refused_end (early (reason.Fault run_fault.Memory)) end bytes left_is bad = inl refl
  refused_end (early (reason.Fault run_fault.Disk)) end bytes left_is bad = absurd (taken bytes left_is bad (end.0 bytes left_is))
  refused_end (early (reason.Fault (run_fault.Damaged what))) end bytes left_is bad = absurd (taken bytes left_is bad (end.0.0 bytes left_is))
  refused_end (ran script r) end bytes left_is bad = absurd (taken bytes left_is bad (script, end.0 bytes left_is))

  untouched_end : (d : Ended) → IsEnd options (HasRisen source.0 source.1) left old new d → OneOf (3 ∷ 4 ∷ []) (status_of d) → new ≡ old
  untouched_end (early reason.Words) end is = absurd end.0
  untouched_end (early (reason.Script n)) end is = end.1.same (λ x. cc)
  untouched_end (early reason.Source) end is = end.1.same (λ x. cc)
  untouched_end (early (reason.Fault run_fault.Memory)) end is = end.1.same (λ x. cc)
  untouched_end (early (reason.Fault run_fault.Disk)) end is = absurd (grind (arith, is))
  untouched_end (early (reason.Fault (run_fault.Damaged what))) end is = end.1.same (λ x. cc)
  untouched_end (ran script r) end is = let known = run_statuses r.outcomes r.fault in absurd (grind (arith, known, is))

  source_end : (d : Ended) → IsEnd options (HasRisen source.0 source.1) left old new d → status_of d ≡ 4 → HasRisen source.0 source.1
  source_end (early reason.Words) end is = absurd end.0
  source_end (early (reason.Script n)) end is = absurd (omega (arith, is))
  source_end (early reason.Source) end is = end.0
  source_end (early (reason.Fault run_fault.Memory)) end is = absurd (omega (arith, is))
  source_end (early (reason.Fault run_fault.Disk)) end is = absurd (omega (arith, is))
  source_end (early (reason.Fault (run_fault.Damaged what))) end is = absurd (omega (arith, is))
  source_end (ran script r) end is = let known = run_statuses r.outcomes r.fault in absurd (grind (arith, known, is))

  same_beside : old.eyes ≡ [] → new ≡ old → LeavesBeside old new
  same_beside none same = record { regions = ap (λ (d : Disk). d.regions) same; region_len = ap (λ (d : Disk). d.region_len) same; no_eyes = ap (λ (d : Disk). d.eyes) same ∙ none }

  early_beside : (r : Reason) → old.eyes ≡ [] → EndsEarly r old new → LeavesBeside old new
  early_beside reason.Words none end = same_beside none (end.same (λ x. cc))
  early_beside (reason.Script n) none end = same_beside none (end.same (λ x. cc))
  early_beside reason.Source none end = same_beside none (end.same (λ x. cc))
  early_beside (reason.Fault run_fault.Memory) none end = same_beside none (end.same (λ x. cc))
  early_beside (reason.Fault run_fault.Disk) none end = let b = (end.failed refl).beside in record { regions = b.regions; region_len = b.region_len; no_eyes = b.eyes ∙ none }
  early_beside (reason.Fault (run_fault.Damaged what)) none end = same_beside none (end.same (λ x. cc))

  beside_end : (d : Ended) → IsEnd options (HasRisen source.0 source.1) left old new d → old.eyes ≡ [] → LeavesBeside old new
  beside_end (early r) end none = early_beside r none end.1
  beside_end (ran script r) end none = end.1.beside

  pub run_does : IsIdle old → IsSoundDisk old → (status ≡ 5 → HasRisen output.0 output.1) → Ends options (HasRisen source.0 source.1) left old new status was now → Does (Some (run options)) (seen left source output old new status was now)
  run_does idle sound output_failed en =
      let tells = tells_run options source output left old new status was now en in
      let counts = counts_of options source output left old new status was now source_failed output_failed en in
      record {
        leaves = record {
          status_is = known;
          source_failed = source_failed;
          output_failed = output_failed;
          disk_failed = counts.disk;
          disk_told = λ rose. told (counts.told rose);
          damaged = tells.damaged;
          opened = tells.opened;
          untouched = λ few. by few;
          beside = beside_end en.ended en.is_end idle.no_eyes;
          time = tells.told;
          still = λ c is reads. absurd (reads_too (run options) c is reads);
        };
        own = record {
          ends = en;
          run = runs_well options source output left old new status was now source_failed output_failed sound idle.synced en;
          any = runs_any options source output left old new status was now source_failed output_failed en;
          script = tells.script;
          refused = λ bytes left_is bad. refused (refused_end en.ended en.is_end bytes left_is bad);
        };
      }
    where
      source_failed : status ≡ 4 → HasRisen source.0 source.1
      source_failed four = elim en.status_is as (λ _. HasRisen source.0 source.1) [ inl five ↦ absurd (omega (arith, four, five)) | inr is ↦ source_end en.ended en.is_end (sym is ∙ four) ]

      known : OneOf (0 ∷ 1 ∷ 3 ∷ 4 ∷ 5 ∷ 6 ∷ 7 ∷ 8 ∷ []) status
      known = elim en.status_is as (λ _. OneOf (0 ∷ 1 ∷ 3 ∷ 4 ∷ 5 ∷ 6 ∷ 7 ∷ 8 ∷ []) status) [ inl five ↦ inr (inr (inr (inr (inl five)))) | inr is ↦ subst (OneOf (0 ∷ 1 ∷ 3 ∷ 4 ∷ 5 ∷ 6 ∷ 7 ∷ 8 ∷ [])) (sym is) (known_end en.ended en.is_end) ]

      told : (status ≡ 1) ⊎ (status ≡ 5) ⊎ (status ≡ 6) → OneOf (1 ∷ 5 ∷ 6 ∷ []) status
      told (inl one) = inl one
      told (inr (inl five)) = inr (inl five)
      told (inr (inr six)) = inr (inr (inl six))

      refused : OneOf (1 ∷ 3 ∷ 4 ∷ 5 ∷ []) (status_of en.ended) → OneOf (1 ∷ 3 ∷ 4 ∷ 5 ∷ []) status
      refused few = elim en.status_is as (λ _. OneOf (1 ∷ 3 ∷ 4 ∷ 5 ∷ []) status) [ inl five ↦ inr (inr (inr (inl five))) | inr is ↦ subst (OneOf (1 ∷ 3 ∷ 4 ∷ 5 ∷ [])) (sym is) few ]

      untouched : OneOf (3 ∷ 4 ∷ []) status → new ≡ old
      untouched few = elim en.status_is as (λ _. new ≡ old) [ inl five ↦ absurd (grind (arith, few, five)) | inr is ↦ untouched_end en.ended en.is_end (subst (OneOf (3 ∷ 4 ∷ [])) is few) ]

      by : OneOf (2 ∷ 3 ∷ 4 ∷ []) status → new ≡ old
      by (inl two) = absurd (grind (arith, known, two))
      by (inr rest) = untouched rest

-- ---- the steps of the calls

-- a call that ends for a reason before anything is run
pub early_run : (options : Options) (source_rose : Type 0) (left : Option (List ℕ)) (old new : Disk) (status : ℕ) (was now : Option (List ℕ)) (r : Reason) → IsReason source_rose left old r → EndsEarly r old new → (status ≡ 5) ⊎ (status ≡ reason_status r)
    → Puts (reason_bytes r) (status ≡ 5) was now → Ends options source_rose left old new status was now
unfolding text_of
early_run options source_rose left old new status was now r why leaves is puts = record { ended = early r; is_end = (why, leaves); status_is = is; printed = puts }

-- the log was opened, and its disk is as it was
pub ready_to_run : (script : List ScriptTxn) (old mid : Disk) (chain : Chain) → mid ≡ old → IsIdle old → SeesChain old chain → FitsScript script → IsReadyToRun script mid chain
ready_to_run script old mid chain same idle sees fits = let ready : IsReadyToRun script old chain = record { idle = idle; sees = sees; fits = fits } in subst (λ d. IsReadyToRun script d chain) (sym same) ready

-- ---- a generated run

pub gen_does : (start count lanes : ℕ) (left : Option (List ℕ)) (source output : ℕ × ℕ) (old new : Disk) (status : ℕ) (was now : Option (List ℕ)) → IsIdle old → IsSoundDisk old → (status ≡ 5 → HasRisen output.0 output.1)
    → EndsGen (numbers start count lanes) old new status was now → Does (Some (gen start count lanes)) (seen left source output old new status was now)
gen_does start count lanes left source output old new status was now idle sound output_failed en =
    let n = numbers start count lanes in
    let tells = tells_end n output old new status was now output_failed idle en in
    let known = tells.known in
    record {
      leaves = record {
        status_is = known;
        source_failed = λ four. absurd (grind (arith, known, four));
        output_failed = output_failed;
        disk_failed = tells.disk_failed;
        disk_told = tells.disk_told;
        damaged = tells.damaged;
        opened = tells.opened;
        untouched = λ few. absurd (grind (arith, known, few));
        beside = tells.beside;
        time = tells.told;
        still = λ c is reads. absurd (reads_too (gen start count lanes) c is reads);
      };
      own = record { ends = en; gen = gens_well n output old new status was now output_failed idle sound en; any = gens_any n output old new status was now output_failed idle.no_eyes en };
    }
