-- The theorem of a generated run on any log that the disk tells, sound or not, from how the call ended.
use Rattle.std.proofs.Common.{◌≡◌, ◌⊎◌, inl, inr, ℕ, Bool, true, false, cond, List, [], ◌∷◌, ◌++◌, refl, sym, ap, ◌∙◌, subst, Option, Some, None, Result, Ok, Err, arith}
use Rattle.std.specs.List.{list_any}
use Rattle.log_disk.specs.Disk.{Disk, HasRisen, Told, clock_of}
use Rattle.fine_model.specs.declared.Damage.{Damage}
use Rattle.fine_model.specs.declared.Outcome.{Outcome}
use Rattle.fine_model.specs.declared.Part.{Part}
use Rattle.fine_model.specs.declared.Ran.{Ran}
use Rattle.fine_model.specs.declared.RunFault.{RunFault}
use Rattle.fine_model.specs.declared.RunFault.TheVariants as run_fault
use Rattle.fine_model.specs.Chain.{chain}
use Rattle.fine_model.specs.Commands.{GenDamagedTheorem, Summarizes, are_durable, fault_summary, summary}
use Rattle.fine_model.specs.Damages.{HasNoChain, IsDurableFor, PrintsDamage, PrintsFaultOf, Running}
use Rattle.fine_model.specs.Headline.{DiskRose, HasStatus, IsFrontOf, OneOf, Return, TellsFaults}
use Rattle.fine_model.specs.Map.{Pair}
use Rattle.fine_model.specs.Outcomes.{is_refused}
use Rattle.fine_model.specs.Report.{all_outcomes, damage_line, fault_line}
use Rattle.log_commands.specs.Ends.{fault_status}
use Rattle.log_commands.specs.Found.{FindsChain}
use Rattle.log_commands.proofs.Printed.{risen_by, wrote_all, wrote_front}
use Rattle.log_commands.proofs.Ranges.{told_chain}
use Rattle.run_laws.specs.Law.{return_of}
use Rattle.fine_top.specs.Generating.{Ended, Ends, GensAny, IsCounted, IsEnd, Numbers, counted, counted_status, counted_text, early, script_by, status_of, text_of}
use Rattle.fine_top.proofs.Chainless.{unsound}
use Rattle.fine_top.proofs.Generated.{disk_failed, disk_told, finds_told, time, told_after}
use Rattle.fine_top.proofs.Saying.{Says, any_front, any_whole, damaged_says, done_says, failed_says, memory_says}
use Rattle.fine_top.proofs.Theorem.{status_all}

-- no end has the status of an output that failed
five_fault : (f : RunFault) → fault_status f ≡ 5 → ⊥
five_fault run_fault.Memory is = omega (arith, is)
five_fault run_fault.Disk is = omega (arith, is)
five_fault (run_fault.Damaged what) is = omega (arith, is)

five : (d : Ended) → status_of d ≡ 5 → ⊥
five (early fault) is = five_fault fault is
five (counted ran all_durable (Err fault)) is = five_fault fault is
five (counted ran all_durable (Ok pairs)) is = by (list_any is_refused ran.outcomes) is
  where
    by : (b : Bool) → cond {A = ℕ} b 8 0 ≡ 5 → ⊥
    by true is = omega (arith, is)
    by false is = omega (arith, is)

module _ (n : Numbers) (source output : ℕ × ℕ) (old new : Disk) (status : ℕ) (was now : Option (List ℕ)) (rose : status ≡ 5 → HasRisen output.0 output.1) where
  module _ (before after : Told) (old_is : old.told ≡ Some before) (new_is : new.told ≡ Some after) where
    abbrev back : Return
    back = return_of old new source output before after

    abbrev running : Running
    running = record { script = Ok (script_by n); statuses = 0 ∷ 1 ∷ 5 ∷ 6 ∷ 7 ∷ 8 ∷ []; prints = Summarizes n.start n.count n.lanes }

    abbrev Said : ℕ → List ℕ → Type 0
    Said = Says running old.region_len before.bytes back

    -- the three faults, with the statuses of `gen`
    memory_said : (text : List ℕ) → PrintsFaultOf running old.region_len before.bytes back run_fault.Memory 1 text → Said 1 text
    memory_said text is = memory_says running old.region_len before.bytes back text (inr (inl refl)) is

    failed_said : (text : List ℕ) → DiskRose back → PrintsFaultOf running old.region_len before.bytes back run_fault.Disk 6 text → Said 6 text
    failed_said text risen is = failed_says running old.region_len before.bytes back text (inr (inr (inr (inl refl)))) risen is

    damaged_said : (text : List ℕ) → PrintsDamage running old.region_len before.bytes back text → Said 7 text
    damaged_said text is = damaged_says running old.region_len before.bytes back text (inr (inr (inr (inr (inl refl))))) is

    -- ---- an early end

    still : (fault : RunFault) → FindsChain old new (Err fault) → clock_of after ≡ clock_of before
    still fault f = let same : ◌≡◌ {A = Option Told} (Some after) (Some before) = sym new_is ∙ finds_told n output old new status was now rose fault f ∙ old_is in let is : after ≡ before = cc in ap clock_of is

    early_says : (fault : RunFault) → FindsChain old new (Err fault) → Said (fault_status fault) (fault_line fault)
    early_says run_fault.Memory f = memory_said (fault_line run_fault.Memory) (inl (still run_fault.Memory f, refl))
    early_says run_fault.Disk f = failed_said (fault_line run_fault.Disk) (risen_by old.faults new.faults (f.counts.faults tt)) (inl (still run_fault.Disk f, refl))
    early_says (run_fault.Damaged what) f = damaged_said (fault_line (run_fault.Damaged what)) (what, unsound old what f.1 before old_is, inl (told_chain old (Err what) before old_is f.1, refl))

    -- ---- a run that was counted

    module _ (ran : Ran) (all_durable : Bool) (found : Result (List Pair) RunFault) (c : IsCounted n old new ran all_durable found) where
      abbrev outcomes : List Outcome
      outcomes = all_outcomes (script_by n) ran.outcomes

      chained : chain old.region_len before.bytes ≡ Ok c.chain.parts
      chained = told_chain old (Ok c.chain.parts) before old_is (record { image = c.sees.image; is_seen = c.sees.is_seen; is = c.sees.is_chain })

      -- with no fault
      done_as : ran.fault ≡ None → (pairs : List Pair) (s : ℕ) → HasStatus s ran.outcomes None → Summarizes n.start n.count n.lanes c.chain.parts c.history None s (counted_text n outcomes all_durable (Ok pairs))
      done_as none pairs s has = record {
        outcomes = outcomes;
        durable = ran.durable;
        are = c.behind.outcomes;
        durable_is = subst (λ f. IsDurableFor c.chain.parts c.history f ran.durable) none c.behind.durable;
        status_is = status_all (script_by n) ran.outcomes None s has;
        all_run = λ is. c.behind.all_run none;
        none = λ is. (pairs, ap (λ b. summary n.start n.count n.lanes outcomes (Some pairs) b) c.durable_is);
        some = λ f is. absurd (let e : ◌≡◌ {A = Option RunFault} None (Some f) = is in cc);
      }

      -- with a fault of the run, or of the reading behind it
      fault_as : (fault : RunFault) (s : ℕ) → HasStatus s ran.outcomes (Some fault) → Summarizes n.start n.count n.lanes c.chain.parts c.history (Some fault) s (counted_text n outcomes all_durable (Err fault))
      fault_as fault s has = record {
        outcomes = outcomes;
        durable = ran.durable;
        are = c.behind.outcomes;
        durable_is = let d = c.behind.durable in record { from_entry = d.from_entry; to_last = d.to_last; all = λ none. absurd (let e : ◌≡◌ {A = Option RunFault} (Some fault) None = none in cc) };
        status_is = status_all (script_by n) ran.outcomes (Some fault) s has;
        all_run = λ none. absurd (let e : ◌≡◌ {A = Option RunFault} (Some fault) None = none in cc);
        none = λ none. absurd (let e : ◌≡◌ {A = Option RunFault} (Some fault) None = none in cc);
        some = λ f is. let e : ◌≡◌ {A = Option RunFault} (Some fault) (Some f) = is in let same : fault ≡ f = cc in ap (λ b. fault_summary n.start n.count n.lanes outcomes b fault) c.durable_is ∙ ap (fault_summary n.start n.count n.lanes outcomes (are_durable c.history ran.durable)) same;
      }

    counted_says : (ran : Ran) (all_durable : Bool) (found : Result (List Pair) RunFault) (c : IsCounted n old new ran all_durable found)
        → Said (counted_status ran.outcomes found) (counted_text n (all_outcomes (script_by n) ran.outcomes) all_durable found)
    counted_says ran all_durable (Ok pairs) c =
        done_says running old.region_len before.bytes back (counted_text n (all_outcomes (script_by n) ran.outcomes) all_durable (Ok pairs)) (list_any is_refused ran.outcomes) (inl refl) (inr (inr (inr (inr (inr (inl refl))))))
        (c.chain.parts, c.history, chained ran all_durable (Ok pairs) c, done_as ran all_durable (Ok pairs) c (by ran.fault refl) pairs (cond {A = ℕ} (list_any is_refused ran.outcomes) 8 0) refl)
      where
        by : (f : Option RunFault) → ran.fault ≡ f → ran.fault ≡ None
        by None at = at
        by (Some fault) at = absurd (let x : ◌≡◌ {A = Result (List Pair) RunFault} (Ok pairs) (Err fault) = c.fault_is fault at in cc)
    counted_says ran all_durable (Err run_fault.Memory) c = memory_said (counted_text n (all_outcomes (script_by n) ran.outcomes) all_durable (Err run_fault.Memory))
        (inr (c.chain.parts, c.history, chained ran all_durable (Err run_fault.Memory) c, fault_as ran all_durable (Err run_fault.Memory) c run_fault.Memory 1 refl))
    counted_says ran all_durable (Err run_fault.Disk) c = failed_said (counted_text n (all_outcomes (script_by n) ran.outcomes) all_durable (Err run_fault.Disk)) (risen_by old.faults new.faults (c.only_risen refl))
        (inr (c.chain.parts, c.history, chained ran all_durable (Err run_fault.Disk) c, fault_as ran all_durable (Err run_fault.Disk) c run_fault.Disk 6 refl))
    counted_says ran all_durable (Err (run_fault.Damaged what)) c =
        let found : Result (List Pair) RunFault = Err (run_fault.Damaged what) in
        damaged_said (counted_text n (all_outcomes (script_by n) ran.outcomes) all_durable (Err (run_fault.Damaged what))) (
          what,
          c.unsound what refl before old_is,
          inr (
            c.chain.parts,
            c.history,
            chained ran all_durable (Err (run_fault.Damaged what)) c,
            c.placed what refl,
            inr (fault_as ran all_durable (Err (run_fault.Damaged what)) c (run_fault.Damaged what) 7 refl),
          ),
        )

    -- ---- any end

    says : (d : Ended) → IsEnd n old new d → Said (status_of d) (text_of n d)
    unfolding text_of
    says (early fault) end = early_says fault end
    says (counted ran all_durable found) end = counted_says ran all_durable found end

    -- ---- a log without a chain

    chainless : (fault : RunFault) → FindsChain old new (Err fault) → (what : Damage) → chain old.region_len before.bytes ≡ Err what → (s : ℕ) → s ≡ fault_status fault → OneOf (1 ∷ 3 ∷ 4 ∷ 5 ∷ 6 ∷ 7 ∷ []) s × (s ≡ 7 → fault_line fault ≡ damage_line what)
    chainless run_fault.Memory f what none s is = (inl is, λ e. absurd (omega (arith, is, e)))
    chainless run_fault.Disk f what none s is = (inr (inr (inr (inr (inl is)))), λ e. absurd (omega (arith, is, e)))
    chainless (run_fault.Damaged other) f what none s is =
        let same : ◌≡◌ {A = Result (List Part) Damage} (Err other) (Err what) = sym (told_chain old (Err other) before old_is f.1) ∙ none in
        let one : other ≡ what = cc in
        (inr (inr (inr (inr (inr (inl is))))), λ e. ap damage_line one)

    no_chain : (d : Ended) → IsEnd n old new d → (written : List ℕ) → ((status ≡ 5) ⊎ ((status ≡ status_of d) × (written ≡ text_of n d))) → (what : Damage) → chain old.region_len before.bytes ≡ Err what → HasNoChain (new.told ≡ old.told) what status written
    unfolding text_of
    no_chain (early fault) end written (inl failed) what none =
        record { disk = finds_told n output old new status was now rose fault end; status_is = inr (inr (inr (inl failed))); printed = λ e. absurd (omega (arith, failed, e)) }
    no_chain (early fault) end written (inr (fine, text)) what none =
        let c = chainless fault end what none status fine in
        record { disk = finds_told n output old new status was now rose fault end; status_is = c.0; printed = λ e. text ∙ c.1 e }
    no_chain (counted ran all_durable found) end written how what none =
        absurd (let both : ◌≡◌ {A = Result (List Part) Damage} (Ok end.chain.parts) (Err what) = sym (chained ran all_durable found end) ∙ none in cc)

    -- ---- the theorem

    module _ (faults : TellsFaults back status) (d : Ended) (end : IsEnd n old new d) (written : List ℕ) where
      by_whole : written ≡ text_of n d → status ≡ status_of d → GenDamagedTheorem n.start n.count n.lanes old.region_len before.bytes back (new.told ≡ old.told) status written
      by_whole text is =
          any_whole running old.region_len before.bytes back (new.told ≡ old.told) status written (no_chain d end written (inr (is, text))) faults
          (subst (λ s. Said s written) (sym is) (subst (Said (status_of d)) (sym text) (says d end)))

      by_front : IsFrontOf written (text_of n d) → status ≡ 5 → GenDamagedTheorem n.start n.count n.lanes old.region_len before.bytes back (new.told ≡ old.told) status written
      by_front front is =
          any_front running old.region_len before.bytes back (new.told ≡ old.told) status written (no_chain d end written (inl is)) faults (status_of d) (text_of n d) (says d end) front (inr (inr (inl is))) is

-- how a call ended tells it
pub gens_any : (n : Numbers) (output : ℕ × ℕ) (old new : Disk) (status : ℕ) (was now : Option (List ℕ)) → (status ≡ 5 → HasRisen output.0 output.1) → old.eyes ≡ [] → Ends n old new status was now → GensAny n output old new status was now
gens_any n output old new status was now rose no_eyes en = record { holds = λ source first before was_is old_is. of_end source first before was_is old_is }
  where
    of_end : (source : ℕ × ℕ) (first : List ℕ) (before : Told) → was ≡ Some first → old.told ≡ Some before
        → (after : Told) × (new.told ≡ Some after) × (written : List ℕ) × (now ≡ Some (first ++ written))
        × GenDamagedTheorem n.start n.count n.lanes old.region_len before.bytes (return_of old new source output before after) (new.told ≡ old.told) status written
    of_end source first before was_is old_is = by en.status_is
      where
        told : (after : Told) × (new.told ≡ Some after)
        told = told_after n output old new status was now rose before old_is (time n output old new status was now rose en.ended en.is_end)

        known : (status ≡ 5) ⊎ (status ≡ status_of en.ended) → status ≡ 4 → ⊥
        known (inl failed) four = omega (arith, failed, four)
        known (inr is) four = no_four en.ended (sym is ∙ four)
          where
            of_fault : (f : RunFault) → fault_status f ≡ 4 → ⊥
            of_fault run_fault.Memory e = omega (arith, e)
            of_fault run_fault.Disk e = omega (arith, e)
            of_fault (run_fault.Damaged what) e = omega (arith, e)

            of_done : (b : Bool) → cond {A = ℕ} b 8 0 ≡ 4 → ⊥
            of_done true e = omega (arith, e)
            of_done false e = omega (arith, e)

            no_four : (d : Ended) → status_of d ≡ 4 → ⊥
            no_four (early fault) e = of_fault fault e
            no_four (counted ran all_durable (Err fault)) e = of_fault fault e
            no_four (counted ran all_durable (Ok pairs)) e = of_done (list_any is_refused ran.outcomes) e

        -- where the disk's count rose, one of three statuses comes
        one_of_three : OneOf (1 ∷ 5 ∷ 6 ∷ []) status → (status ≡ 1) ⊎ (status ≡ 5) ⊎ (status ≡ 6)
        one_of_three (inl one) = inl one
        one_of_three (inr (inl failed)) = inr (inl failed)
        one_of_three (inr (inr (inl six))) = inr (inr six)
        one_of_three (inr (inr (inr none))) = absurd none

        faults : TellsFaults (return_of old new source output before told.0) status
        faults = record {
          source = λ four. absurd (known en.status_is four);
          output = rose;
          disk = λ six. risen_by old.faults new.faults (disk_failed n output old new status was now rose en.ended en.is_end en.status_is no_eyes six);
          told = λ more. one_of_three (disk_told n output old new status was now rose en.ended en.is_end en.status_is no_eyes (omega (arith, more)));
        }

        by : (status ≡ 5) ⊎ (status ≡ status_of en.ended) → (after : Told) × (new.told ≡ Some after) × (written : List ℕ) × (now ≡ Some (first ++ written))
            × GenDamagedTheorem n.start n.count n.lanes old.region_len before.bytes (return_of old new source output before after) (new.told ≡ old.told) status written
        by (inl failed) =
            let w = wrote_front (text_of n en.ended) (status ≡ 5) was now first en.printed was_is in
            (told.0, told.1, w.0, w.1, by_front n source output old new status was now rose before told.0 old_is told.1 faults en.ended en.is_end w.0 w.2 failed)
        by (inr fine) = (
          told.0,
          told.1,
          text_of n en.ended,
          wrote_all (text_of n en.ended) (status ≡ 5) was now first en.printed (λ failed. five en.ended (sym fine ∙ failed)) was_is,
          by_whole n source output old new status was now rose before told.0 old_is told.1 faults en.ended en.is_end (text_of n en.ended) refl fine,
        )
