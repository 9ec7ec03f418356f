-- What the text of an end says by its status, of `run` and of `gen`, on any log that the disk tells; and the theorem that it gives.
use Rattle.std.proofs.Common.{◌≡◌, ◌⊎◌, inl, inr, ℕ, Bool, true, false, cond, List, [], ◌∷◌, refl, subst, arith, Err}
use Rattle.fine_model.specs.declared.Damage.{Damage}
use Rattle.fine_model.specs.declared.RunFault.{RunFault}
use Rattle.fine_model.specs.declared.RunFault.TheVariants as run_fault
use Rattle.fine_model.specs.Chain.{chain}
use Rattle.fine_model.specs.Damages.{DamagedTheorem, HasNoChain, PrintsDamage, PrintsFaultOf, PrintsRun, PrintsWhole, Running}
use Rattle.fine_model.specs.Headline.{DiskRose, IsFrontOf, OneOf, ReasonFor, Return, TellsFaults}
use Rattle.fine_model.specs.Regions.{Image}

module _ (running : Running) (region_len : ℕ) (entry : Image) (back : Return) where
  abbrev pub Damaged : List ℕ → Type 0
  Damaged = PrintsDamage running region_len entry back

  abbrev pub Done : ℕ → List ℕ → Type 0
  Done = PrintsRun running region_len entry

  abbrev pub Fault : RunFault → ℕ → List ℕ → Type 0
  Fault = PrintsFaultOf running region_len entry back

  -- what a status, which is not that of an output that failed, says of its text
  pub record Says (s : ℕ) (text : List ℕ) : Type 0 where
    pub known : OneOf (0 ∷ 1 ∷ 3 ∷ 4 ∷ 6 ∷ 7 ∷ 8 ∷ []) s
    pub of_command : OneOf running.statuses s
    pub damaged : s ≡ 7 → Damaged text
    pub done : (s ≡ 0) ⊎ (s ≡ 8) → Done s text
    pub memory : s ≡ 1 → Fault run_fault.Memory s text
    pub failed : s ≡ 6 → DiskRose back × Fault run_fault.Disk s text
    pub refused : (s ≡ 3) ⊎ (s ≡ 4) → ReasonFor s running.script text
    pub source_rose : s ≡ 4 → back.source_rose

  pub memory_says : (text : List ℕ) → OneOf running.statuses 1 → Fault run_fault.Memory 1 text → Says 1 text
  memory_says text one is = record {
    known = inr (inl refl);
    of_command = one;
    damaged = λ e. absurd (omega (arith, e));
    done = λ e. absurd (grind (arith, e));
    memory = λ e. is;
    failed = λ e. absurd (omega (arith, e));
    refused = λ e. absurd (grind (arith, e));
    source_rose = λ e. absurd (omega (arith, e));
  }

  pub failed_says : (text : List ℕ) → OneOf running.statuses 6 → DiskRose back → Fault run_fault.Disk 6 text → Says 6 text
  failed_says text one risen is = record {
    known = inr (inr (inr (inr (inl refl))));
    of_command = one;
    damaged = λ e. absurd (omega (arith, e));
    done = λ e. absurd (grind (arith, e));
    memory = λ e. absurd (omega (arith, e));
    failed = λ e. (risen, is);
    refused = λ e. absurd (grind (arith, e));
    source_rose = λ e. absurd (omega (arith, e));
  }

  pub damaged_says : (text : List ℕ) → OneOf running.statuses 7 → Damaged text → Says 7 text
  damaged_says text one is = record {
    known = inr (inr (inr (inr (inr (inl refl)))));
    of_command = one;
    damaged = λ e. is;
    done = λ e. absurd (grind (arith, e));
    memory = λ e. absurd (omega (arith, e));
    failed = λ e. absurd (omega (arith, e));
    refused = λ e. absurd (grind (arith, e));
    source_rose = λ e. absurd (omega (arith, e));
  }

  -- a reason why nothing was run, of the script or of its source
  pub reason_says : (s : ℕ) (text : List ℕ) → (s ≡ 3) ⊎ (s ≡ 4) → OneOf running.statuses s → ReasonFor s running.script text → (s ≡ 4 → back.source_rose) → Says s text
  reason_says s text either one why rose = record {
    known = by either;
    of_command = one;
    damaged = λ e. absurd (grind (arith, either, e));
    done = λ e. absurd (grind (arith, either, e));
    memory = λ e. absurd (grind (arith, either, e));
    failed = λ e. absurd (grind (arith, either, e));
    refused = λ e. why;
    source_rose = rose;
  }
    where
      by : (s ≡ 3) ⊎ (s ≡ 4) → OneOf (0 ∷ 1 ∷ 3 ∷ 4 ∷ 6 ∷ 7 ∷ 8 ∷ []) s
      by (inl is) = inr (inr (inl is))
      by (inr is) = inr (inr (inr (inl is)))

  -- what was run without a fault, whether any transaction was refused or none
  pub done_says : (text : List ℕ) (b : Bool) → OneOf running.statuses 0 → OneOf running.statuses 8 → Done (cond {A = ℕ} b 8 0) text → Says (cond {A = ℕ} b 8 0) text
  done_says text b none some is = by b none some is
    where
      at : (s : ℕ) → (s ≡ 0) ⊎ (s ≡ 8) → OneOf (0 ∷ 1 ∷ 3 ∷ 4 ∷ 6 ∷ 7 ∷ 8 ∷ []) s → OneOf running.statuses s → Done s text → Says s text
      at s either known one is = record {
        known = known;
        of_command = one;
        damaged = λ e. absurd (grind (arith, either, e));
        done = λ e. is;
        memory = λ e. absurd (grind (arith, either, e));
        failed = λ e. absurd (grind (arith, either, e));
        refused = λ e. absurd (grind (arith, either, e));
        source_rose = λ e. absurd (grind (arith, either, e));
      }

      by : (b : Bool) → OneOf running.statuses 0 → OneOf running.statuses 8 → Done (cond {A = ℕ} b 8 0) text → Says (cond {A = ℕ} b 8 0) text
      by true none some is = at 8 (inr refl) (inr (inr (inr (inr (inr (inr (inl refl))))))) some is
      by false none some is = at 0 (inl refl) (inl refl) none is

  whole : (s : ℕ) (text : List ℕ) → Says s text → PrintsWhole running region_len entry back text
  whole s text y = by y.known
    where
      by : OneOf (0 ∷ 1 ∷ 3 ∷ 4 ∷ 6 ∷ 7 ∷ 8 ∷ []) s → PrintsWhole running region_len entry back text
      by (inl is) = inr (inl (subst (λ n. Done n text) is (y.done (inl is))))
      by (inr (inl is)) = inr (inr (inr (inl (subst (λ n. Fault run_fault.Memory n text) is (y.memory is)))))
      by (inr (inr (inl is))) = inr (inr (inr (inr (inr (inl (subst (λ n. ReasonFor n running.script text) is (y.refused (inl is))))))))
      by (inr (inr (inr (inl is)))) = inr (inr (inr (inr (inr (inr (y.source_rose is, subst (λ n. ReasonFor n running.script text) is (y.refused (inr is))))))))
      by (inr (inr (inr (inr (inl is))))) = let f = y.failed is in inr (inr (inr (inr (inl (f.0, subst (λ n. Fault run_fault.Disk n text) is f.1)))))
      by (inr (inr (inr (inr (inr (inl is)))))) = inl (y.damaged is)
      by (inr (inr (inr (inr (inr (inr (inl is))))))) = inr (inr (inl (subst (λ n. Done n text) is (y.done (inr is)))))
      by (inr (inr (inr (inr (inr (inr (inr none))))))) = absurd none

  -- ---- the theorem

  module _ (still_told : Type 0) (status : ℕ) (written : List ℕ) (no_chain : (what : Damage) → chain region_len entry ≡ Err what → HasNoChain still_told what status written) (faults : TellsFaults back status) where
    abbrev Theorem : Type 0
    Theorem = DamagedTheorem running region_len entry back still_told status written

    -- the text was written whole
    pub any_whole : Says status written → Theorem
    any_whole y = record {
      known = y.of_command;
      unsound = λ seven. (y.damaged seven).1;
      damaged = y.damaged;
      done = y.done;
      memory = y.memory;
      failed = λ six. (y.failed six).1;
      refused = y.refused;
      cut_short = λ failed. absurd (not_five y.known failed);
      no_chain = no_chain;
      faults = faults;
    }
      where
        not_five : OneOf (0 ∷ 1 ∷ 3 ∷ 4 ∷ 6 ∷ 7 ∷ 8 ∷ []) status → status ≡ 5 → ⊥
        not_five known is = grind (arith, known, is)

    -- or a first part of it
    pub any_front : (s : ℕ) (text : List ℕ) → Says s text → IsFrontOf written text → OneOf running.statuses status → status ≡ 5 → Theorem
    any_front s text y front one is = record {
      known = one;
      unsound = λ e. absurd (omega (arith, is, e));
      damaged = λ e. absurd (omega (arith, is, e));
      done = λ e. absurd (grind (arith, is, e));
      memory = λ e. absurd (omega (arith, is, e));
      failed = λ e. absurd (omega (arith, is, e));
      refused = λ e. absurd (grind (arith, is, e));
      cut_short = λ e. (text, whole s text y, front);
      no_chain = no_chain;
      faults = faults;
    }
