-- What a command printed, from how it ended.
use Rattle.std.proofs.Common.{◌≡◌, ◌⊎◌, inl, inr, ℕ, ◌-◌, ◌<◌, ◌≤◌, leb, true, false, List, ◌++◌, take, drop, refl, sym, ap, ◌∙◌, Option, Some, Result, Ok, Err, arith, take-append-drop}
use Rattle.std.proofs.lemmas.Bool.Decides.{leb_tells}
use Rattle.log_disk.specs.Disk.{HasRisen, last_count}
use Rattle.fine_model.specs.declared.Damage.{Damage}
use Rattle.fine_model.specs.declared.RunFault.{RunFault}
use Rattle.fine_model.specs.declared.RunFault.TheVariants as run_fault
use Rattle.fine_model.specs.Commands.{PrintsOnce}
use Rattle.fine_model.specs.Headline.{IsFrontOf, MayFail, Return}
use Rattle.fine_model.specs.Report.{fault_line}
use Rattle.script_text.specs.Streams.{Puts, behind}
use Rattle.log_commands.specs.Ends.{status_of, text_by}

pub wrote_all : (text : List ℕ) (failed : Type 0) (was now : Option (List ℕ)) (first : List ℕ) → Puts text failed was now → (failed → ⊥) → was ≡ Some first → now ≡ Some (first ++ text)
wrote_all text failed was now first p fine is = p.whole fine ∙ ap (λ o. behind o text) is

pub wrote_front : (text : List ℕ) (failed : Type 0) (was now : Option (List ℕ)) (first : List ℕ) → Puts text failed was now → was ≡ Some first
    → (written : List ℕ) × (now ≡ Some (first ++ written)) × IsFrontOf written text
wrote_front text failed was now first p is =
    let q = p.part in (take q.0 text, q.1 ∙ ap (λ o. behind o (take q.0 text)) is, (drop q.0 text, sym (take-append-drop q.0 text)))

-- a count that has risen is greater, or stands at its last value
pub risen_by : (before now : ℕ) → HasRisen before now → (1 ≤ now - before) ⊎ (last_count ≤ now)
risen_by before now risen = by (leb_tells last_count now)
  where
    by : ((leb last_count now ≡ true) × (last_count ≤ now)) ⊎ ((leb last_count now ≡ false) × (now < last_count)) → (1 ≤ now - before) ⊎ (last_count ≤ now)
    by (inl at) = inr at.1
    by (inr below) = inl (let low = below.1 in omega (arith, risen, low))

module _ (Found : Type 0) (text : Found → List ℕ) (back : Return) (P : Damage → Type 0) (whole : List ℕ → Type 0) (IsFound : Result Found RunFault → Type 0) (status : ℕ) (was now : Option (List ℕ)) (first : List ℕ) (was_is : was ≡ Some first)
    (of_text : (found : Found) → IsFound (Ok found) → whole (text found)) (of_fault : (fault : RunFault) → IsFound (Err fault) → MayFail back P fault)
    (no_rise : (found : Found) → IsFound (Ok found) → 1 ≤ back.rise → ⊥) (no_rise_damaged : (what : Damage) → IsFound (Err (run_fault.Damaged what)) → 1 ≤ back.rise → ⊥) (rose : status ≡ 5 → back.output_rose) where
  abbrev Printed : Type 0
  Printed = (written : List ℕ) × (now ≡ Some (first ++ written)) × PrintsOnce back P whole status written

  front : (written : List ℕ) (found : Result Found RunFault) → IsFound found → IsFrontOf written (text_by text found)
      → ((all : List ℕ) × whole all × IsFrontOf written all) ⊎ ((fault : RunFault) × MayFail back P fault × IsFrontOf written (fault_line fault))
  front written (Ok own) is f = inl (text own, of_text own is, f)
  front written (Err fault) is f = inr (fault, of_fault fault is, f)

  cut : (found : Result Found RunFault) → IsFound found → Puts (text_by text found) (status ≡ 5) was now → status ≡ 5 → Printed
  cut found is p five =
      let w = wrote_front (text_by text found) (status ≡ 5) was now first p was_is in (
        w.0,
        w.1,
        record {
          done = λ e. absurd (omega (arith, e, five));
          memory = λ e. absurd (omega (arith, e, five));
          failed = λ e. absurd (omega (arith, e, five));
          damaged = λ e. absurd (omega (arith, e, five));
          cut_short = λ e. front w.0 found is w.2;
          others = inr (inr (inl five));
          faults = record { source = λ e. absurd (omega (arith, e, five)); output = rose; disk = λ e. absurd (omega (arith, e, five)); told = λ r. inr (inl five) };
        },
      )

  all : (found : Result Found RunFault) → IsFound found → Puts (text_by text found) (status ≡ 5) was now → status ≡ status_of found → Printed
  all (Ok own) is p s = (
    text own,
    wrote_all (text own) (status ≡ 5) was now first p (λ e. omega (arith, e, s)) was_is,
    record {
      done = λ e. of_text own is;
      memory = λ e. absurd (omega (arith, e, s));
      failed = λ e. absurd (omega (arith, e, s));
      damaged = λ e. absurd (omega (arith, e, s));
      cut_short = λ e. absurd (omega (arith, e, s));
      others = inl s;
      faults = record { source = λ e. absurd (omega (arith, e, s)); output = rose; disk = λ e. absurd (omega (arith, e, s)); told = λ r. absurd (no_rise own is r) };
    },
  )
  all (Err run_fault.Memory) is p s = (
    fault_line run_fault.Memory,
    wrote_all (fault_line run_fault.Memory) (status ≡ 5) was now first p (λ e. omega (arith, e, s)) was_is,
    record {
      done = λ e. absurd (omega (arith, e, s));
      memory = λ e. refl;
      failed = λ e. absurd (omega (arith, e, s));
      damaged = λ e. absurd (omega (arith, e, s));
      cut_short = λ e. absurd (omega (arith, e, s));
      others = inr (inl s);
      faults = record { source = λ e. absurd (omega (arith, e, s)); output = rose; disk = λ e. absurd (omega (arith, e, s)); told = λ r. inl s };
    },
  )
  all (Err run_fault.Disk) is p s = (
    fault_line run_fault.Disk,
    wrote_all (fault_line run_fault.Disk) (status ≡ 5) was now first p (λ e. omega (arith, e, s)) was_is,
    record {
      done = λ e. absurd (omega (arith, e, s));
      memory = λ e. absurd (omega (arith, e, s));
      failed = λ e. refl;
      damaged = λ e. absurd (omega (arith, e, s));
      cut_short = λ e. absurd (omega (arith, e, s));
      others = inr (inr (inr (inl s)));
      faults = record { source = λ e. absurd (omega (arith, e, s)); output = rose; disk = λ e. of_fault run_fault.Disk is; told = λ r. inr (inr s) };
    },
  )
  all (Err (run_fault.Damaged what)) is p s = (
    fault_line (run_fault.Damaged what),
    wrote_all (fault_line (run_fault.Damaged what)) (status ≡ 5) was now first p (λ e. omega (arith, e, s)) was_is,
    record {
      done = λ e. absurd (omega (arith, e, s));
      memory = λ e. absurd (omega (arith, e, s));
      failed = λ e. absurd (omega (arith, e, s));
      damaged = λ e. (what, of_fault (run_fault.Damaged what) is, refl);
      cut_short = λ e. absurd (omega (arith, e, s));
      others = inr (inr (inr (inr (inl s))));
      faults = record { source = λ e. absurd (omega (arith, e, s)); output = rose; disk = λ e. absurd (omega (arith, e, s)); told = λ r. absurd (no_rise_damaged what is r) };
    },
  )

  pub printed : (found : Result Found RunFault) → IsFound found → (status ≡ 5) ⊎ (status ≡ status_of found) → Puts (text_by text found) (status ≡ 5) was now → Printed
  printed found is (inl five) puts = cut found is puts five
  printed found is (inr s) puts = all found is puts s
