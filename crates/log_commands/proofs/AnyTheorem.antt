-- What `merge` does on every log that the disk tells, from how the command ended.
use Rattle.std.proofs.Common.{◌≡◌, ◌⊎◌, ◌∙◌, inl, inr, ℕ, List, ◌++◌, refl, sym, ap, subst, Option, Some, Result, Ok, Err}
use Rattle.log_disk.specs.Disk.{Disk, HasRisen, Told}
use Rattle.fine_model.specs.declared.Damage.{Damage}
use Rattle.fine_model.specs.declared.Part.{Part}
use Rattle.fine_model.specs.declared.RunFault.{RunFault}
use Rattle.fine_model.specs.declared.RunFault.TheVariants as run_fault
use Rattle.fine_model.specs.Chain.{chain, chain_end}
use Rattle.fine_model.specs.Commands.{PrintsOnce}
use Rattle.fine_model.specs.Damages.{IsBadOf, IsDamage, IsUnsound}
use Rattle.fine_model.specs.Headline.{MayFail, Return}
use Rattle.fine_model.specs.Report.{ranges}
use Rattle.run_laws.specs.Law.{return_of}
use Rattle.log_commands.specs.Ends.{Ends, MergesAnyWell}
use Rattle.log_commands.specs.Found.{IsUntouched, SeesLog}
use Rattle.log_commands.specs.Merged.{IsDamaged, MergesLog}
use Rattle.log_commands.proofs.MergeTheorem.{damaged, keeps_log, none_rose, told_after}
use Rattle.log_commands.proofs.Printed.{printed, risen_by}
use Rattle.log_commands.proofs.Ranges.{told_chain}

module _ (old new : Disk) (status : ℕ) (was now : Option (List ℕ)) (ends : Ends (MergesLog old new) status was now) (output : ℕ × ℕ) (rose : status ≡ 5 → HasRisen output.0 output.1) where
  module _ (source : ℕ × ℕ) (first : List ℕ) (before : Told) (was_is : was ≡ Some first) (old_is : old.told ≡ Some before) where
    abbrev after : Told
    after = (told_after old new before (keeps_log old new status was now ends) old_is).0

    new_is : new.told ≡ Some after
    new_is = (told_after old new before (keeps_log old new status was now ends) old_is).1

    len_is : new.region_len ≡ old.region_len
    len_is = (keeps_log old new status was now ends).region_len

    abbrev back : Return
    back = return_of old new source output before after

    abbrev Named : Damage → Type 0
    Named = IsDamage old.region_len before.bytes (IsBadOf old.region_len before.bytes)

    abbrev Text : List ℕ → Type 0
    Text text = (before_parts after_parts : List Part) × (chain old.region_len before.bytes ≡ Ok before_parts) × (chain old.region_len after.bytes ≡ Ok after_parts) × (chain_end after_parts ≡ chain_end before_parts) × (text ≡ ranges after_parts)

    -- nothing was done to the bytes where the chain is damaged
    no_chain : (what : Damage) → chain old.region_len before.bytes ≡ Err what → new.told ≡ old.told
    no_chain what is = by (keeps_log old new status was now ends).begun
      where
        by : ((parts : List Part) × SeesLog old (Ok parts)) ⊎ IsUntouched old new → new.told ≡ old.told
        by (inl found) = absurd (let x : ◌≡◌ {A = Result (List Part) Damage} (Err what) (Ok found.0) = sym is ∙ told_chain old (Ok found.0) before old_is found.1 in cc)
        by (inr (inl same)) = ap (λ (d : Disk). d.told) same
        by (inr (inr fails)) = fails.told

    unsound : status ≡ 7 → IsUnsound old.region_len before.bytes
    unsound seven e rows shows sound = damaged old new status was now ends seven before e rows old_is shows

    of_text : (parts : List Part) → MergesLog old new (Ok parts) → Text (ranges parts)
    of_text parts m = (m.merges.before, parts, told_chain old (Ok m.merges.before) before old_is m.merges.was, subst (λ n. chain n after.bytes ≡ Ok parts) len_is (m.merges.told after new_is).is_chain, m.merges.ends, refl)

    named : (what : Damage) → IsDamaged old new what → Named what
    named what (inl none) = inl (told_chain old (Err what) before old_is none.1)
    named what (inr bad) = inr (bad.before, told_chain old (Ok bad.before) before old_is bad.was, bad.told before after old_is new_is)

    of_fault : (fault : RunFault) → MergesLog old new (Err fault) → MayFail back Named fault
    of_fault run_fault.Memory m = tt
    of_fault run_fault.Disk m = risen_by old.faults new.faults m.merges.rises
    of_fault (run_fault.Damaged what) m = named what m.merges.1

    text : (written : List ℕ) × (now ≡ Some (first ++ written)) × PrintsOnce back Named Text status written
    text =
        printed (List Part) ranges back Named Text (MergesLog old new) status was now first was_is of_text of_fault
        (λ parts m r. none_rose old new m.merges.counts r) (λ what m r. none_rose old new m.merges.0 r) rose ends.found ends.is_found ends.status_is ends.printed

  pub merges_any : MergesAnyWell output old new status was now
  merges_any = record {
    holds = λ source first before was_is old_is.
        let t = text source first before was_is old_is in (
          after source first before was_is old_is,
          new_is source first before was_is old_is,
          t.0,
          t.1,
          record { no_chain = no_chain source first before was_is old_is; unsound = unsound source first before was_is old_is; printed = t.2 },
        );
  }
