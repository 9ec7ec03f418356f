-- The theorem of `ranges`, from how the command ended.
use Rattle.std.proofs.Common.{◌≡◌, inl, inr, ℕ, ◌-◌, ◌≤◌, List, refl, sym, ap, ◌∙◌, subst, Option, Some, Result, Ok, Err, arith}
use Rattle.std.specs.Prelude.{IfSome}
use Rattle.log_disk.specs.Disk.{Disk, HasRisen, Told}
use Rattle.fine_model.specs.declared.Damage.{Damage}
use Rattle.fine_model.specs.declared.Part.{Part}
use Rattle.fine_model.specs.declared.RunFault.{RunFault}
use Rattle.fine_model.specs.declared.RunFault.TheVariants as run_fault
use Rattle.fine_model.specs.Chain.{chain}
use Rattle.fine_model.specs.Headline.{MayFail}
use Rattle.fine_model.specs.Regions.{Image}
use Rattle.fine_model.specs.Report.{ranges}
use Rattle.run_laws.specs.Law.{return_of}
use Rattle.log_commands.specs.Ends.{Ends, RangesWell}
use Rattle.log_commands.specs.Found.{FindsChain, IsUntouched, SeesLog}
use Rattle.log_commands.proofs.Printed.{printed, risen_by}

-- the image that was seen is the disk's, where it tells its bytes
seen_is : (image : Image) (before : Told) (t : Option Told) → t ≡ Some before → IfSome t (λ (told : Told). image ≡ told.bytes) → image ≡ before.bytes
seen_is image before t is h = subst (λ o. IfSome o (λ (told : Told). image ≡ told.bytes)) is h

pub told_chain : (disk : Disk) (answer : Result (List Part) Damage) (before : Told) → disk.told ≡ Some before → SeesLog disk answer → chain disk.region_len before.bytes ≡ answer
told_chain disk answer before is s = ap (chain disk.region_len) (sym (seen_is s.image before disk.told is s.is_seen.told)) ∙ s.is

same_told : (old new : Disk) (found : Result (List Part) RunFault) → FindsChain old new found → new.told ≡ old.told
same_told old new (Ok parts) f = ap (λ (d : Disk). d.told) f.0
same_told old new (Err run_fault.Memory) f = ap (λ (d : Disk). d.told) f
same_told old new (Err run_fault.Disk) f = f.told
same_told old new (Err (run_fault.Damaged what)) f = ap (λ (d : Disk). d.told) f.0

pub left_alone : (old new : Disk) (found : Result (List Part) RunFault) → FindsChain old new found → IsUntouched old new
left_alone old new (Ok parts) f = inl f.0
left_alone old new (Err run_fault.Memory) f = inl f
left_alone old new (Err run_fault.Disk) f = inr f
left_alone old new (Err (run_fault.Damaged what)) f = inl f.0

none_rose : (old new : Disk) → new ≡ old → 1 ≤ new.faults - old.faults → ⊥
none_rose old new same r = let e = ap (λ (d : Disk). d.faults) same in omega (arith, e, r)

pub ranges_well : (output : ℕ × ℕ) (old new : Disk) (status : ℕ) (was now : Option (List ℕ)) → (status ≡ 5 → HasRisen output.0 output.1) → Ends (FindsChain old new) status was now → RangesWell output old new status was now
ranges_well output old new status was now rose ends = record {
  holds = λ source first before was_is old_is.
      let still : new.told ≡ old.told = same_told old new ends.found ends.is_found in
      let p = printed (List Part) ranges (return_of old new source output before before) (λ what. chain old.region_len before.bytes ≡ Err what)
      (λ text. (parts : List Part) × (chain old.region_len before.bytes ≡ Ok parts) × (text ≡ ranges parts)) (FindsChain old new) status was now first was_is
      (λ parts f. (parts, told_chain old (Ok parts) before old_is f.1, refl)) (of_fault source before old_is) (λ parts f r. none_rose old new f.0 r) (λ what f r. none_rose old new f.0 r) rose ends.found ends.is_found ends.status_is ends.printed in
      (before, still ∙ old_is, p.0, p.1, record { disk = still; printed = p.2 });
}
  where
    of_fault : (source : ℕ × ℕ) (before : Told) → old.told ≡ Some before → (fault : RunFault) → FindsChain old new (Err fault) → MayFail (return_of old new source output before before) (λ what. chain old.region_len before.bytes ≡ Err what) fault
    of_fault source before is run_fault.Memory f = tt
    of_fault source before is run_fault.Disk f = risen_by old.faults new.faults (f.counts.faults tt)
    of_fault source before is (run_fault.Damaged what) f = told_chain old (Err what) before is f.1
