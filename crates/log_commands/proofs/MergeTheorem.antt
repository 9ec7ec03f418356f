-- The theorem of `merge`, from how the command ended.
use Rattle.std.proofs.Common.{◌≡◌, ◌⊎◌, inl, inr, ℕ, ◌-◌, ◌≤◌, List, length, ◌++◌, refl, sym, ap, ◌∙◌, subst, Option, Some, None, Result, Ok, Err, arith}
use Rattle.std.specs.Prelude.{IfSome, count_by}
use Rattle.log_disk.specs.Disk.{BothTold, Disk, HasRisen, IsImageNow, IsImageSince, IsSound as IsSoundDisk, IsToldOf, Told, clock_of}
use Rattle.log_disk.specs.Moments.{Continues}
use Rattle.log_disk.proofs.Moments.{now_since}
use Rattle.log_disk.proofs.Times.{continued_later}
use Rattle.fine_model.specs.declared.Damage.{Damage}
use Rattle.fine_model.specs.declared.Part.{Part}
use Rattle.fine_model.specs.declared.Row.{Row}
use Rattle.fine_model.specs.declared.RunFault.{RunFault}
use Rattle.fine_model.specs.declared.RunFault.TheVariants as run_fault
use Rattle.fine_model.specs.Causes.{NoNeighboursFit}
use Rattle.fine_model.specs.Chain.{Shows, chain}
use Rattle.fine_model.specs.Commands.{PrintsText}
use Rattle.fine_model.specs.Headline.{FailsSound}
use Rattle.fine_model.specs.Nodes.{Agrees}
use Rattle.fine_model.specs.Regions.{Image, is_sealed}
use Rattle.fine_model.specs.Report.{ranges}
use Rattle.epoch_room.specs.Steps.{KeepsCounts}
use Rattle.run_laws.specs.Law.{return_of}
use Rattle.log_commands.specs.Ends.{Ends, MergesWell, status_of}
use Rattle.log_commands.specs.Merged.{IsDamaged, KeepsLog, MergesLog, MergesOr, ShowsNone}
use Rattle.log_commands.proofs.Printed.{printed, risen_by}
use Rattle.log_commands.proofs.Ranges.{told_chain}

-- a disk that told its bytes tells them still
pub told_after : (old new : Disk) (before : Told) → KeepsLog old new → old.told ≡ Some before → (after : Told) × (new.told ≡ Some after) × Continues before after
told_after old new before keeps is = by new.told refl
  where
    from : (t : Option Told) → new.told ≡ t → BothTold Continues (Some before) t
    from t e = subst (λ o. BothTold Continues (Some before) o) e (subst (λ o. BothTold Continues o new.told) is keeps.time)

    by : (t : Option Told) → new.told ≡ t → (after : Told) × (new.told ≡ Some after) × Continues before after
    by None e = absurd (from None e)
    by (Some after) e = (after, e, from (Some after) e)

-- damage is named of a log alone that shows no rows
damage_shows_none : (old new : Disk) (what : Damage) → IsDamaged old new what → ShowsNone old
damage_shows_none old new what (inl no_chain) before e rows is shows =
    let x : ◌≡◌ {A = Result (List Part) Damage} (Err what) (Ok shows.parts) = sym (told_chain old (Err what) before is no_chain.1) ∙ shows.is_chain in cc
damage_shows_none old new what (inr bad) before e rows is shows = bad.shows_none before e rows is shows

pub none_rose : (old new : Disk) → KeepsCounts old new → 1 ≤ new.faults - old.faults → ⊥
none_rose old new counts r = let e = counts.faults in omega (arith, e, r)

module _ (old new : Disk) (status : ℕ) (was now : Option (List ℕ)) (ends : Ends (MergesLog old new) status was now) where
  -- the status tells what was found
  found_by : (found : Result (List Part) RunFault) → MergesLog old new found → (status ≡ 5) ⊎ (status ≡ status_of found) → status ≡ 7 → ShowsNone old
  found_by found m (inl five) seven = absurd (omega (arith, five, seven))
  found_by (Ok parts) m (inr s) seven = absurd (omega (arith, s, seven))
  found_by (Err run_fault.Memory) m (inr s) seven = absurd (omega (arith, s, seven))
  found_by (Err run_fault.Disk) m (inr s) seven = absurd (omega (arith, s, seven))
  found_by (Err (run_fault.Damaged what)) m (inr s) seven = damage_shows_none old new what m.merges.1

  pub damaged : status ≡ 7 → ShowsNone old
  damaged seven = found_by ends.found ends.is_found ends.status_is seven

  listed_by : (found : Result (List Part) RunFault) → MergesLog old new found → (status ≡ 5) ⊎ (status ≡ status_of found) → status ≡ 0 → (parts : List Part) × MergesOr old new (Ok parts)
  listed_by found m (inl five) zero_is = absurd (omega (arith, five, zero_is))
  listed_by (Ok parts) m (inr s) zero_is = (parts, m.merges)
  listed_by (Err run_fault.Memory) m (inr s) zero_is = absurd (omega (arith, s, zero_is))
  listed_by (Err run_fault.Disk) m (inr s) zero_is = absurd (omega (arith, s, zero_is))
  listed_by (Err (run_fault.Damaged what)) m (inr s) zero_is = absurd (omega (arith, s, zero_is))

  pub keeps_log : KeepsLog old new
  keeps_log = ends.is_found.keeps

  module _ (output : ℕ × ℕ) (rose : status ≡ 5 → HasRisen output.0 output.1) (sound : IsSoundDisk new) where
    module _ (source : ℕ × ℕ) (first : List ℕ) (before : Told) (e : ℕ) (rows : List Row) (was_is : was ≡ Some first) (old_is : old.told ≡ Some before) (shows : Shows old.region_len before.bytes e rows) where
      abbrev after : Told
      after = (told_after old new before keeps_log old_is).0

      new_is : new.told ≡ Some after
      new_is = (told_after old new before keeps_log old_is).1

      every : (image : Image) → IsImageSince (clock_of before) after image → (shown : List Row) × Shows old.region_len image e shown × Agrees shown rows
      every = keeps_log.every_image before after e rows old_is new_is shows

      -- what a read gives on return is such an image
      is_now : IsImageNow after after.bytes
      is_now = (subst (λ o. IfSome o (IsToldOf new)) new_is sound.told).image

      last : (shown : List Row) × Shows old.region_len after.bytes e shown × Agrees shown rows
      last = every after.bytes (now_since (clock_of before) after after.bytes (continued_later before after (told_after old new before keeps_log old_is).2) is_now)

      abbrev parts : List Part
      parts = last.1.parts

      same_parts : (ps : List Part) → MergesOr old new (Ok ps) → ps ≡ parts
      same_parts ps m =
          let a : chain old.region_len after.bytes ≡ Ok ps = subst (λ n. chain n after.bytes ≡ Ok ps) keeps_log.region_len (m.told after new_is).is_chain in
          let x : ◌≡◌ {A = Result (List Part) Damage} (Ok ps) (Ok parts) = sym a ∙ last.1.is_chain in cc

      of_fault : (fault : RunFault) → MergesLog old new (Err fault) → FailsSound (return_of old new source output before after) fault
      of_fault run_fault.Memory m = tt
      of_fault run_fault.Disk m = risen_by old.faults new.faults m.merges.rises
      of_fault (run_fault.Damaged what) m = damage_shows_none old new what m.merges.1 before e rows old_is shows

      text : (written : List ℕ) × (now ≡ Some (first ++ written)) × PrintsText (return_of old new source output before after) (ranges parts) status written
      text =
          printed (List Part) ranges (return_of old new source output before after) (λ what. ⊥) (λ text. text ≡ ranges parts) (MergesLog old new) status was now first was_is (λ ps m. ap ranges (same_parts ps m.merges)) of_fault
          (λ ps m r. none_rose old new m.merges.counts r) (λ what m r. none_rose old new m.merges.0 r) rose ends.found ends.is_found ends.status_is ends.printed

      all_live : status ≡ 0 → count_by is_sealed after.bytes ≡ length parts
      all_live zero_is =
          let m = listed_by ends.found ends.is_found ends.status_is zero_is in (m.1.told after new_is).all_live ∙ ap length (same_parts m.0 m.1)

      no_more : status ≡ 0 → NoNeighboursFit old.region_len after.bytes parts
      no_more zero_is =
          let m = listed_by ends.found ends.is_found ends.status_is zero_is in
          subst (λ n. NoNeighboursFit n after.bytes parts) keeps_log.region_len (subst (NoNeighboursFit new.region_len after.bytes) (same_parts m.0 m.1) (m.1.told after new_is).no_more)

    pub merges_well : MergesWell output old new status was now
    merges_well = record {
      holds = λ source first before e rows was_is old_is shows.
          let t = text source first before e rows was_is old_is shows in (
            after source first before e rows was_is old_is shows,
            new_is source first before e rows was_is old_is shows,
            t.0,
            t.1,
            record {
              every_image = every source first before e rows was_is old_is shows;
              parts = parts source first before e rows was_is old_is shows;
              is_chain = (last source first before e rows was_is old_is shows).1.is_chain;
              all_live = all_live source first before e rows was_is old_is shows;
              no_more = no_more source first before e rows was_is old_is shows;
              printed = t.2;
            },
          );
    }
