-- Room for the rows of a transaction.
use Rattle.std.proofs.Common.{◌≡◌, ◌∙◌, ℕ, ◌⊎◌, Bool, true, false, inl, inr, Option, Some, None, Ok, Err, refl, sym, ap, subst, true≢false}
use Rattle.std.specs.Prelude.{OnOk, Result, nat_lt}
use Rattle.fine_model.specs.declared.RunFault.{RunFault}
use Rattle.fine_model.specs.declared.RunFault.TheVariants as run_fault
use Rattle.fine_model.specs.declared.Why.{Why}
use Rattle.fine_model.specs.declared.Why.TheVariants as why
use Rattle.epoch_room.specs.Fitting.{fit_of, need_alone}
use Rattle.epoch_room.specs.Value.{RoomValue}
use Rattle.epoch_room.specs.Whole.{IsWhole}
use Rattle.epoch_room.specs.declared.answers.Fit.{Fit}
use Rattle.epoch_room.specs.declared.answers.Fit.TheVariants as fit
use Rattle.room_shelf.specs.Shelves.{IsShelf, ShelfValue}
use Rattle.run_laws.proofs.Going.{full_law}
use Rattle.room_steps.specs.Merging.{FindsRegion, Frees, SealsAndTidies, SealsIfFull, is_epoch_full}
use Rattle.run_laws.specs.Needs.{HasNoRegion, IsSealed, Unsealed}
use Rattle.room_steps.specs.Steps.{ByFit, IsFull, IsWell, MakesOr, MakesRoom, NoneMerge, SealsWaiting, Tidies}
use Rattle.room_steps.proofs.Facts.{fault_on, leaves_itself, leaves_on, none_failed_itself, none_failed_on, sealed_on, unsealed_itself, well_on}
use Rattle.room_steps.proofs.Fitting.{Alone, all_fits, alone_fits, alone_still, by_epoch, enough_free, in_epoch_fits, is_large, is_spent_by, no_region, not_by_epoch, tests_of}

-- ---- a seal, and the merges behind it

pub then_tidied : (old mid new : ShelfValue) (epoch : ℕ) (result : Result (Unit {0}) RunFault) → SealsWaiting old mid (Ok epoch) → Tidies mid new result → SealsAndTidies old new result
then_tidied old mid new epoch (Ok u) s t = record {
  leaves = leaves_on old mid new s.leaves t.leaves;
  seals = (
    record { none_failed = none_failed_on old mid new s.seals.0.none_failed t.tidy.0; opened = t.tidy.0.shut ∙ s.seals.0.opened },
    sealed_on old.room.room mid.room.room new.room.room s.seals.1 t.unsealed,
  );
}
then_tidied old mid new epoch (Err fault) s t = record {
  leaves = leaves_on old mid new s.leaves t.leaves;
  seals = (fault_on old mid new fault s.seals.0 t.tidy, inr (sealed_on old.room.room mid.room.room new.room.room s.seals.1 t.unsealed));
}

pub not_sealed : (old new : ShelfValue) (fault : RunFault) → SealsWaiting old new (Err fault) → SealsAndTidies old new (Err fault)
not_sealed old new run_fault.Disk s = record { leaves = s.leaves; seals = (s.seals.0, inl s.seals.1) }
not_sealed old new run_fault.Memory s = record { leaves = s.leaves; seals = (s.seals.0, inl s.seals.1) }
not_sealed old new (run_fault.Damaged what) s = absurd s.seals

pub sealed_as_full : (cost : ℕ) (old new : ShelfValue) (result : Result (Unit {0}) RunFault) → is_epoch_full (fit_of old.room.room cost) ≡ true → SealsAndTidies old new result → SealsIfFull cost old new result
sealed_as_full cost old new (Ok u) full s = record { leaves = s.leaves; seals = inr (full, s.seals.0, s.seals.1) }
sealed_as_full cost old new (Err fault) full s = record { leaves = s.leaves; seals = (full, s.seals.0, s.seals.1) }

pub not_full : (cost : ℕ) (s : ShelfValue) → is_epoch_full (fit_of s.room.room cost) ≡ false → IsShelf s.room.room s.view → IsWhole s.room → s.room.room.job ≡ None → SealsIfFull cost s s (Ok tt)
not_full cost s full on_shelf whole none = record { leaves = leaves_itself s on_shelf whole none; seals = inl (refl, full) }

-- ---- a region

pub stuck_if_full : (room : RoomValue) → IsWhole room → room.room.is_shut ≡ false → HasNoRegion room.room → NoneMerge room → IsFull room
stuck_if_full room whole opened none merge = record {
  none_merge = merge;
  stuck = λ entry history g. full_law entry room history g (whole.lost opened) none.none_waits merge.none_retired none.few_free merge.none_fit;
}

module _ (old : ShelfValue) (none : HasNoRegion old.room.room) where
  pub refused_at_once : (full : Bool) → full ≡ true → IsShelf old.room.room old.view → IsWhole old.room → old.room.room.job ≡ None → old.room.room.is_shut ≡ false → FindsRegion old old full full (Ok (Some why.Full))
  refused_at_once full is on_shelf whole no_job opened = record {
    leaves = leaves_itself old on_shelf whole no_job;
    unsealed = unsealed_itself old.room.room;
    at_once = λ e. (refl, refl);
    region = (record { none_failed = none_failed_itself old; opened = opened }, none, inl is, is);
  }

  pub region_found : (new : ShelfValue) (full : Bool) → full ≡ false → Frees old new (Ok true) → FindsRegion old new full full (Ok None)
  region_found new full not f = record {
    leaves = f.leaves;
    unsealed = f.unsealed;
    at_once = λ e. absurd (true≢false (sym e ∙ not));
    region = (f.free.0, f.free.1, refl);
  }

  pub none_found : (new : ShelfValue) (full : Bool) → full ≡ false → Frees old new (Ok false) → FindsRegion old new full true (Ok (Some why.Full))
  none_found new full not f = record {
    leaves = f.leaves;
    unsealed = f.unsealed;
    at_once = λ e. absurd (true≢false (sym e ∙ not));
    region = (f.free.0, still, inr (stuck_if_full new.room f.leaves.whole f.free.0.opened still f.free.2), refl);
  }
    where
      still : HasNoRegion new.room.room
      still = record { none_waits = f.unsealed.waiting ∙ none.none_waits; few_free = f.free.1 }

  pub finding_failed : (new : ShelfValue) (full : Bool) (fault : RunFault) → full ≡ false → Frees old new (Err fault) → FindsRegion old new full full (Err fault)
  finding_failed new full fault not f = record {
    leaves = f.leaves;
    unsealed = f.unsealed;
    at_once = λ e. absurd (true≢false (sym e ∙ not));
    region = (f.free, refl);
  }

-- ---- room where nothing is to be sealed before

-- room for rows where nothing is to be sealed before
pub record FindsRoom (cost : ℕ) (old new : ShelfValue) (full full' : Bool) (result : Result (Option Why) RunFault) : Type 0 where
  pub unsealed : Unsealed old.room.room new.room.room
  pub makes : MakesRoom cost old new full full' result

module _ (cost : ℕ) (s : ShelfValue) (on_shelf : IsShelf s.room.room s.view) (whole : IsWhole s.room) (no_job : s.room.room.job ≡ None) (full : Bool) where
  -- what changes nothing
  at_once : (f : Fit) (result : Result (Option Why) RunFault) → fit_of s.room.room cost ≡ f → ByFit full s s result f → MakesOr cost s s full full result → FindsRoom cost s s full full result
  at_once f result is fitted makes = record {
    unsealed = unsealed_itself s.room.room;
    makes = record { leaves = leaves_itself s on_shelf whole no_job; by_fit = subst (ByFit full s s result) (sym is) fitted; makes = makes };
  }

  well : s.room.room.is_shut ≡ false → IsWell s s
  well opened = record { none_failed = none_failed_itself s; opened = opened }

  pub fits_at_once : fit_of s.room.room cost ≡ fit.Fits → FindsRoom cost s s full full (Ok None)
  fits_at_once is = at_once fit.Fits (Ok None) is (refl, refl) (well (tests_of s.room.room cost fit.Fits is).0.opened, is, refl)

  pub shut_at_once : (epoch : ℕ) → fit_of s.room.room cost ≡ fit.Shut epoch → FindsRoom cost s s full full (Err run_fault.Disk)
  shut_at_once epoch is = at_once (fit.Shut epoch) (Err run_fault.Disk) is (refl, refl) (inl (record { shut = tests_of s.room.room cost (fit.Shut epoch) is; same = refl }), refl)

  pub spent_at_once : (epoch place : ℕ) → fit_of s.room.room cost ≡ fit.Number epoch place → FindsRoom cost s s full full (Ok (Some why.Number))
  spent_at_once epoch place is =
      let t = tests_of s.room.room cost (fit.Number epoch place) is in at_once (fit.Number epoch place) (Ok (Some why.Number)) is (refl, refl) (well t.0, is_spent_by s.room whole t.1, refl)

  pub large_at_once : (need most : ℕ) → fit_of s.room.room cost ≡ fit.TooLarge need most → FindsRoom cost s s full full (Ok (Some why.Large))
  large_at_once need most is =
      let t = tests_of s.room.room cost (fit.TooLarge need most) is in at_once (fit.TooLarge need most) (Ok (Some why.Large)) is (refl, refl) (refl, is_large s.room.room.region_len cost t.1, refl)

  -- a region was sought
  module _ (free live retired : ℕ) (is : fit_of s.room.room cost ≡ fit.Full free live retired) where
    fit_tests : Alone s.room.room cost
    fit_tests = (tests_of s.room.room cost (fit.Full free live retired) is).0

    pub open_there : s.room.room.is_shut ≡ false
    open_there = fit_tests.opened

    pub none_there : HasNoRegion s.room.room
    none_there = no_region s.room.room no_job (tests_of s.room.room cost (fit.Full free live retired) is).1

    pub by_region : (new : ShelfValue) (full' : Bool) (result : Result (Option Why) RunFault) → FindsRegion s new full full' result → FindsRoom cost s new full full' result
    by_region new full' result f = record {
      unsealed = f.unsealed;
      makes = record { leaves = f.leaves; by_fit = subst (ByFit full s new result) (sym is) (f.unsealed, f.at_once); makes = by result f };
    }
      where
        by : (result : Result (Option Why) RunFault) → FindsRegion s new full full' result → MakesOr cost s new full full' result
        by (Ok None) f =
            let a = alone_still s.room.room new.room.room cost f.region.0.opened f.unsealed.sealed f.leaves.places f.leaves.becomes.region_len fit_tests in
            let none = f.unsealed.waiting ∙ none_there.none_waits in
            (f.region.0, all_fits new.room.room cost a (enough_free new.room.room f.region.1) (in_epoch_fits new.room cost f.leaves.whole none a.alone), f.region.2)
        by (Ok (Some why.Full)) f = f.region
        by (Ok (Some why.Large)) f = absurd f.region
        by (Ok (Some why.Bucket)) f = absurd f.region
        by (Ok (Some why.Number)) f = absurd f.region
        by (Err fault) f = f.region

-- ---- room

module _ (cost : ℕ) (old mid : ShelfValue) (s : SealsIfFull cost old mid (Ok tt)) where
  -- what was sealed is not why rows do not fit any more
  pub not_by_sealed : is_epoch_full (fit_of mid.room.room cost) ≡ false
  not_by_sealed = by s.seals
    where
      by : ((mid ≡ old) × (is_epoch_full (fit_of old.room.room cost) ≡ false)) ⊎ ((is_epoch_full (fit_of old.room.room cost) ≡ true) × IsWell old mid × IsSealed old.room.room mid.room.room)
          → is_epoch_full (fit_of mid.room.room cost) ≡ false
      by (inl h) = ap (λ (s : ShelfValue). is_epoch_full (fit_of s.room.room cost)) h.0 ∙ h.1
      by (inr h) =
          not_by_epoch mid.room cost s.leaves.whole h.2.waiting
          (ap (λ n. nat_lt n (need_alone cost)) s.leaves.becomes.region_len ∙ (by_epoch old.room.room cost h.0).alone)

  module _ (new : ShelfValue) (full full' : Bool) where
    -- behind a seal
    sealed_before : (result : Result (Option Why) RunFault) → is_epoch_full (fit_of old.room.room cost) ≡ true → IsWell old mid → IsSealed old.room.room mid.room.room → FindsRoom cost mid new full full' result → MakesRoom cost old new full full' result
    sealed_before result was w sealed f = record {
      leaves = leaves_on old mid new s.leaves f.makes.leaves;
      by_fit = fitted (fit_of old.room.room cost) was;
      makes = makes result f.makes.makes;
    }
      where
        all : IsSealed old.room.room new.room.room
        all = sealed_on old.room.room mid.room.room new.room.room sealed f.unsealed

        on_ok : (result : Result (Option Why) RunFault) → OnOk result (IsSealed old.room.room new.room.room)
        on_ok (Ok answer) = all
        on_ok (Err fault) = tt

        fitted : (f : Fit) → is_epoch_full f ≡ true → ByFit full old new result f
        fitted fit.Fits e = absurd (true≢false (sym e))
        fitted (fit.Shut epoch) e = absurd (true≢false (sym e))
        fitted (fit.Number epoch place) e = absurd (true≢false (sym e))
        fitted (fit.TooLarge need most) e = absurd (true≢false (sym e))
        fitted (fit.Full free live retired) e = absurd (true≢false (sym e))
        fitted (fit.EpochFull need most) e = (inr all, on_ok result)

        makes : (result : Result (Option Why) RunFault) → MakesOr cost mid new full full' result → MakesOr cost old new full full' result
        makes (Ok None) m = (well_on old mid new w.none_failed m.0, m.1, m.2)
        makes (Ok (Some why.Large)) m =
            absurd (alone_fits mid.room cost s.leaves.whole (ap (λ n. nat_lt n (need_alone cost)) s.leaves.becomes.region_len ∙ (by_epoch old.room.room cost was).alone) m.1)
        makes (Ok (Some why.Number)) m = (well_on old mid new w.none_failed m.0, m.1, m.2)
        makes (Ok (Some why.Full)) m = (well_on old mid new w.none_failed m.0, m.1, m.2, m.3)
        makes (Ok (Some why.Bucket)) m = absurd m
        makes (Err fault) m = (fault_on old mid new fault w m.0, m.1)

    pub then_found : (result : Result (Option Why) RunFault) → FindsRoom cost mid new full full' result → MakesRoom cost old new full full' result
    then_found result f = by s.seals
      where
        by : ((mid ≡ old) × (is_epoch_full (fit_of old.room.room cost) ≡ false)) ⊎ ((is_epoch_full (fit_of old.room.room cost) ≡ true) × IsWell old mid × IsSealed old.room.room mid.room.room)
            → MakesRoom cost old new full full' result
        by (inl h) = subst (λ x. MakesRoom cost x new full full' result) h.0 f.makes
        by (inr h) = sealed_before result h.0 h.1 h.2 f

pub room_failed : (cost : ℕ) (old new : ShelfValue) (full : Bool) (fault : RunFault) → SealsIfFull cost old new (Err fault) → MakesRoom cost old new full full (Err fault)
room_failed cost old new full fault s = record { leaves = s.leaves; by_fit = fitted (fit_of old.room.room cost) s.seals.0; makes = (s.seals.1, refl) }
  where
    fitted : (f : Fit) → is_epoch_full f ≡ true → ByFit full old new (Err fault) f
    fitted fit.Fits e = absurd (true≢false (sym e))
    fitted (fit.Shut epoch) e = absurd (true≢false (sym e))
    fitted (fit.Number epoch place) e = absurd (true≢false (sym e))
    fitted (fit.TooLarge need most) e = absurd (true≢false (sym e))
    fitted (fit.Full free live retired) e = absurd (true≢false (sym e))
    fitted (fit.EpochFull need most) e = (s.seals.2, tt)
