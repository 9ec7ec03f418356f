-- What making room says of a full log, and of the flag that it is.
use Rattle.std.proofs.Common.{◌≡◌, ◌≢◌, ◌⊎◌, inl, inr, ℕ, Bool, true, false, refl, sym, ap, ◌∙◌, subst, Option, Some, None, Ok, Err, arith}
use Rattle.std.specs.Prelude.{Result}
use Rattle.fine_model.specs.declared.Entry.{Entry}
use Rattle.fine_model.specs.declared.Outcome.{Outcome}
use Rattle.fine_model.specs.declared.Outcome.TheVariants as outcome
use Rattle.fine_model.specs.declared.RunFault.{RunFault}
use Rattle.fine_model.specs.declared.Why.{Why}
use Rattle.fine_model.specs.declared.Why.TheVariants as why
use Rattle.epoch_room.specs.Fitting.{fit_of}
use Rattle.epoch_room.specs.Whole.{IsWhole}
use Rattle.epoch_room.specs.declared.answers.Fit.{Fit}
use Rattle.epoch_room.specs.declared.answers.Fit.TheVariants as fit
use Rattle.room_shelf.specs.Shelves.{ShelfValue}
use Rattle.room_steps.specs.Merging.{is_epoch_full}
use Rattle.room_steps.specs.Steps.{ByFit, MakesOr}
use Rattle.room_steps.proofs.Fitting.{none_fit, some_wait}
use Rattle.run_laws.specs.Needs.{HasNoRegion, IsSealed, Unsealed}
use Rattle.run_laws.specs.SoFar.{KeepsFlag}
use Rattle.run_laws.specs.Turns.{commit_of}
use Rattle.txn_runner.specs.Body.{Body, shelf_of}
use Rattle.txn_runner.specs.Steps.{MakesPlace}

-- what waited was sealed, or it still waits
unsealed : (old new : ShelfValue) → new ≡ old → Unsealed old.room.room new.room.room
unsealed old new same = record { sealed = ap (λ (s : ShelfValue). s.room.room.sealed) same; waiting = ap (λ (s : ShelfValue). s.room.room.waiting) same; used = ap (λ (s : ShelfValue). s.room.room.used) same }

pub sealed_or : (full : Bool) (old new : ShelfValue) (result : Result (Option Why) RunFault) (f : Fit) → ByFit full old new result f → Unsealed old.room.room new.room.room ⊎ IsSealed old.room.room new.room.room
sealed_or full old new result fit.Fits by = inl (unsealed old new by.0)
sealed_or full old new result (fit.Shut epoch) by = inl (unsealed old new by.0)
sealed_or full old new result (fit.Number epoch place) by = inl (unsealed old new by.0)
sealed_or full old new result (fit.TooLarge need room) by = inl (unsealed old new by.0)
sealed_or full old new result (fit.Full free live retired) by = inl by.0
sealed_or full old new result (fit.EpochFull need room) by = by.0

module _ (need : ℕ) (old made : Body) (result : Result (Option Why) RunFault) (m : MakesPlace need old made result) where
  -- the flag stays, or a refusal sets it
  flag : (r : Result (Option Why) RunFault) → MakesOr need (shelf_of old) (shelf_of made) old.full made.full r → made.full ≡ true → (old.full ≡ true) ⊎ HasNoRegion made.room.room
  flag (Ok None) is now = inl (sym is.2 ∙ now)
  flag (Ok (Some why.Large)) is now = inl (sym is.2 ∙ now)
  flag (Ok (Some why.Number)) is now = inl (sym is.2 ∙ now)
  flag (Ok (Some why.Bucket)) is now = absurd is
  flag (Ok (Some why.Full)) is now = inr is.1
  flag (Err fault) is now = inl (sym is.1 ∙ now)

  pub flag_refused : (word : Why) → MakesOr need (shelf_of old) (shelf_of made) old.full made.full (Ok (Some word)) → KeepsFlag old.full made.full (outcome.Refused word)
  flag_refused why.Large is = record {
    stays = λ full. is.2 ∙ full;
    sets = λ (e : outcome.Refused why.Large ≡ outcome.Refused why.Full). absurd (let x = e in cc);
    only = λ full. inl (sym is.2 ∙ full);
    none = λ full. refl;
  }
  flag_refused why.Number is = record {
    stays = λ full. is.2 ∙ full;
    sets = λ (e : outcome.Refused why.Number ≡ outcome.Refused why.Full). absurd (let x = e in cc);
    only = λ full. inl (sym is.2 ∙ full);
    none = λ full. refl;
  }
  flag_refused why.Full is = record { stays = λ full. is.3; sets = λ e. is.3; only = λ full. inr refl; none = λ full. refl }
  flag_refused why.Bucket is = absurd is

  module _ (whole : IsWhole old.room) (no_region : old.full ≡ true → HasNoRegion old.room.room) where
    -- a full log is left as it is
    kept : old.full ≡ true → shelf_of made ≡ shelf_of old
    kept full = by (fit_of old.room.room need) refl m.makes.by_fit
      where
        by : (f : Fit) → fit_of old.room.room need ≡ f → ByFit old.full (shelf_of old) (shelf_of made) result f → shelf_of made ≡ shelf_of old
        by fit.Fits is b = b.0
        by (fit.Shut epoch) is b = b.0
        by (fit.Number epoch place) is b = b.0
        by (fit.TooLarge needed most) is b = b.0
        by (fit.Full free live retired) is b = (b.1 full).0
        by (fit.EpochFull needed most) is b = absurd (let w = some_wait old.room need whole (ap is_epoch_full is) in let n = (no_region full).none_waits in omega (arith, w, n))

    pub still_none : old.full ≡ true → HasNoRegion made.room.room
    still_none was = subst (λ (s : ShelfValue). HasNoRegion s.room.room) (sym (kept was)) (no_region was)

    pub has_none : made.full ≡ true → HasNoRegion made.room.room
    has_none now = by (flag result m.makes.makes now)
      where
        by : (old.full ≡ true) ⊎ HasNoRegion made.room.room → HasNoRegion made.room.room
        by (inl was) = still_none was
        by (inr none) = none

    -- where rows fit, it was not full
    module _ (ok : MakesOr need (shelf_of old) (shelf_of made) old.full made.full (Ok None)) where
      pub was_not : old.full ≡ true → ⊥
      was_not full = none_fit made.room.room need m.makes.leaves.no_job (still_none full) ok.1

      pub not_full : made.full ≡ false
      not_full = by made.full refl
        where
          by : (b : Bool) → made.full ≡ b → made.full ≡ false
          by true is = absurd (was_not (sym ok.2 ∙ is))
          by false is = is

      pub flag_committed : (place epoch : ℕ) (e : Entry) (now : Bool) → now ≡ made.full → KeepsFlag old.full now (outcome.Committed place epoch e)
      flag_committed place epoch e now same = record {
        stays = λ full. absurd (was_not full);
        sets = λ (is : outcome.Committed place epoch e ≡ outcome.Refused why.Full). absurd (let x = is in cc);
        only = λ full. inl (sym ok.2 ∙ sym same ∙ full);
        none = λ full. absurd (was_not full);
      }

-- nothing is committed, and nothing is refused as full
pub flag_same : (old new : Bool) (next : Outcome) → new ≡ old → next ≢ outcome.Refused why.Full → commit_of next ≡ None → KeepsFlag old new next
flag_same old new next same not none = record { stays = λ full. same ∙ full; sets = λ is. absurd (not is); only = λ full. inl (sym same ∙ full); none = λ full. none }
