-- That behind the last seal all is durable, but for want of memory in it or a failure of the disk's own.
use Rattle.std.proofs.Common.{◌≡◌, ◌+◌, ◌≤◌, ◌==◌, Bool, true, false, List, refl, sym, ap, ◌∙◌, subst, true≢false, Option, Some, None}
use Rattle.std.proofs.lemmas.List.Sums.{length-filter}
use Rattle.fine_model.specs.declared.Outcome.{Outcome}
use Rattle.fine_model.specs.declared.RunFault.{RunFault}
use Rattle.fine_model.specs.declared.RunFault.TheVariants as run_fault
use Rattle.fine_model.specs.declared.law.Origin.{Origin}
use Rattle.fine_model.specs.Faults.{HasRisen}
use Rattle.fine_model.specs.History.{Commit, last_epoch}
use Rattle.fine_model.proofs.Histories.Epochs.{all_sealed}
use Rattle.epoch_room.specs.Meaning.{origin_of}
use Rattle.epoch_room.specs.Value.{RoomValue}
use Rattle.run_laws.specs.Lanes.{first_fault, sooner, with_last}
use Rattle.run_laws.specs.Runs.{IsReady, OwnRose, SealsLast}
use Rattle.run_laws.specs.SoFar.{GoesOn}
use Rattle.run_laws.proofs.Soonest.{soonest_with}
use Rattle.txn_runner.specs.Steps.{is_memory}

-- ---- want of memory

not_wanting : (last : Option RunFault) → is_memory last ≡ false → last ≡ Some run_fault.Memory → ⊥
not_wanting last is_not is = true≢false (ap is_memory (sym is) ∙ is_not)

wanting : (last : Option RunFault) → is_memory last ≡ true → last ≡ Some run_fault.Memory
wanting None is = absurd (true≢false (sym is))
wanting (Some run_fault.Memory) is = refl
wanting (Some run_fault.Disk) is = absurd (true≢false (sym is))
wanting (Some (run_fault.Damaged what)) is = absurd (true≢false (sym is))

-- it is told before all others
memory_first : (fault : Option RunFault) → sooner fault (Some run_fault.Memory) ≡ Some run_fault.Memory
memory_first None = refl
memory_first (Some run_fault.Memory) = refl
memory_first (Some run_fault.Disk) = refl
memory_first (Some (run_fault.Damaged what)) = refl

-- ---- a room that goes on

module _ (entry room : RoomValue) (history : List Commit) (ready : IsReady entry) (goes_on : GoesOn entry room history) where
  -- it is shut by a failure of the disk's own
  own_rose : room.room.is_shut ≡ true → OwnRose entry room
  unfolding origin_of
  own_rose shut = subst (λ n. HasRisen n room.disk.own_faults) (ap (λ (o : Origin). o.own_faults) (ap origin_of goes_on.same_entry) ∙ ap (λ d. d.own_faults) (sym ready.at_entry)) (goes_on.whole.entry.failed shut).0

  is_open : (OwnRose entry room → ⊥) → (b : Bool) → room.room.is_shut ≡ b → room.room.is_shut ≡ false
  is_open not_rose false is = is
  is_open not_rose true is = absurd (not_rose (own_rose is))

  none_waits : room.room.waiting ≡ 0 → room.room.sealed ≡ last_epoch entry.room.sealed history
  none_waits none = all_sealed entry.room.sealed history room.room.sealed goes_on.sealed (sym (length-filter (λ (c : Commit). c.epoch == room.room.sealed + 1) history ∙ sym goes_on.waiting ∙ none))

  -- it is told of the last seal how it ended
  pub seals_last : (ended : List (Option RunFault)) (last : Option RunFault) → (room.room.is_shut ≡ false → (last ≡ Some run_fault.Memory → ⊥) → room.room.waiting ≡ 0) → (last ≡ Some run_fault.Memory → 1 ≤ room.room.waiting) → (outcomes : List Outcome)
      → SealsLast entry room (record { outcomes = outcomes; durable = room.room.sealed; fault = first_fault (with_last ended last); unsealed = is_memory last }) history
  seals_last ended last sealed some outcomes = record {
    all_durable = λ is_not not_rose. none_waits (sealed (is_open not_rose room.room.is_shut refl) (not_wanting last is_not));
    some_wait = λ is. some (wanting last is);
    memory_told = λ is. ap (λ fault. first_fault (with_last ended fault)) (wanting last is) ∙ soonest_with ended (Some run_fault.Memory) ∙ memory_first (first_fault ended);
  }
