-- What the room has of a run's history, and what of it is durable.
use Rattle.std.proofs.Common.{◌≡◌, ◌⊎◌, inl, inr, ⊎_elim, ℕ, ◌+◌, ◌==◌, false, true≢false, List, [], ◌∷◌, ◌++◌, Option, Some, None, sym, ap, ◌∙◌, subst}
use Rattle.std.specs.Prelude.{Contains}
use Rattle.std.proofs.lemmas.List.Sums.{length-filter}
use mathlib.Core.Option.{some}
use lib.ListN.{get_elem?}
use Rattle.fine_model.specs.declared.Options.{Options}
use Rattle.fine_model.specs.declared.Ran.{Ran}
use Rattle.fine_model.specs.declared.RunFault.{RunFault}
use Rattle.fine_model.specs.declared.RunFault.TheVariants as run_fault
use Rattle.fine_model.specs.declared.ScriptTxn.{ScriptTxn}
use Rattle.fine_model.specs.declared.law.Origin.{Origin}
use Rattle.fine_model.specs.declared.law.RoomState.{RoomState}
use Rattle.fine_model.specs.Buckets.{Began}
use Rattle.fine_model.specs.History.{Commit, last_epoch}
use Rattle.fine_model.specs.Outcomes.{EpochsFollow}
use Rattle.fine_model.specs.Room.{IsSealedUpTo}
use Rattle.fine_model.proofs.Histories.Epochs.{all_sealed}
use Rattle.fine_hall.specs.declared.law.Beginning.{Beginning}
use Rattle.fine_hall.specs.Laws.{CountsEpochs}
use Rattle.fine_hall.specs.Passes.{turns}
use Rattle.fine_hall.specs.Turns.{commits}
use Rattle.fine_hall.proofs.Counting.{counts_sealed, counts_stay}
use Rattle.hall_rooms.specs.Rooms.{RoomPass}
use Rattle.epoch_room.specs.Value.{RoomValue}
use Rattle.run_laws.specs.Needs.{IsSealed, Unsealed}
use Rattle.run_laws.specs.Runs.{AddsHistory, HasHistory, IsToSeal, SealsLast}
use Rattle.lane_laws.specs.Joined.{LanesJoined}
use Rattle.lane_laws.specs.Lanes.{LaneValue}
use Rattle.lane_laws.specs.Quiet.{OpenOf}
use Rattle.lane_laws.proofs.Faults as faults
use Rattle.lane_laws.proofs.Rooms as rooms
use Rattle.lane_laws.proofs.Seats.{opened_all}

module _ (x : Beginning) (script : List ScriptTxn) (options : Options) (old back new : RoomValue) (passes : List RoomPass) (workers : List LaneValue) (ended : List (Option RunFault)) (merger last : Option RunFault) (ran : Ran)
    (j : LanesJoined x script options old back new passes workers ended merger last ran) where
  abbrev pub history : List Commit
  history = commits j.closes.all

  -- ---- epochs

  -- what the room counts of the history, after the last seal too
  pub counts : CountsEpochs x new.room history
  counts = ⊎_elim
      (λ (un : Unsealed back.room new.room). counts_stay x back.room new.room history j.closes.epochs un.sealed un.waiting)
      (λ (is : IsSealed back.room new.room). counts_sealed x back.room new.room history j.closes.epochs is.some is.sealed is.waiting)
      j.seals.epochs

  same_sealed : x.room.sealed ≡ old.room.sealed
  same_sealed = rooms.same_sealed x script options old back new passes workers ended merger last ran j

  has : HasHistory old new history
  has = record {
    epochs = subst (λ n. EpochsFollow n history) same_sealed counts.follow;
    sealed = subst (λ n. IsSealedUpTo n history new.room.sealed) same_sealed counts.sealed;
    places = j.seals.places ∙ j.closes.places;
    waiting = counts.waiting;
    stands = λ first e began stands. j.seals.stands first e history (j.closes.stands e first (subst (λ (log : Origin). Began log e first) (sym j.opens.log) began));
    whole = j.seals.whole;
  }

  pub adds : AddsHistory old new history
  adds = record { has = has; beside = rooms.beside x script options old back new passes workers ended merger last ran j }

  -- ---- where nothing waits

  -- all of it is sealed
  none_left : new.room.waiting ≡ 0 → ran.durable ≡ last_epoch old.room.sealed history
  none_left none = j.durable ∙ (all_sealed x.room.sealed history new.room.sealed counts.sealed
      (sym (length-filter (λ (c : Commit). c.epoch == new.room.sealed + 1) history ∙ (sym counts.waiting ∙ none)))
      ∙ ap (λ n. last_epoch n history) same_sealed)

  -- ---- the room is open

  -- where the turns of each pass leave it as open as they found it
  open_back : ((i : ℕ) (p : RoomPass) → get_elem? passes i ≡ some p → OpenOf p.number x.room (turns p)) → back.room.is_shut ≡ false
  open_back each = ap (λ (r : RoomState). r.is_shut) j.closes.last ∙ (opened_all j each ∙ j.opens.not_shut)

  -- where no fault is told
  open_new : ran.fault ≡ None → new.room.is_shut ≡ false
  open_new is = by j.joined.opened
    where
      none : (f : RunFault) → Contains (ended ++ merger ∷ []) (Some f) → ⊥
      none = faults.none_by_thread x script options old back new passes workers ended merger last ran j is

      stays : back.room.is_shut ≡ false → new.room.is_shut ≡ false
      stays was = ⊎_elim (λ same. same ∙ was) (λ by_seal. absurd (faults.none_is x script options old back new passes workers ended merger last ran j is run_fault.Disk
          (faults.told_last x script options old back new passes workers ended merger last ran j run_fault.Disk by_seal))) j.seals.opened

      by : ((i : ℕ) (p : RoomPass) → get_elem? passes i ≡ some p → OpenOf p.number x.room (turns p)) ⊎ Contains (ended ++ merger ∷ []) (Some run_fault.Disk) ⊎ Contains (ended ++ merger ∷ []) (Some run_fault.Memory) → new.room.is_shut ≡ false
      by (inl each) = stays (open_back each)
      by (inr (inl there)) = absurd (none run_fault.Disk there)
      by (inr (inr there)) = absurd (none run_fault.Memory there)

  -- ---- what is durable

  -- an open room has sealed all, where memory was there for it
  sealed_if : new.room.is_shut ≡ false → (last ≡ Some run_fault.Memory → ⊥) → ran.durable ≡ last_epoch old.room.sealed history
  sealed_if is_open enough = none_left (j.seals.none_wait is_open enough)

  memory_told : last ≡ Some run_fault.Memory → ran.fault ≡ Some run_fault.Memory
  memory_told is = faults.memory_is x script options old back new passes workers ended merger last ran j (faults.told_last x script options old back new passes workers ended merger last ran j run_fault.Memory is)

  pub all_durable : IsToSeal old new ran.fault → ran.durable ≡ last_epoch old.room.sealed history
  all_durable (inl none) = sealed_if (open_new none) (λ is. let e : ◌≡◌ {A = Option RunFault} None (Some run_fault.Memory) = sym none ∙ memory_told is in cc)
  all_durable (inr (not_memory, not_own)) = sealed_if (rooms.is_open x script options old back new passes workers ended merger last ran j not_own) (λ is. not_memory (memory_told is))

  pub seals_last : SealsLast old new ran history
  seals_last = record {
    all_durable = λ sealed not_own. sealed_if (rooms.is_open x script options old back new passes workers ended merger last ran j not_own) (λ is. true≢false (sym (j.unsealed.1 is) ∙ sealed));
    some_wait = λ is. j.seals.some_wait (j.unsealed.0 is);
    memory_told = λ is. memory_told (j.unsealed.0 is);
  }
