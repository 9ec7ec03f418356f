-- What making room leaves of an open transaction.
use Rattle.std.proofs.Common.{◌≡◌, ◌⊎◌, inl, inr, ⊎_elim, ℕ, ◌≤◌, true, List, [], sym, ap, ◌∙◌, subst, Option, Some, None, Ok, Err}
use Rattle.std.specs.Prelude.{Result}
use Rattle.fine_model.specs.declared.RunFault.{RunFault}
use Rattle.fine_model.specs.declared.Why.{Why}
use Rattle.fine_model.specs.declared.Why.TheVariants as why
use Rattle.fine_model.specs.Becomes.{IsStuck}
use Rattle.fine_model.specs.History.{Commit}
use Rattle.epoch_room.specs.Fitting.{fit_of}
use Rattle.epoch_room.specs.Value.{RoomValue}
use Rattle.room_shelf.specs.Shelves.{ShelfValue, total}
use Rattle.room_steps.specs.Laws.{TellsNow}
use Rattle.room_steps.specs.Steps.{MakesOr, NoneFailed}
use Rattle.run_laws.specs.Runs.{IsReady, OfSound}
use Rattle.run_laws.specs.SoFar.{AreFewSoFar, AreTold}
use Rattle.txn_runner.specs.Body.{Body, Goes, IsGoing, count_of, shelf_of}
use Rattle.txn_runner.specs.Steps.{Leaves, MakesPlace, TellsWith}
use Rattle.txn_runner.proofs.Full.{has_none, sealed_or}
use Rattle.txn_runner.proofs.Steady.{few_by, same_history}
use Rattle.room_steps.proofs.Telling.{told_still, told_with}

module _ (group cost : ℕ) (old new : Body) (some : 1 ≤ group) (result : Result (Option Why) RunFault) (m : MakesPlace cost old new result) (entry : RoomValue) (history : List Commit) (ready : IsReady entry) (g : IsGoing group entry old history) where
  ended_same : new.ended ≡ old.ended
  ended_same = ap (λ (b : Body). b.ended) m.rest

  -- where the flag is as it was, or was set by a refusal
  flag : (r : Result (Option Why) RunFault) → MakesOr cost (shelf_of old) (shelf_of new) old.full new.full r → new.full ≡ true → (old.full ≡ true) ⊎ OfSound entry (λ first e. IsStuck new.room.room)
  flag (Ok None) is now = inl (sym is.2 ∙ now)
  flag (Ok (Some why.Large)) is now = inl (sym is.2 ∙ now)
  flag (Ok (Some why.Number)) is now = inl (sym is.2 ∙ now)
  flag (Ok (Some why.Bucket)) is now = absurd is
  flag (Ok (Some why.Full)) is now = ⊎_elim (λ was. inl was) (λ full. inr (full.stuck entry history (m.makes.leaves.goes_on entry history g.goes.room))) is.2
  flag (Err fault) is now = inl (sym is.1 ∙ now)

  pub goes : Goes entry new history
  goes = record {
    room = m.makes.leaves.goes_on entry history g.goes.room;
    no_region = has_none cost old new result m g.goes.room.whole g.goes.no_region;
    stuck = λ full first e began stands. ⊎_elim (λ was. (m.makes.leaves.becomes.stuck (g.goes.stuck was first e began stands)).stuck) (λ now. now first e began stands) (flag result m.makes.makes full);
    view = m.makes.leaves.shelf;
  }

  pub few : AreFewSoFar group new.room.room.sealed new.ended history
  few = subst (λ ended. AreFewSoFar group new.room.room.sealed ended history) (sym ended_same)
      (few_by group entry old.room new.room old.ended history some goes.room (sealed_or old.full (shelf_of old) (shelf_of new) result (fit_of old.room.room cost) m.makes.by_fit) g.few)

  pub leaves : Leaves group entry old new history []
  leaves = record { goes = same_history (Goes entry new) history goes; few = few; becomes = m.makes.leaves.becomes; ended = ended_same }

  still : NoneFailed (shelf_of old) (shelf_of new) → AreTold entry new.room (count_of new) new.ended new.ended
  still none = subst (λ ended. AreTold entry new.room (count_of new) ended ended) (sym ended_same) (told_still (shelf_of old) (shelf_of new) entry old.ended old.ended none g.told)

  as_was : shelf_of new ≡ shelf_of old → AreTold entry new.room (count_of new) new.ended new.ended
  as_was same = subst (λ ended. AreTold entry new.room (count_of new) ended ended) (sym ended_same) (subst (λ (s : ShelfValue). AreTold entry s.room (total s) old.ended old.ended) (sym same) g.told)

  -- where it answers no fault
  pub told : (r : Option Why) → MakesOr cost (shelf_of old) (shelf_of new) old.full new.full (Ok r) → AreTold entry new.room (count_of new) new.ended new.ended
  told None is = still is.0.none_failed
  told (Some why.Large) is = as_was is.0
  told (Some why.Number) is = still is.0.none_failed
  told (Some why.Bucket) is = absurd is
  told (Some why.Full) is = still is.0.none_failed

  pub told_fault : (fault : RunFault) → MakesOr cost (shelf_of old) (shelf_of new) old.full new.full (Err fault) → TellsWith entry new fault
  told_fault fault is after more now = told_with (shelf_of old) (shelf_of new) entry history old.ended after old.ended more fault ready goes.room is.0 (subst (λ ended. TellsNow ended after ended more fault) ended_same now) g.told
