-- What waited in a room is sealed.
use Rattle.std.proofs.Common.{◌≡◌, inl, inr, ℕ, ◌+◌, ◌≤◌, true, None, Ok, refl, sym, ap, subst, ◌∙◌}
use Rattle.std.specs.List.{list_all}
use Rattle.fine_model.specs.declared.law.RoomState.{RoomState}
use Rattle.fine_model.specs.Boards.{is_empty}
use Rattle.fine_model.specs.Jobs.{KeepsJob}
use Rattle.epoch_room.specs.Meaning.{Keeps}
use Rattle.epoch_room.specs.Steps.{SealsOr, sealed_state}
use Rattle.epoch_room.specs.Value.{RoomValue}
use Rattle.epoch_room.specs.Whole.{IsWhole}
use Rattle.lane_laws.specs.Joined.{SealsLeft}
use Rattle.std.proofs.lemmas.Option.{none-some}

sealed_board : (value : RoomValue) → (sealed_state value).board ≡ value.room.board
unfolding sealed_state
sealed_board value = refl

sealed_places : (value : RoomValue) → (sealed_state value).places ≡ value.room.places
unfolding sealed_state
sealed_places value = refl

sealed_number : (value : RoomValue) → (sealed_state value).sealed ≡ value.room.sealed + 1
unfolding sealed_state
sealed_number value = refl

sealed_waiting : (value : RoomValue) → (sealed_state value).waiting ≡ 0
unfolding sealed_state
sealed_waiting value = refl

sealed_shut : (value : RoomValue) → (sealed_state value).is_shut ≡ value.room.is_shut
unfolding sealed_state
sealed_shut value = refl

pub seals_left : (back new : RoomValue) (epoch : ℕ) → IsWhole new → list_all is_empty back.room.board ≡ true → back.room.job ≡ None → 1 ≤ back.room.waiting → Keeps back new → KeepsJob back.room new.room → SealsOr back new (Ok epoch) → SealsLeft back new None
seals_left back new epoch whole board no_job some keeps job s =
    let is = s.2.1.room in record {
      whole = whole;
      entry = s.2.1.entry;
      stands = keeps.stands;
      becomes = keeps.becomes;
      epochs = inr (record { some = some; sealed = ap (λ (r : RoomState). r.sealed) is ∙ sealed_number back; waiting = ap (λ (r : RoomState). r.waiting) is ∙ sealed_waiting back });
      places = ap (λ (r : RoomState). r.places) is ∙ sealed_places back;
      board = subst (λ (l : _). list_all is_empty l ≡ true) (sym (ap (λ (r : RoomState). r.board) is ∙ sealed_board back)) board;
      no_job = job.job ∙ no_job;
      opened = inl (ap (λ (r : RoomState). r.is_shut) is ∙ sealed_shut back);
      none_wait = λ unshut free. ap (λ (r : RoomState). r.waiting) is ∙ sealed_waiting back;
      some_wait = λ e. absurd (none-some _ e);
      failed = λ e. absurd (none-some _ e);
      clean = inl s.2.2.faults;
      undamaged = λ what e. none-some _ e;
    }
