-- Sealing what waits.
use Rattle.std.proofs.Common.{◌≡◌, ◌∙◌, ℕ, ◌+◌, ◌≤◌, true, List, inl, inr, None, Ok, Err, refl, sym, ap, subst}
use Rattle.std.specs.Prelude.{OnOk, Result, option_to_list}
use Rattle.std.specs.List.{list_all}
use Rattle.fine_model.specs.declared.law.RoomState.{RoomState}
use Rattle.fine_model.specs.Boards.{Buffer, is_empty}
use Rattle.fine_model.specs.Jobs.{KeepsJob}
use Rattle.epoch_room.specs.Gate.{KeepsBeside}
use Rattle.epoch_room.specs.Meaning.{HoldsEpoch, Keeps}
use Rattle.epoch_room.specs.Steps.{SealsOr as RoomSealsOr, sealed_state}
use Rattle.epoch_room.specs.Value.{RoomValue}
use Rattle.epoch_room.specs.Whole.{IsWhole}
use Rattle.epoch_room.specs.declared.answers.RoomFault.{RoomFault}
use Rattle.epoch_room.specs.declared.answers.RoomFault.TheVariants as room_fault
use Rattle.epoch_room.proofs.Counting.{sealed_most}
use Rattle.room_shelf.specs.Shelves.{IsShelf, ShelfValue}
use Rattle.run_laws.proofs.Going.{seals_law}
use Rattle.room_steps.specs.Made.{MadeOn}
use Rattle.fine_model.specs.declared.RunFault.{RunFault}
use Rattle.room_steps.specs.Merging.{of_room}
use Rattle.room_steps.proofs.MadeOn.{made_same}
use Rattle.room_steps.proofs.BesideMade.{kept_made}
use Rattle.room_steps.proofs.SealedMade.{seal_made, target_apart}
use Rattle.run_laws.specs.Needs.{Unsealed}
use Rattle.room_steps.specs.Steps.{Leaves, SealsWaiting}
use Rattle.room_steps.proofs.Facts.{Rested, has_failed, leaves_on, on_sealed, unsealed_on, was_shut, well_counts, well_on, failed_on}

sealed_board : (value : RoomValue) → (sealed_state value).board ≡ value.room.board
unfolding sealed_state
sealed_board value = refl

sealed_places : (value : RoomValue) → (sealed_state value).places ≡ value.room.places
unfolding sealed_state
sealed_places value = refl

sealed_number : (value : RoomValue) → (sealed_state value).sealed ≡ value.room.sealed + 1
unfolding sealed_state
sealed_number value = refl

sealed_waiting : (value : RoomValue) → (sealed_state value).waiting ≡ 0
unfolding sealed_state
sealed_waiting value = refl

sealed_shut : (value : RoomValue) → (sealed_state value).is_shut ≡ value.room.is_shut
unfolding sealed_state
sealed_shut value = refl

-- what a seal leaves as it is, whatever it answers
record Beside (old new : RoomValue) : Type 0 where
  board : new.room.board ≡ old.room.board
  entry : new.entry ≡ old.entry
  places : new.room.places ≡ old.room.places

beside : (old new : RoomValue) (r : Result ℕ RoomFault) → RoomSealsOr old new r → Beside old new
beside old new (Ok epoch) s = let steps = s.2.1 in record { board = ap (λ (r : RoomState). r.board) steps.room ∙ sealed_board old; entry = steps.entry; places = ap (λ (r : RoomState). r.places) steps.room ∙ sealed_places old }
beside old new (Err room_fault.Disk) s = let steps = s.1 in record { board = ap (λ (r : RoomState). r.board) steps.room; entry = steps.entry; places = ap (λ (r : RoomState). r.places) steps.room }
beside old new (Err (room_fault.Shut epoch)) s =
    let same = s.2 in record { board = ap (λ (v : RoomValue). v.room.board) same; entry = ap (λ (v : RoomValue). v.entry) same; places = ap (λ (v : RoomValue). v.room.places) same }
beside old new (Err room_fault.NoMemory) s = let steps = s.1 in record { board = ap (λ (r : RoomState). r.board) steps.room; entry = steps.entry; places = ap (λ (r : RoomState). r.places) steps.room }

module _ (old mid new : ShelfValue) (r : Rested old mid) (some : 1 ≤ old.room.room.waiting) (none : new.view ≡ None) (whole : IsWhole new.room) (keeps : Keeps mid.room new.room) (job : KeepsJob mid.room.room new.room.room)
    (read : KeepsBeside (option_to_list mid.room.target) mid.room.disk new.room.disk) where
  some_wait : 1 ≤ mid.room.room.waiting
  some_wait = subst (λ n. 1 ≤ n) (sym r.unsealed.waiting) some

  -- what the live parts are made of
  makes : (result : Result ℕ RoomFault) → RoomSealsOr mid.room new.room result → OnOk result (HoldsEpoch mid.room new.room) → MadeOn mid.room new.room
  makes (Ok epoch) s holds = seal_made mid.room new.room r.leaves.whole whole some_wait epoch s read holds
  makes (Err room_fault.Disk) s holds =
      kept_made mid.room new.room r.leaves.whole whole s.0 s.1.regions (option_to_list mid.room.target) (target_apart mid.room r.leaves.whole) read (ap (λ (x : RoomState). x.open_rows) s.1.room) (ap (λ (x : RoomState). x.parts) s.1.room)
  makes (Err (room_fault.Shut epoch)) s holds =
      made_same mid.room new.room (ap (λ (v : RoomValue). v.room.open_rows) s.2) (ap (λ (v : RoomValue). v.room.image) s.2) (ap (λ (v : RoomValue). v.room.parts) s.2)
  makes (Err room_fault.NoMemory) s holds =
      kept_made mid.room new.room r.leaves.whole whole s.0 s.1.regions (option_to_list mid.room.target) (target_apart mid.room r.leaves.whole) read (ap (λ (x : RoomState). x.open_rows) s.1.room) (ap (λ (x : RoomState). x.parts) s.1.room)

  seal_leaves : (result : Result ℕ RoomFault) → RoomSealsOr mid.room new.room result → OnOk result (HoldsEpoch mid.room new.room) → Leaves mid new
  seal_leaves result s holds =
      let b = beside mid.room new.room result s in record {
        shelf = subst (λ v. IsShelf new.room.room v) (sym none) (subst (λ (board : List Buffer). list_all is_empty board ≡ true) (sym b.board) r.board);
        whole = whole;
        no_job = job.job ∙ r.leaves.no_job;
        entry = b.entry;
        places = b.places;
        most = sealed_most new.room whole;
        becomes = keeps.becomes;
        goes_on = λ entry history g. seals_law entry mid.room new.room history result g whole some_wait s keeps job.job;
        made = makes result s holds;
      }

  pub sealed_ok : (epoch : ℕ) → RoomSealsOr mid.room new.room (Ok epoch) → HoldsEpoch mid.room new.room → SealsWaiting old new (Ok epoch)
  sealed_ok epoch s holds = record {
    leaves = leaves_on old mid new r.leaves (seal_leaves (Ok epoch) s holds);
    rested = none;
    seals = (
      well_on old mid new r.none_failed (well_counts mid new r.none none s.2.2 s.2.0 (ap (λ (x : RoomState). x.is_shut) s.2.1.room ∙ sealed_shut mid.room ∙ s.2.0)),
      on_sealed old.room.room mid.room.room new.room.room r.unsealed (record { some = some_wait; sealed = number; waiting = ap (λ (x : RoomState). x.waiting) s.2.1.room ∙ sealed_waiting mid.room }),
      s.0 ∙ sym number,
    );
  }
    where
      number : new.room.room.sealed ≡ mid.room.room.sealed + 1
      number = ap (λ (x : RoomState). x.sealed) s.2.1.room ∙ sealed_number mid.room

  stays : Unsealed mid.room.room new.room.room → Unsealed old.room.room new.room.room
  stays u = unsealed_on old.room.room mid.room.room new.room.room r.unsealed u

  sealed_err : (fault : RoomFault) → RoomSealsOr mid.room new.room (Err fault) → (new.room ≡ mid.room → new ≡ mid) → SealsWaiting old new (Err (of_room fault))
  sealed_err room_fault.Disk s same = record {
    leaves = leaves_on old mid new r.leaves (seal_leaves (Err room_fault.Disk) s tt);
    rested = none;
    seals = (
      inr (failed_on old mid new r.none_failed (has_failed mid new r.none none s.2.faults s.2.no_lower.0 s.2.no_lower.1)),
      stays (record { sealed = ap (λ (x : RoomState). x.sealed) s.1.room; waiting = ap (λ (x : RoomState). x.waiting) s.1.room; used = ap (λ (x : RoomState). x.used) s.1.room }),
      ap (λ (x : RoomState). x.is_shut) s.1.room,
    );
  }
  sealed_err (room_fault.Shut epoch) s same = record {
    leaves = leaves_on old mid new r.leaves (seal_leaves (Err (room_fault.Shut epoch)) s tt);
    rested = none;
    seals = (
      inl (was_shut old mid new r s.0 (same s.2)),
      stays (record { sealed = ap (λ (v : RoomValue). v.room.sealed) s.2; waiting = ap (λ (v : RoomValue). v.room.waiting) s.2; used = ap (λ (v : RoomValue). v.room.used) s.2 }),
      ap (λ (v : RoomValue). v.room.is_shut) s.2 ∙ s.0,
    );
  }
  sealed_err room_fault.NoMemory s same = record {
    leaves = leaves_on old mid new r.leaves (seal_leaves (Err room_fault.NoMemory) s tt);
    rested = none;
    seals = (
      well_on old mid new r.none_failed (well_counts mid new r.none none s.2 s.0 (ap (λ (x : RoomState). x.is_shut) s.1.room ∙ s.0)),
      stays (record { sealed = ap (λ (x : RoomState). x.sealed) s.1.room; waiting = ap (λ (x : RoomState). x.waiting) s.1.room; used = ap (λ (x : RoomState). x.used) s.1.room }),
    );
  }

  -- so a seal that ended with a fault, by what is told of it
  pub seal_failed : (fault : RoomFault) (told : RunFault) (result : Result ℕ RoomFault) → told ≡ of_room fault → result ≡ Err fault → RoomSealsOr mid.room new.room result → (new.room ≡ mid.room → new ≡ mid) → SealsWaiting old new (Err told)
  seal_failed fault told result is ended s same = subst (λ (f : RunFault). SealsWaiting old new (Err f)) (sym is) (sealed_err fault (subst (RoomSealsOr mid.room new.room) ended s) same)
