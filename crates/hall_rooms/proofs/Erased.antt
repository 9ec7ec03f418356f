-- A turn of the room in which retired parts are erased.
use Rattle.std.proofs.Common.{◌≡◌, ℕ, List, [], ◌∷◌, length, None, Ok, Err, refl, sym, ap, ◌∙◌, subst, arith}
use Rattle.std.specs.Prelude.{Result, OnOk}
use Rattle.fine_model.specs.declared.law.RoomState.{RoomState}
use Rattle.fine_model.specs.Jobs.{KeepsJob}
use Rattle.fine_model.proofs.Histories.Goings.{job_itself}
use Rattle.log_disk.specs.Disk.{SameBeside}
use Rattle.epoch_room.specs.Erasing.{ErasesAllOr, FreesThese, erased_state, held, led_by, left_state, unheld}
use Rattle.epoch_room.specs.Meaning.{Keeps}
use Rattle.epoch_room.specs.Steps.{Does, shut_state}
use Rattle.epoch_room.specs.Value.{RoomValue, all_regions}
use Rattle.epoch_room.specs.Whole.{IsWhole}
use Rattle.epoch_room.specs.declared.answers.RoomFault.{RoomFault}
use Rattle.epoch_room.specs.declared.answers.RoomFault.TheVariants as room_fault
use Rattle.fine_hall.specs.declared.law.Beginning.{Beginning}
use Rattle.fine_hall.specs.Halls.{GivesRoom}
use Rattle.hall_rooms.specs.Rooms.{RoomPass}
use Rattle.hall_rooms.specs.Turning.{ErasesThese, MeetsNone, SettlesTurn}
use Rattle.hall_rooms.specs.Steps.{BeginsTurn, ErasesOr, InTurn, IsCleanTurn, LeavesViews, SameEpochs}
use Rattle.hall_rooms.proofs.GivenBack.{met_none, met_some}
use Rattle.hall_rooms.proofs.Renewing.{turns_none}
use Rattle.hall_rooms.proofs.Turned.{epochs_stay, leaves_none, left_but_read, left_counts, left_rises, left_still, left_views, some_failed, stepped}

-- what erasing the parts of some leads leaves, where no call failed
record Freed (leads : List ℕ) (old new : RoomValue) : Type 0 where
  pub leaves : LeavesViews old new
  pub epochs : SameEpochs old.room new.room
  pub is_shut : new.room.is_shut ≡ old.room.is_shut
  pub faults : new.room.faults ≡ old.room.faults
  pub same : new.room ≡ record old.room { retired = new.room.retired; free = new.room.free; image = new.room.image }

module _ (old new : RoomValue) (whole : IsWhole old) (beside : SameBeside old.disk new.disk) (keeps : Keeps old new) (job : KeepsJob old.room new.room) where
  did : (leads : List ℕ) → Does (erased_state old.room leads) old.target old new → Freed leads old new
  did leads s = record {
    leaves = left_views old new whole beside keeps job _ _ s.1 refl refl;
    epochs = (ap (λ (r : RoomState). r.sealed) s.1.room, ap (λ (r : RoomState). r.waiting) s.1.room);
    is_shut = ap (λ (r : RoomState). r.is_shut) s.1.room;
    faults = left_counts old new whole beside keeps job _ _ s.1 s.2;
    same = is ∙ (λ i. record old.room { retired = ap (λ (r : RoomState). r.retired) (sym is) i; free = ap (λ (r : RoomState). r.free) (sym is) i; image = new.room.image });
  }
    where
      is : new.room ≡ record (erased_state old.room leads) { image = new.room.image }
      is = left_still old new whole beside keeps job _ _ s.1 s.2 (λ r. erased_state r leads) (λ d. refl)

  nothing : new ≡ old → (leads : List ℕ) → Freed leads old new
  nothing is leads = subst (Freed leads old) (sym is) (record { leaves = leaves_none old whole; epochs = (refl, refl); is_shut = refl; faults = refl; same = refl })

  freed : (leads : List ℕ) → FreesThese leads old new → Freed leads old new
  freed [] s = nothing (s.0 refl) []
  freed (l ∷ leads) s = did (l ∷ leads) (s.1 (λ e. absurd (let n = ap length e in omega (arith, n)))).1

  erases : (leads : List ℕ) → FreesThese leads old new → ErasesThese leads old.room new.room
  erases leads s = record {
    none = λ none. ap (λ (v : RoomValue). v.room) (s.0 none);
    retired = λ some. ap (λ (r : RoomState). r.retired) (s.1 some).1.1.room;
    freed = λ some. ap (λ (r : RoomState). r.free) (s.1 some).1.1.room;
    same = (freed leads s).same;
  }

  pub erased_or : (r : Result ℕ RoomFault) → ErasesAllOr old new r → OnOk r (new.room.retired ≡ held old.room) → ErasesOr old new r
  erased_or (Ok erased) s left = let f = freed (unheld old.room) s.2 in (f.leaves, f.epochs, s.0, f.is_shut ∙ s.0, record { count = s.1; left = left; erases = erases (unheld old.room) s.2 }, f.faults)
  erased_or (Err room_fault.Disk) s left =
      let d = s.5 in (
        left_views old new whole beside keeps job _ _ d.1 refl refl,
        (ap (λ (r : RoomState). r.sealed) d.1.room, ap (λ (r : RoomState). r.waiting) d.1.room),
        d.0,
        ap (λ (r : RoomState). r.is_shut) d.1.room,
        left_rises old new whole beside keeps job _ _ d.1 d.2,
        record { begun = s.0; more = s.1; are = s.2; some = s.3; none_lost = whole.lost d.0; same = left_but_read old new whole beside keeps job _ _ d.1 (λ r. shut_state (left_state r s.0) (all_regions (led_by s.0 r.retired))) (λ e. refl) },
      )
  erased_or (Err (room_fault.Shut epoch)) s left = s
  erased_or (Err room_fault.NoMemory) s left =
      let f = freed s.1.0 s.1.4 in (f.leaves, f.epochs, f.is_shut ∙ s.0, f.faults, record { begun = s.1.0; more = s.1.1; are = s.1.2; not_all = s.1.3; erases = erases s.1.0 s.1.4 })

-- ---- the turn

-- whatever erasing answers, the room may be given back
pub may_settle : (x : Beginning) (old new : RoomValue) (p : RoomPass) (c : IsCleanTurn x old p) (r : Result ℕ RoomFault) → ErasesOr old new r → InTurn x new p c.note
may_settle x old new p c (Ok erased) s = stepped x p old new c.note c.turn s.0 (epochs_stay x p old new c.note c.turn s.1)
may_settle x old new p c (Err room_fault.Disk) s = stepped x p old new c.note c.turn s.0 (epochs_stay x p old new c.note c.turn s.1)
may_settle x old new p c (Err (room_fault.Shut epoch)) s = subst (λ r. InTurn x r p c.note) (sym s.2) c.turn
may_settle x old new p c (Err room_fault.NoMemory) s = stepped x p old new c.note c.turn s.0 (epochs_stay x p old new c.note c.turn s.1)

pub job_kept : (old new : RoomValue) (r : Result ℕ RoomFault) → ErasesOr old new r → KeepsJob old.room new.room
job_kept old new (Ok erased) s = s.0.job
job_kept old new (Err room_fault.Disk) s = s.0.job
job_kept old new (Err (room_fault.Shut epoch)) s = subst (λ (v : RoomValue). KeepsJob old.room v.room) (sym s.2) (job_itself old.room)
job_kept old new (Err room_fault.NoMemory) s = s.0.job

module _ (x : Beginning) (found new : RoomValue) (p q r : RoomPass) (b : BeginsTurn x p q found) (third : r.number ≡ q.number) (gave : GivesRoom new.room None 0 b.clean.note q r) where
  met_same : new.room.faults ≡ found.room.faults → MeetsNone x p r
  met_same same = met_none x found new p q q r b refl third (turns_none x q) b.clean.note gave (let n = b.clean.none_failed in omega (arith, n, same))

  pub settles_turn : (answer : Result ℕ RoomFault) → ErasesOr found new answer → SettlesTurn x found.room new.room p r answer
  settles_turn (Ok erased) s = (s.3, s.4, met_same s.5)
  settles_turn (Err room_fault.Disk) s = (s.2, s.3, s.5, met_some x found new p q q r b refl third (turns_none x q) b.clean.note gave (some_failed x q found new b.clean.note b.clean.turn s.4))
  settles_turn (Err (room_fault.Shut epoch)) s = (s.0, s.1, ap (λ (v : RoomValue). v.room) s.2, met_same (ap (λ (v : RoomValue). v.room.faults) s.2))
  settles_turn (Err room_fault.NoMemory) s = (s.2, s.4, met_same s.3)
