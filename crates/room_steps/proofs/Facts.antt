-- What steps leave, one behind the other.
use Rattle.std.proofs.Common.{◌≡◌, ◌∙◌, ℕ, ◌+◌, ◌≤◌, min, true, false, inl, inr, Option, Some, None, refl, sym, ap, subst, arith, true≢false}
use Rattle.std.specs.List.{list_all}
use Rattle.fine_model.specs.declared.RunFault.{RunFault}
use Rattle.fine_model.specs.declared.RunFault.TheVariants as run_fault
use Rattle.fine_model.specs.declared.law.RoomState.{RoomState}
use Rattle.fine_model.specs.Boards.{is_empty}
use Rattle.fine_model.specs.Faults.{HasRisen, last_count}
use Rattle.fine_model.proofs.Histories.Goings.{becomes_itself, becomes_on}
use Rattle.partition_hold.specs.Views.{ViewValue}
use Rattle.epoch_room.specs.Steps.{KeepsCounts}
use Rattle.epoch_room.specs.Whole.{IsWhole}
use Rattle.epoch_room.proofs.Counting.{sealed_most}
use Rattle.room_shelf.specs.Shelves.{IsCountOf, IsShelf, ShelfValue, count_of, total}
use Rattle.run_laws.specs.Going.{StaysOn}
use Rattle.run_laws.proofs.Going.{later_law, stays_law}
use Rattle.room_steps.specs.Made.{MadeOn}
use Rattle.room_steps.specs.Merging.{TakesView}
use Rattle.run_laws.specs.Needs.{IsSealed, Unsealed}
use Rattle.room_steps.specs.Steps.{FaultOf, HasFailed, IsWell, Leaves, NoneFailed, WasShut}
use Rattle.room_steps.proofs.MadeOn.{made_itself, made_on, made_same}

-- ---- what is left

pub leaves_itself : (s : ShelfValue) → IsShelf s.room.room s.view → IsWhole s.room → s.room.room.job ≡ None → Leaves s s
leaves_itself s on_shelf whole none = record {
  shelf = on_shelf;
  whole = whole;
  no_job = none;
  entry = refl;
  places = refl;
  most = sealed_most s.room whole;
  becomes = becomes_itself s.room.room;
  goes_on = λ entry history g. g;
  made = made_itself s.room;
}

pub leaves_on : (a b c : ShelfValue) → Leaves a b → Leaves b c → Leaves a c
leaves_on a b c p q = record {
  shelf = q.shelf;
  whole = q.whole;
  no_job = q.no_job;
  entry = q.entry ∙ p.entry;
  places = q.places ∙ p.places;
  most = q.most;
  becomes = becomes_on a.room.room b.room.room c.room.room p.becomes q.becomes;
  goes_on = λ entry history g. q.goes_on entry history (p.goes_on entry history g);
  made = made_on a.room b.room c.room p.becomes.region_len p.becomes.told p.made q.made;
}

-- where nothing was added or sealed
pub leaves_staying : (old new : ShelfValue) → StaysOn old.room new.room → MadeOn old.room new.room → old.room.room.job ≡ None → IsShelf new.room.room new.view → IsWhole new.room → Leaves old new
leaves_staying old new stays made none on_shelf whole = record {
  shelf = on_shelf;
  whole = whole;
  no_job = stays.job ∙ none;
  entry = stays.entry;
  places = stays.places;
  most = sealed_most new.room whole;
  becomes = stays.becomes;
  goes_on = λ entry history g. stays_law entry old.room new.room history g whole stays;
  made = made;
}

pub unsealed_itself : (room : RoomState) → Unsealed room room
unsealed_itself room = record { sealed = refl; waiting = refl; used = refl }

pub unsealed_on : (a b c : RoomState) → Unsealed a b → Unsealed b c → Unsealed a c
unsealed_on a b c p q = record { sealed = q.sealed ∙ p.sealed; waiting = q.waiting ∙ p.waiting; used = q.used ∙ p.used }

pub sealed_on : (a b c : RoomState) → IsSealed a b → Unsealed b c → IsSealed a c
sealed_on a b c p q = record { some = p.some; sealed = q.sealed ∙ p.sealed; waiting = q.waiting ∙ p.waiting }

pub on_sealed : (a b c : RoomState) → Unsealed a b → IsSealed b c → IsSealed a c
on_sealed a b c p q = record { some = subst (λ n. 1 ≤ n) p.waiting q.some; sealed = q.sealed ∙ ap (λ n. n + 1) p.sealed; waiting = q.waiting }

-- ---- counts

pub count_on : (a b c : ℕ) → IsCountOf a b → IsCountOf b c → IsCountOf a c
count_on a b c (inl x) (inl y) = inl (y ∙ x)
count_on a b c (inl x) (inr y) = inr (y ∙ ap (λ n. min n last_count) x)
count_on a b c (inr x) (inl y) = inr (y ∙ x)
count_on a b c (inr x) (inr y) = inr (grind (arith, x, y))

pub none_failed_itself : (s : ShelfValue) → NoneFailed s s
none_failed_itself s = record { count = inl refl; own = refl; shut = refl }

pub none_failed_on : (a b c : ShelfValue) → NoneFailed a b → NoneFailed b c → NoneFailed a c
none_failed_on a b c p q = record { count = count_on (total a) (total b) (total c) p.count q.count; own = q.own ∙ p.own; shut = q.shut ∙ p.shut }

pub well_on : (a b c : ShelfValue) → NoneFailed a b → IsWell b c → IsWell a c
well_on a b c p q = record { none_failed = none_failed_on a b c p q.none_failed; opened = q.opened }

pub failed_on : (a b c : ShelfValue) → NoneFailed a b → HasFailed b c → HasFailed a c
failed_on a b c p q = record {
  rested = q.rested;
  count = count_on (total a) (total b) q.rested p.count q.count;
  rises = q.rises;
  no_lower = (q.no_lower.0, (let e = p.own in let h = q.no_lower.1 in omega (arith, e, h)));
}

-- a fault behind steps that went well
pub fault_on : (a b c : ShelfValue) (fault : RunFault) → IsWell a b → FaultOf b c fault → FaultOf a c fault
fault_on a b c run_fault.Disk p (inl was) = absurd (true≢false (sym was.shut ∙ p.opened))
fault_on a b c run_fault.Disk p (inr failed) = inr (failed_on a b c p.none_failed failed)
fault_on a b c run_fault.Memory p q = well_on a b c p.none_failed q
fault_on a b c (run_fault.Damaged what) p q = (well_on a b c p.none_failed q.0, q.1)

-- with no view out, all faults are the disk's
pub total_none : (s : ShelfValue) → s.view ≡ None → total s ≡ s.room.disk.faults
total_none s none = let e = ap count_of none in omega (arith, e)

module _ (old new : ShelfValue) (none : old.view ≡ None) (none_now : new.view ≡ None) where
  -- the disk was called, and no call failed
  pub well_counts : KeepsCounts old.room.disk new.room.disk → old.room.room.is_shut ≡ false → new.room.room.is_shut ≡ false → IsWell old new
  well_counts counts opened still = record {
    none_failed = record { count = inl (total_none new none_now ∙ counts.faults ∙ sym (total_none old none)); own = counts.own_faults; shut = still ∙ sym opened };
    opened = still;
  }

  -- a call failed
  pub has_failed : HasRisen old.room.disk.faults new.room.disk.faults → old.room.disk.faults ≤ new.room.disk.faults → old.room.disk.own_faults ≤ new.room.disk.own_faults → HasFailed old new
  has_failed rises low own = record {
    rested = total old;
    count = inl refl;
    rises = subst (λ n. HasRisen n (total new)) (sym (total_none old none)) (subst (HasRisen old.room.disk.faults) (sym (total_none new none_now)) rises);
    no_lower = ((let a = total_none old none in let b = total_none new none_now in omega (arith, a, b, low)), own);
  }

-- ---- the view that is taken back

-- no view is out of a room that is shut
pub shut_none : (room : RoomState) (out : Option ViewValue) → IsShelf room out → room.is_shut ≡ true → out ≡ None
shut_none room None on_shelf shut = refl
shut_none room (Some view) on_shelf shut = absurd (true≢false (sym shut ∙ on_shelf.opened))

-- no view is out any more, and the room is as it was
pub record Rested (old new : ShelfValue) : Type 0 where
  pub leaves : Leaves old new
  pub unsealed : Unsealed old.room.room new.room.room
  pub none_failed : NoneFailed old new
  pub none : new.view ≡ None
  pub board : list_all is_empty new.room.room.board ≡ true
  pub parts : new.room.room.parts ≡ old.room.room.parts
  pub same : old.room.room.is_shut ≡ true → new ≡ old

pub rested : (old new : ShelfValue) → TakesView old new → IsShelf old.room.room old.view → old.room.room.job ≡ None → IsWhole new.room → Rested old new
rested old new t on_shelf none whole = record {
  leaves = leaves_staying old new stays seen none (subst (λ v. IsShelf new.room.room v) (sym t.none) t.rests.board) whole;
  unsealed = record { sealed = stays.sealed; waiting = stays.waiting; used = ap (λ (r : RoomState). r.used) t.rests.later.room };
  none_failed = record { count = subst (IsCountOf (total old)) (sym (total_none new t.none)) t.rests.count; own = t.rests.own; shut = t.rests.shut };
  none = t.none;
  board = t.rests.board;
  parts = ap (λ (r : RoomState). r.parts) t.rests.later.room;
  same = λ shut. t.same (shut_none old.room.room old.view on_shelf shut);
}
  where
    stays : StaysOn old.room new.room
    stays = later_law old.room new.room old.view None t.rests.later

    seen : MadeOn old.room new.room
    seen =
        made_same old.room new.room (ap (λ (r : RoomState). r.open_rows) t.rests.later.room) (ap (λ (r : RoomState). r.image) t.rests.later.room) (ap (λ (r : RoomState). r.parts) t.rests.later.room)

-- a room that was shut is as it was
pub was_shut : (old mid new : ShelfValue) → Rested old mid → mid.room.room.is_shut ≡ true → new ≡ mid → WasShut old new
was_shut old mid new r shut same =
    let before : old.room.room.is_shut ≡ true = sym r.none_failed.shut ∙ shut in record { shut = before; same = same ∙ r.same before }
