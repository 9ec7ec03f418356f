-- What faults tell behind a step.
use Rattle.std.proofs.Common.{◌∙◌, ℕ, ◌+◌, ◌≤◌, min, List, inl, inr, Option, refl, sym, ap, subst, arith}
use Rattle.fine_model.specs.declared.RunFault.{RunFault}
use Rattle.fine_model.specs.declared.RunFault.TheVariants as run_fault
use Rattle.fine_model.specs.Damages.{IsPlaceOrNode}
use Rattle.fine_model.specs.Faults.{last_count}
use Rattle.fine_model.specs.History.{Commit}
use Rattle.epoch_room.specs.Value.{RoomValue}
use Rattle.room_shelf.specs.Shelves.{IsCountOf, ShelfValue, count_of, total}
use Rattle.run_laws.specs.Runs.{IsReady}
use Rattle.run_laws.specs.SoFar.{AreTold, GoesOn}
use Rattle.run_laws.specs.Told.{HasCause}
use Rattle.run_laws.proofs.Tellings.{told_more, told_stays}
use Rattle.room_steps.specs.Laws.{TellsNow, ToldStill, ToldWith}
use Rattle.room_steps.specs.Steps.{FaultOf, HasFailed}

pub told_still : ToldStill
told_still old new entry ended told n t =
    told_stays entry old.room new.room (total old) (total new) ended told n.count (let e = n.own in omega (arith, e)) n.shut t

module _ (old new : ShelfValue) (entry : RoomValue) (history : List Commit) (ended after told more : List (Option RunFault)) (ready : IsReady entry) (g : GoesOn entry new.room history) (t : AreTold entry old.room (total old) ended told) where
  low : min new.room.disk.faults last_count ≤ total new
  low = by (count_of new.view)
    where
      by : (n : ℕ) → min new.room.disk.faults last_count ≤ new.room.disk.faults + n
      by n = omega arith

  -- the room as it was, with the count as the view was taken back
  from : (rested : ℕ) (fault : RunFault) → IsCountOf (total old) rested → TellsNow ended after told more fault → HasCause entry old.room new.room rested (total new) fault → rested ≤ total new
      → old.room.disk.own_faults ≤ new.room.disk.own_faults → AreTold entry new.room (total new) after more
  from rested fault count now cause no_lower own =
      told_more entry old.room new.room rested (total new) ended after told more history fault ready
      (told_stays entry old.room old.room (total old) rested ended told count (omega arith) refl t)
      (record { goes_on = g; cause = cause; adds = now.adds; lanes = now.lanes; counted = now.counted; all = now.all; no_lower = (no_lower, own); is_total = low })

  failed : HasFailed old new → TellsNow ended after told more run_fault.Disk → AreTold entry new.room (total new) after more
  failed f now = from f.rested run_fault.Disk f.count now (inl f.rises) f.no_lower.0 f.no_lower.1

  by_fault : (fault : RunFault) → FaultOf old new fault → TellsNow ended after told more fault → AreTold entry new.room (total new) after more
  by_fault run_fault.Disk (inl was) now =
      from (total old) run_fault.Disk (inl refl) now (inr (ap (λ (s : ShelfValue). s.room.room.is_shut) was.same ∙ was.shut)) (let e = ap total was.same in omega (arith, e))
      (let e = ap (λ (s : ShelfValue). s.room.disk.own_faults) was.same in omega (arith, e))
  by_fault run_fault.Disk (inr f) now = failed f now
  by_fault run_fault.Memory w now = from (total new) run_fault.Memory w.none_failed.count now tt (omega arith) (let e = w.none_failed.own in omega (arith, e))
  by_fault (run_fault.Damaged what) (w, place) now =
      from (total new) (run_fault.Damaged what) w.none_failed.count now (refl, w.none_failed.shut, subst IsPlaceOrNode (sym place.is) tt, place.unsound entry history g) (omega arith) (let e = w.none_failed.own in omega (arith, e))

pub told_with : ToldWith
told_with old new entry history ended after told more fault ready g f now t = by_fault old new entry history ended after told more ready g t fault f now
